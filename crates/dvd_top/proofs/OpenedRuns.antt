-- Runs over captures that open with a header: what holds of every run over the blocks holds of them.
use Rattle.std.proofs.Common.{◌≡◌, ◌⊎◌, ◌∙◌, inl, inr, ℕ, zero, suc, ◌+◌, ◌^◌, ◌<◌, ◌≤◌, true, false, List, [], ◌∷◌, ◌++◌, length, length-append, take, drop, slice_index, All, Option, Some, None, refl, ap, sym, subst, append-nil, take-append-drop, arith}
use Rattle.std.specs.Int.{from_be_bytes, w32}
use Rattle.std.proofs.lemmas.Bool.{cases_lt}
use Rattle.std.proofs.lemmas.List.{length-take-le}
use Rattle.std.proofs.lemmas.List.Elements.{All-drop, All-take}
use Rattle.dvd_capture.specs.Header.{IsFirstWrongByte, may_be_there}
use Rattle.dvd_capture.specs.declared.form.Form.{Form}
use Rattle.dvd_capture.specs.declared.form.Form.TheVariants.{Plain, Marked, Listed}
use Rattle.dvd_capture.specs.declared.header.Header.{Header}
use Rattle.dvd_capture.proofs.Headers.{each_byte, header-is, shape-known, zones-known}
use Rattle.dvd_layout.specs.declared.fault.LayoutFault.{LayoutFault}
use Rattle.dvd_layout.specs.declared.layout.Shape.{Shape}
use Rattle.dvd_layout.specs.declared.layout.Shape.TheVariants.{Single, Parallel, Opposite}
use Rattle.dvd_loop.specs.Laws.{IsFaultless}
use Rattle.dvd_loop.specs.Machine.{Outcome, ended, taking}
use Rattle.dvd_loop.specs.declared.ends.LoopEnd.TheVariants.{BadHeader, ReadFault, ShortHeader}
use Rattle.dvd_loop.proofs.Faultless.{not_by_fault}
use Rattle.dvd_loop.proofs.Prefixes.{same_prefix, same_left}
use Rattle.dvd_loop.proofs.Totality.{Exists}
use Rattle.dvd_words.specs.Settings.{broken_rule}
use Rattle.dvd_words.specs.declared.settings.Settings.{Settings}
use Rattle.dvd_commands.specs.Opening.{AfterHeader, BreaksHeader, IsHeaderOf, IsOpened, Opens, fault_byte, shape_number}
use Rattle.dvd_commands.proofs.FrameBytes.{IsByte}
use Rattle.dvd_commands.proofs.OneRun.{AreSame, RunsOnce}
use Rattle.dvd_commands.proofs.ForRuns.{breaks_once, breaks_or_states, header-size, stated_once, zones_for}

-- equal outcomes are the same
pub same_as : (a b : Outcome) → a ≡ b → AreSame a b
same_as a b is = (ap (λ (o : Outcome). o.out) is, ap (λ (o : Outcome). o.lines) is, ap (λ (o : Outcome). o.end) is, λ not. ap (λ (o : Outcome). o.taken) is)

-- outcomes that are the same are so after the same bytes
same_onto : (own : List ℕ) (a b x y : Outcome) → a ≡ taking own x → b ≡ taking own y → AreSame x y → AreSame a b
same_onto own a b x y is so same =
    subst (λ o. AreSame o b) (sym is) (subst (AreSame (taking own x)) (sym so) (same.0, same.1, same.2, λ not. ap (λ l. own ++ l) (same.3 not)))

-- what runs may be over the blocks of a capture
abbrev pub Runs : Type 1
Runs = Settings → List ℕ → Outcome → Type 0

-- the input ended in the header
record OpensShort (bytes : List ℕ) (a : Outcome) : Type 0 where
  fewer : length bytes < 32
  is : a ≡ taking bytes (ended (ShortHeader (length bytes)))

-- the header breaks a rule
record OpensBad (settings : Settings) (bytes : List ℕ) (a : Outcome) : Type 0 where
  own : List ℕ
  left : List ℕ
  at : ℕ
  prefix : bytes ≡ own ++ left
  full : length own ≡ 32
  breaks : BreaksHeader settings own at
  is : a ≡ taking own (ended (BadHeader at))

-- or there is a run over the blocks after it
record OpensOnto (Loops : Runs) (settings : Settings) (bytes : List ℕ) (a : Outcome) : Type 0 where
  own : List ℕ
  left : List ℕ
  stated : Settings
  after : Outcome
  prefix : bytes ≡ own ++ left
  full : length own ≡ 32
  header : IsHeaderOf settings stated own
  none : broken_rule stated ≡ None
  loops : Loops stated left after
  is : a ≡ taking own after

-- a run that no fault ended is one of the three
opened_as : (Loops : Runs) (settings : Settings) (bytes : List ℕ) (a : Outcome) → IsOpened Loops settings bytes a → IsFaultless a.end
    → OpensShort bytes a ⊎ (OpensBad settings bytes a ⊎ OpensOnto Loops settings bytes a)
opened_as Loops settings bytes a o none =
    let faultless : IsFaultless o.after.end = subst (λ (x : Outcome). IsFaultless x.end) o.takes none in
    elim o.comes [
      | inl (fewer, inr fault) ↦ absurd (not_by_fault o.after _ fault (λ f. f) faultless)
      | inl (fewer, inl (nothing, is)) ↦
          let whole : o.own ≡ bytes = sym (o.prefix ∙ ap (λ l. o.own ++ l) nothing ∙ append-nil o.own) in
          inl (record {
            fewer = subst (λ l. length l < 32) whole fewer;
            is = o.takes ∙ ap (taking o.own) is ∙ ap (λ l. taking l (ended (ShortHeader (length l)))) whole;
          })
      | inr (full, inl (at, breaks, is)) ↦
          inr (inl (record { own = o.own; left = o.left; at = at; prefix = o.prefix; full = full; breaks = breaks; is = o.takes ∙ ap (taking o.own) is }))
      | inr (full, inr (stated, header, valid, loops)) ↦
          inr (inr (record {
            own = o.own;
            left = o.left;
            stated = stated;
            after = o.after;
            prefix = o.prefix;
            full = full;
            header = header;
            none = valid;
            loops = loops;
            is = o.takes;
          }))
    ]

-- fewer bytes than a header have don't begin with one
too_few : (bytes own left : List ℕ) → length bytes < 32 → bytes ≡ own ++ left → length own ≡ 32 → ⊥
too_few bytes own left fewer prefix full = omega (arith, fewer, ap length prefix, length-append own left, full)

-- What is done is determined, where it is so after the header.
module _ (Loops : Runs)
    (once : (stated : Settings) (left : List ℕ) → RunsOnce (Loops stated left))
    (settings : Settings) (bytes : List ℕ) (a b : Outcome) (none : IsFaultless a.end) (other : IsFaultless b.end) where
  -- two headers that break a rule break it at one place
  both_bad : OpensBad settings bytes a → OpensBad settings bytes b → AreSame a b
  both_bad p q =
      let own = same_prefix p.own q.own p.left q.left (sym p.prefix ∙ q.prefix) (p.full ∙ sym q.full) in
      let at = breaks_once settings q.own p.at q.at (subst (λ l. BreaksHeader settings l p.at) own p.breaks) q.breaks in
      same_as a b (p.is ∙ ap (λ l. taking l (ended (BadHeader p.at))) own ∙ ap (λ n. taking q.own (ended (BadHeader n))) at ∙ sym q.is)

  -- two runs after a header are over the same bytes by the same settings
  both_onto : OpensOnto Loops settings bytes a → OpensOnto Loops settings bytes b → AreSame a b
  both_onto p q =
      let own = same_prefix p.own q.own p.left q.left (sym p.prefix ∙ q.prefix) (p.full ∙ sym q.full) in
      let left = same_left p.own q.own p.left q.left (sym p.prefix ∙ q.prefix) own in
      let stated = stated_once settings p.stated q.stated q.own (subst (IsHeaderOf settings p.stated) own p.header) q.header in
      let loops : Loops q.stated q.left p.after = subst (λ s. Loops s q.left p.after) stated (subst (λ l. Loops p.stated l p.after) left p.loops) in
      same_onto q.own a b p.after q.after (p.is ∙ ap (λ l. taking l p.after) own) q.is
      (once q.stated q.left p.after q.after loops q.loops (subst (λ (o : Outcome). IsFaultless o.end) p.is none) (subst (λ (o : Outcome). IsFaultless o.end) q.is other))

  -- a header that breaks a rule states no settings
  not_both : (x y : Outcome) → OpensBad settings bytes x → OpensOnto Loops settings bytes y → ⊥
  not_both x y p q =
      let own = same_prefix p.own q.own p.left q.left (sym p.prefix ∙ q.prefix) (p.full ∙ sym q.full) in
      breaks_or_states settings q.stated q.own p.at (subst (λ l. BreaksHeader settings l p.at) own p.breaks) q.header q.none

  -- so two runs that open with a header are the same
  opened_once : IsOpened Loops settings bytes a → IsOpened Loops settings bytes b → AreSame a b
  opened_once p q = elim (opened_as Loops settings bytes a p none) [
    | inl short ↦ elim (opened_as Loops settings bytes b q other) [
      | inl same ↦ same_as a b (short.is ∙ sym same.is)
      | inr (inl bad) ↦ absurd (too_few bytes bad.own bad.left short.fewer bad.prefix bad.full)
      | inr (inr onto) ↦ absurd (too_few bytes onto.own onto.left short.fewer onto.prefix onto.full)
    ]
    | inr (inl bad) ↦ elim (opened_as Loops settings bytes b q other) [
      | inl short ↦ absurd (too_few bytes bad.own bad.left short.fewer bad.prefix bad.full)
      | inr (inl same) ↦ both_bad bad same
      | inr (inr onto) ↦ absurd (not_both a b bad onto)
    ]
    | inr (inr onto) ↦ elim (opened_as Loops settings bytes b q other) [
      | inl short ↦ absurd (too_few bytes onto.own onto.left short.fewer onto.prefix onto.full)
      | inr (inl bad) ↦ absurd (not_both b a bad onto)
      | inr (inr same) ↦ both_onto onto same
    ]
  ]

  -- and two over a capture of any form
  pub opens_once : (form : Form) → Opens form Loops settings bytes a → Opens form Loops settings bytes b → AreSame a b
  opens_once Plain p q = once settings bytes a b p q none other
  opens_once Marked p q = once settings bytes a b p q none other
  opens_once Listed p q = opened_once p q

-- the words' command is in the settings that a header states
pub stated-command : (settings stated : Settings) (own : List ℕ) → IsHeaderOf settings stated own → stated.command ≡ settings.command
stated-command settings stated own is = ap (λ (s : Settings). s.command) is.states.all

-- one outcome alone comes after the same bytes
taking_once : (own : List ℕ) (a b : Outcome) → taking own a ≡ taking own b → a ≡ b
taking_once own a b is =
    ap (λ l. record a { taken = l }) (same_left own own a.taken b.taken (ap (λ (o : Outcome). o.taken) is) refl)
    ∙ ap (λ l. record a { taken = b.taken; out = l }) (ap (λ (o : Outcome). o.out) is)
    ∙ ap (λ l. record a { taken = b.taken; out = b.out; lines = l }) (ap (λ (o : Outcome). o.lines) is)
    ∙ ap (λ e. record b { end = e }) (ap (λ (o : Outcome). o.end) is)

-- fewer bytes than a header has aren't one with what comes after it
too_few_taken : (own other more rest taken : List ℕ) → length own < 32 → length other ≡ 32 → rest ≡ [] → taken ≡ own ++ rest → taken ≡ other ++ more → ⊥
too_few_taken own other more rest taken fewer full none had is =
    omega (arith, fewer, full, ap length none, ap length had, ap length is, length-append own rest, length-append other more)

-- What is promised of every loop over the blocks is promised after the header of a listed capture.
pub after_header : (Loops : Runs) (Keeps : Settings → List ℕ → Outcome → Type 0) (loop : Outcome) (form : Form) (settings : Settings) (bytes : List ℕ)
    → ((stated : Settings) (left : List ℕ) (after : Outcome) → stated.command ≡ settings.command → Loops stated left after → Keeps stated left after)
    → Opens form Loops settings bytes loop → AfterHeader form Keeps settings bytes loop
after_header Loops Keeps loop Plain settings bytes law opens = law settings bytes loop refl opens
after_header Loops Keeps loop Marked settings bytes law opens = law settings bytes loop refl opens
after_header Loops Keeps loop Listed settings bytes law o = λ own left stated after prefix header valid is.
    let full = header-size settings stated own header in
    let had : loop.taken ≡ o.own ++ o.after.taken = ap (λ (x : Outcome). x.taken) o.takes in
    let has : loop.taken ≡ own ++ after.taken = ap (λ (x : Outcome). x.taken) is in
    let few : length o.own < 32 → o.after.taken ≡ [] → ⊥ = λ fewer none. too_few_taken o.own own after.taken o.after.taken loop.taken fewer full none had has in
    elim o.comes [
      | inl (fewer, inl (nothing, ends)) ↦ absurd (few fewer (ap (λ (x : Outcome). x.taken) ends))
      | inl (fewer, inr ends) ↦ absurd (few fewer (ap (λ (x : Outcome). x.taken) ends))
      | inr (size, inl (at, breaks, ends)) ↦
          let same = same_prefix o.own own o.left left (sym o.prefix ∙ prefix) (size ∙ sym full) in
          absurd (breaks_or_states settings stated own at (subst (λ l. BreaksHeader settings l at) same breaks) header valid)
      | inr (size, inr (other, opened, none, loops)) ↦
          let same = same_prefix o.own own o.left left (sym o.prefix ∙ prefix) (size ∙ sym full) in
          let rest = same_left o.own own o.left left (sym o.prefix ∙ prefix) same in
          let one = stated_once settings other stated own (subst (IsHeaderOf settings other) same opened) header in
          let whole : o.after ≡ after = taking_once own o.after after (ap (λ l. taking l o.after) (sym same) ∙ sym o.takes ∙ is) in
          let goes : Loops stated left o.after = subst (λ s. Loops s left o.after) one (subst (λ l. Loops other l o.after) rest loops) in
          law stated left after (stated-command settings stated own header) (subst (Loops stated left) whole goes)
    ]

-- AFTER A FAILED READ all is as if the input had ended there, where it is so after the header.
abbrev pub IsAsEnded : Runs → Settings → Outcome → Type 0
IsAsEnded Loops settings a = (b : Outcome) × Loops settings a.taken b × IsFaultless b.end × (b.taken ≡ a.taken) × (b.out ≡ a.out) × (b.lines ≡ a.lines)

module _ (Loops : Runs) (there : (stated : Settings) (left : List ℕ) (a : Outcome) → Loops stated left a → a.end ≡ ReadFault → IsAsEnded Loops stated a)
    (settings : Settings) (bytes : List ℕ) (a : Outcome) (failed : a.end ≡ ReadFault) where
  -- with a header
  opened_there : IsOpened Loops settings bytes a → IsAsEnded (IsOpened Loops) settings a
  opened_there o =
      let fault : o.after.end ≡ ReadFault = sym (ap (λ (x : Outcome). x.end) o.takes) ∙ failed in
      elim o.comes [
        | inl (fewer, inl (nothing, is)) ↦ absurd (let no : ShortHeader (length o.own) ≡ ReadFault = sym (ap (λ (x : Outcome). x.end) is) ∙ fault in cc)
        | inr (full, inl (at, breaks, is)) ↦ absurd (let no : BadHeader at ≡ ReadFault = sym (ap (λ (x : Outcome). x.end) is) ∙ fault in cc)
        | inl (fewer, inr is) ↦
            let after = ended (ShortHeader (length o.own)) in
            let taken : a.taken ≡ o.own ++ [] = ap (λ (x : Outcome). x.taken) (o.takes ∙ ap (taking o.own) is) in (
              taking o.own after,
              record { own = o.own; left = []; prefix = taken; after = after; comes = inl (fewer, inl (refl, refl)); takes = refl },
              tt,
              sym taken,
              sym (ap (λ (x : Outcome). x.out) (o.takes ∙ ap (taking o.own) is)),
              sym (ap (λ (x : Outcome). x.lines) (o.takes ∙ ap (taking o.own) is)),
            )
        | inr (full, inr (stated, header, valid, loops)) ↦
            let (b, so, none, same_taken, same_out, same_lines) = there stated o.left o.after loops fault in (
              taking o.own b,
              record {
                own = o.own;
                left = o.after.taken;
                prefix = ap (λ (x : Outcome). x.taken) o.takes;
                after = b;
                comes = inr (full, inr (stated, header, valid, so));
                takes = refl;
              },
              none,
              ap (λ l. o.own ++ l) same_taken ∙ sym (ap (λ (x : Outcome). x.taken) o.takes),
              same_out ∙ sym (ap (λ (x : Outcome). x.out) o.takes),
              same_lines ∙ sym (ap (λ (x : Outcome). x.lines) o.takes),
            )
      ]

  -- and in any form
  pub opens_there : (form : Form) → Opens form Loops settings bytes a → IsAsEnded (Opens form Loops) settings a
  opens_there Plain opens = there settings bytes a opens failed
  opens_there Marked opens = there settings bytes a opens failed
  opens_there Listed opens = opened_there opens

-- SOMETHING IS DONE, where it is so after the header. Some shape has each number below 3.
shape_of : (n : ℕ) → n < 3 → (shape : Shape) × (shape_number shape ≡ n)
shape_of zero below = (Single, refl)
shape_of (suc zero) below = (Parallel, refl)
shape_of (suc (suc zero)) below = (Opposite, refl)
shape_of (suc (suc (suc n))) below = absurd (omega (arith, below))

-- the first of n bytes that a header can't have at its place, or it can have all
first_or_none : (own : List ℕ) (n : ℕ) → n ≤ 32
    → ((at : ℕ) × IsFirstWrongByte own at) ⊎ ((place : ℕ) → place < n → may_be_there place (slice_index own place) ≡ true)
first_or_none own zero within = inr (λ place below. absurd (omega (arith, below)))
first_or_none own (suc n) within = elim (first_or_none own n (omega (arith, within))) [
  | inl wrong ↦ inl wrong
  | inr may ↦
      elim (may_be_there n (slice_index own n)) as (λ b. may_be_there n (slice_index own n) ≡ b
      → ((at : ℕ) × IsFirstWrongByte own at) ⊎ ((place : ℕ) → place < suc n → may_be_there place (slice_index own place) ≡ true)) [
        | false ↦ λ is. inl (n, record { within = omega (arith, within); wrong = is; before = may })
        | true ↦ λ is. inr (λ place below. elim (cases_lt place n) [
          | inl less ↦ may place less
          | inr le ↦ let same : n ≡ place = omega (arith, below, le) in subst (λ k. may_be_there k (slice_index own k) ≡ true) same is
        ])
      ] refl
]

-- a number of four bytes has 32 bits
number-small : (a b c d : ℕ) → a < 256 → b < 256 → c < 256 → d < 256 → from_be_bytes w32 (a ∷ b ∷ c ∷ d ∷ []) < 2 ^ 32
number-small a b c d sa sb sc sd = omega (arith, sa, sb, sc, sd)

module _ (own : List ℕ) (size : length own ≡ 32) (are : All IsByte own) (may : (place : ℕ) → place < 32 → may_be_there place (slice_index own place) ≡ true) where
  -- each is a byte
  small : (k : ℕ) → k < 32 → slice_index own k < 256
  small k below = are k 0 (omega (arith, below, size))

  -- the number that begins at a place
  abbrev number : ℕ → ℕ
  number k = from_be_bytes w32 (slice_index own k ∷ slice_index own (k + 1) ∷ slice_index own (k + 2) ∷ slice_index own (k + 3) ∷ [])

  -- it has 32 bits
  number-fits : (k : ℕ) → k + 3 < 32 → number k < 2 ^ 32
  number-fits k within =
      number-small (slice_index own k) (slice_index own (k + 1)) (slice_index own (k + 2)) (slice_index own (k + 3))
      (small k (omega (arith, within))) (small (k + 1) (omega (arith, within))) (small (k + 2) (omega (arith, within))) (small (k + 3) (omega (arith, within)))

  -- 32 bytes that a header can have at their places are those of a header
  abbrev the_header : Header
  the_header = record {
    shape = slice_index own 8;
    zones = slice_index own 9;
    sectors0 = number 12;
    sectors1 = number 16;
    initial = number 20;
    tail = number 24;
    known_shape = shape-known (slice_index own 8) (may 8 (omega arith));
    known_zones = zones-known (slice_index own 9) (may 9 (omega arith));
  }

  -- and it states settings
  states : (settings : Settings) → (stated : Settings) × IsHeaderOf settings stated own
  states settings =
      let shape = shape_of the_header.shape the_header.known_shape in
      let zones = zones_for the_header.zones the_header.known_zones in (
        record settings {
          shape = shape.0;
          zones = zones.0;
          sectors = the_header.sectors0;
          sectors1 = the_header.sectors1;
          initial = the_header.initial;
          tail = the_header.tail;
        },
        record {
          header = the_header;
          numbers = (number-fits 12 (omega arith), number-fits 16 (omega arith), number-fits 20 (omega arith), number-fits 24 (omega arith));
          bytes = sym (header-is (slice_index own) may small the_header refl refl refl refl refl refl ∙ each_byte own size);
          states = record { shape = shape.1; zones = zones.1; all = refl };
        },
      )

module _ (Loops : Runs) (settings : Settings) (bytes : List ℕ) (are : All IsByte bytes)
    (some : (stated : Settings) (left : List ℕ) → All IsByte left → (own : List ℕ) → IsHeaderOf settings stated own → broken_rule stated ≡ None → Exists (Loops stated left)) where
  -- after a header the run is that over the blocks, or a rule of layouts is broken
  onto_exists : (own left : List ℕ) → bytes ≡ own ++ left → length own ≡ 32 → All IsByte left → (stated : Settings)
      → IsHeaderOf settings stated own
      → (broken : Option LayoutFault) → broken_rule stated ≡ broken → Exists (IsOpened Loops settings bytes)
  onto_exists own left prefix full rest stated header (Some fault) broken = (
    taking own (ended (BadHeader (fault_byte fault))),
    record {
      own = own;
      left = left;
      prefix = prefix;
      after = ended (BadHeader (fault_byte fault));
      comes = inr (full, inl (fault_byte fault, inr (stated, fault, header, broken, refl), refl));
      takes = refl;
    },
    tt,
  )
  onto_exists own left prefix full rest stated header None valid =
      let (after, loops, none) = some stated left rest own header valid in (
        taking own after,
        record { own = own; left = left; prefix = prefix; after = after; comes = inr (full, inr (stated, header, valid, loops)); takes = refl },
        none,
      )

  -- every input of bytes has an outcome without a fault
  pub opened_exists : Exists (IsOpened Loops settings bytes)
  opened_exists = elim (cases_lt (length bytes) 32) [
    | inl fewer ↦ (
      taking bytes (ended (ShortHeader (length bytes))),
      record {
        own = bytes;
        left = [];
        prefix = sym (append-nil bytes);
        after = ended (ShortHeader (length bytes));
        comes = inl (fewer, inl (refl, refl));
        takes = refl;
      },
      tt,
    )
    | inr enough ↦
        let own = take 32 bytes in
        let left = drop 32 bytes in
        let full = length-take-le 32 bytes enough in
        let prefix : bytes ≡ own ++ left = sym (take-append-drop 32 bytes) in
        elim (first_or_none own 32 (omega arith)) [
          | inl (at, wrong) ↦ (
            taking own (ended (BadHeader at)),
            record { own = own; left = left; prefix = prefix; after = ended (BadHeader at); comes = inr (full, inl (at, inl wrong, refl)); takes = refl },
            tt,
          )
          | inr may ↦
              let stated = states own full (All-take IsByte 32 bytes are) may settings in
              onto_exists own left prefix full (All-drop IsByte 32 bytes are) stated.0 stated.1 (broken_rule stated.0) refl
        ]
  ]
