-- What `recover` reports of a capture that came whole, and how it ends: by the blocks that are refused.
use Rattle.std.proofs.Common.{◌≡◌, ◌≢◌, ◌∙◌, inl, inr, ℕ, zero, suc, ◌+◌, ◌*◌, ◌≤◌, Bool, cond, List, [], ◌∷◌, ◌++◌, length, length-append, take, drop, refl, ap, sym, subst, append_assoc, append-nil, add-one, arith, Option, None, Some, slice_get}
use Rattle.std.specs.List.{flat_map, range_with_len}
use Rattle.std.specs.Option.{is_some}
use Rattle.std.specs.Prelude.{count_by}
use Rattle.std.proofs.Math.Nat.{mul-suc, mul-zero, mul_comm}
use Rattle.std.proofs.lemmas.List.Sums.{sum_by-cons}
use Rattle.dvd_capture.specs.Captured.{block_size, captured_marks, captured_rows, record_size}
use Rattle.dvd_capture.specs.declared.form.Form.{Form}
use Rattle.dvd_capture.specs.declared.form.Form.TheVariants.{Listed}
use Rattle.dvd_decoding.specs.Reading.{block_cause}
use Rattle.dvd_decoding.specs.Salvage.{saved_in}
use Rattle.dvd_decoding.specs.declared.cause.Cause.{Cause}
use Rattle.dvd_layout.specs.Plan.{plan_of}
use Rattle.dvd_layout.specs.declared.entry.BlockPlan.{BlockPlan}
use Rattle.dvd_layout.specs.declared.entry.Content.{Content}
use Rattle.dvd_layout.specs.declared.entry.Content.TheVariants.{Control, Image, Reference, Zero}
use Rattle.dvd_layout.specs.declared.layout.Layout.{Layout}
use Rattle.dvd_layout.specs.declared.layout.Zones.{Zones}
use Rattle.dvd_loop.specs.Laws.{IsFaultless}
use Rattle.dvd_loop.specs.Machine.{Continues, EndsAfterLast, IsOutcome, IsUnit, Outcome, Performs, Step, Units, bad_of, end_by, sized}
use Rattle.dvd_loop.specs.UnitCommand.{reported}
use Rattle.dvd_loop.specs.declared.ends.AfterLast.TheVariants.{EndOfInput}
use Rattle.dvd_loop.specs.declared.ends.UnitKind.{UnitKind}
use Rattle.dvd_loop.specs.declared.ends.UnitKind.TheVariants.{Last}
use Rattle.dvd_loop.proofs.EndLemmas.{empty}
use Rattle.dvd_loop.proofs.Faultless.{not_by_fault}
use Rattle.dvd_loop.proofs.Over.{start, start-le, start-suc, start-zero}
use Rattle.dvd_loop.proofs.Sizes.{goes_one}
use Rattle.dvd_commands.specs.Recover.{IsImageDone, IsRecovered, recover_units}
use Rattle.dvd_commands.specs.Captured.{IfImage}
use Rattle.dvd_commands.proofs.EntryBlocks.{length-captured_marks, length-captured_rows}
use Rattle.dvd_commands.proofs.ForRuns.{begins_so, size-is}
use Rattle.dvd_commands.proofs.RecoveredWidths.{never_last, recovered-wide}
use Rattle.dvd_read.proofs.BlockRead.{read-determined}
use Rattle.dvd_top.specs.Promises.{IsReportOf, refusal_cause, refusal_text}
use Rattle.dvd_top.proofs.OnlyThese.{own_is}

-- What is reported for a unit, and whether it is bad.
record Says (text : List ℕ) (is_bad : Bool) (steps : List Step) (kind : UnitKind) : Type 0 where
  reports : reported steps ≡ text
  bad : bad_of kind ≡ cond is_bad 1 0

-- Units of known sizes, none of which is the last, over exactly their bytes.
module _ (units : Units) (size : ℕ → ℕ) (begins : (k : ℕ) (bytes : List ℕ) → units.begins k bytes ≡ sized (size k) bytes)
    (never : (k : ℕ) (before : List (List ℕ)) (own : List ℕ) (steps : List Step) → units.does k before own steps Last → ⊥)
    (closes : (before : List (List ℕ)) (steps : List Step) → units.closes before steps → steps ≡ []) (asks : units.after_last ≡ EndOfInput)
    (text : ℕ → List ℕ → List ℕ) (is_bad : ℕ → List ℕ → Bool)
    (says : (before : List (List ℕ)) (own : List ℕ) (steps : List Step) (kind : UnitKind) → IsUnit units before own steps kind
    → Says (text (length before) own) (is_bad (length before) own) steps kind) (all : List ℕ) where
  -- the bytes of unit k
  abbrev own_at : ℕ → List ℕ
  own_at k = take (size k) (drop (start size k) all)

  -- what the units from one on report, and which end they come to after so many bad ones
  record SaysAll (k n bad : ℕ) (a : Outcome) : Type 0 where
    lines : a.lines ≡ flat_map (λ j. text j (own_at j)) (range_with_len k n)
    end : a.end ≡ end_by (bad + count_by (λ j. is_bad j (own_at j)) (range_with_len k n))

  goes_says : (n : ℕ) (before : List (List ℕ)) (bad : ℕ) (prefix left : List ℕ) (a : Outcome) → all ≡ prefix ++ left
      → length prefix ≡ start size (length before) → length before + n ≡ units.count → length all ≡ start size units.count
      → Continues units n before bad left a → IsFaultless a.end → SaysAll (length before) n bad a
  unfolding Continues
  goes_says zero before bad prefix left a is at number whole (steps, closed, does) none =
      let here : length before ≡ units.count = omega (arith, number) in
      let nothing : left ≡ [] = empty left (omega (arith, ap length is, length-append prefix left, ap (start size) here, at, whole)) in
      let ends : EndsAfterLast EndOfInput bad [] a =
      subst (λ l. EndsAfterLast EndOfInput bad l a) nothing
      (subst (λ rule. EndsAfterLast rule bad left a) asks (subst (λ l. Performs l (EndsAfterLast units.after_last bad left) a) (closes before steps closed) does)) in
      elim ends [
        | inl done ↦ record { lines = ap (λ (o : Outcome). o.lines) done; end = ap (λ (o : Outcome). o.end) done ∙ ap end_by (omega arith) }
        | inr fault ↦ absurd (not_by_fault a _ fault (λ f. f) none)
      ]
  goes_says (suc n) before bad prefix left a is at number whole goes none =
      let k = length before in
      let last : suc k + n ≡ units.count = omega (arith, number) in
      let enough : start size k + size k ≤ start size units.count =
      subst (λ m. start size k + size k ≤ start size m) last (omega (arith, start-le size (suc k) n, start-suc size k)) in
      elim (goes_one units size begins n before (λ own steps unit. never k before own steps unit.does) bad left a goes none) [
        | inl short ↦ absurd (omega (arith, short.fewer, ap length is, length-append prefix left, at, whole, enough))
        | inr t ↦
            let parts : all ≡ (prefix ++ t.own) ++ t.left = is ∙ ap (λ l. prefix ++ l) t.prefix ∙ sym (append_assoc prefix t.own t.left) in
            let mine : t.own ≡ own_at k = own_is all prefix t.own t.left (start size k) (size k) parts at t.size_is in
            let said = subst (λ l. Says (text k l) (is_bad k l) t.steps t.kind) mine (says before t.own t.steps t.kind t.unit) in
            let one : length (before ++ t.own ∷ []) ≡ k + 1 = length-append before (t.own ∷ []) in
            let further : length (prefix ++ t.own) ≡ start size (length (before ++ t.own ∷ [])) =
            length-append prefix t.own ∙ omega (arith, at, t.size_is, start-suc size k) ∙ ap (start size) (sym (one ∙ add-one k)) in
            let rest = subst (λ j. SaysAll j n (bad + bad_of t.kind) t.after) one
            (goes_says n (before ++ t.own ∷ []) (bad + bad_of t.kind) (prefix ++ t.own) t.left t.after parts further (omega (arith, one, last)) whole t.goes t.faultless) in
            record {
              lines = ap (λ (o : Outcome). o.lines) t.is ∙ ap (λ l. l ++ t.after.lines) said.reports ∙ ap (λ l. text k (own_at k) ++ l) rest.lines;
              end = ap (λ (o : Outcome). o.end) t.is ∙ rest.end
                  ∙ ap end_by (omega (arith, said.bad, sum_by-cons (λ j. cond (is_bad j (own_at j)) 1 0) k (range_with_len (k + 1) n)));
            }
      ]

  -- a whole run
  run_says : (a : Outcome) → units.opens ≡ [] → IsOutcome units all a → IsFaultless a.end → length all ≡ start size units.count → SaysAll 0 units.count 0 a
  run_says a opens runs none whole =
      goes_says units.count [] 0 [] all a refl (sym (start-zero size)) (omega arith) whole
      (subst (λ l. Performs l (Continues units units.count [] 0 all) a) opens runs) none

-- why a captured block is refused by its entry of the plan, and its line
abbrev pub cause_by : Form → List ℕ → Option BlockPlan → Option Cause
cause_by form own None = None
cause_by form own (Some entry) = refusal_cause entry.content (block_cause (captured_rows form own) (captured_marks form own) entry)

abbrev pub text_by : ℕ → Form → List ℕ → Option BlockPlan → List ℕ
text_by k form own None = []
text_by k form own (Some entry) =
    refusal_text k entry (saved_in (captured_rows form own) (captured_marks form own) entry) (cause_by form own (Some entry))

module _ (layout : Layout) (k : ℕ) (entry : BlockPlan) (form : Form) (own : List ℕ) (steps : List Step) (kind : UnitKind) where
  abbrev rows : List (List ℕ)
  rows = captured_rows form own

  abbrev marks : List (List Bool)
  marks = captured_marks form own

  -- what is done for a block by its cause
  abbrev IsSaid : Option Cause → Type 0
  IsSaid cause = Says (refusal_text k entry (saved_in rows marks entry) cause) (is_some cause) steps kind

  -- a block that holds image
  image_says : IsImageDone layout k entry rows marks steps kind → IsSaid (block_cause rows marks entry)
  image_says (inl given) =
      let read = read-determined rows marks entry given.sectors (length-captured_rows form own) (length-captured_marks form own) given.read in
      subst IsSaid (sym read.0) (record { reports = ap reported given.writes; bad = ap bad_of given.good })
  image_says (inr refused) =
      subst IsSaid (sym refused.first) (record { reports = ap reported refused.reports ∙ append-nil _; bad = ap bad_of refused.bad })

  -- any block
  entry_says : (content : Content) → IfImage (IsImageDone layout k entry rows marks) content steps kind → IsSaid (refusal_cause content (block_cause rows marks entry))
  entry_says (Image sector) does = image_says does
  entry_says Zero does = record { reports = ap reported does.0; bad = ap bad_of does.1 }
  entry_says Reference does = record { reports = ap reported does.0; bad = ap bad_of does.1 }
  entry_says Control does = record { reports = ap reported does.0; bad = ap bad_of does.1 }

-- units of one size begin at its multiples
start-multiple : (size k : ℕ) → start (λ j. size) k ≡ size * k
start-multiple size zero = start-zero (λ j. size) ∙ sym (mul-zero size)
start-multiple size (suc k) = start-suc (λ j. size) k ∙ omega (arith, start-multiple size k, mul-suc size k)

-- the bytes of captured block k
abbrev pub block_at : Form → List ℕ → ℕ → List ℕ
block_at form capture k = take (block_size form) (drop (start (λ j. block_size form) k) capture)

-- how many blocks of a capture are refused
abbrev pub refused_blocks : Layout → Zones → Form → List ℕ → ℕ
refused_blocks layout zones form capture =
    count_by (λ k. is_some (cause_by form (block_at form capture k) (slice_get (plan_of layout zones) k))) (range_with_len 0 (length (plan_of layout zones)))

module _ (layout : Layout) (zones : Zones) (form : Form) (capture : List ℕ) (a : Outcome) (one : form ≢ Listed)
    (whole : length capture ≡ length (plan_of layout zones) * block_size form) (runs : IsOutcome (recover_units layout zones form) capture a) (none : IsFaultless a.end) where
  abbrev plan : List BlockPlan
  plan = plan_of layout zones

  -- they are those that the promise names
  block_at-is : (k : ℕ) → take (208 * record_size form) (drop (208 * record_size form * k) capture) ≡ block_at form capture k
  block_at-is k =
      ap (λ n. take n (drop (n * k) capture)) (size-is form one)
      ∙ ap (λ n. take (block_size form) (drop n capture)) (sym (start-multiple (block_size form) k))

  says_all : SaysAll (recover_units layout zones form) (λ k. block_size form) (λ k bytes. begins_so form one bytes)
      (never_last layout zones form (IsRecovered layout zones form) (recovered-wide layout zones form)) (λ before steps nothing. nothing) refl
      (λ k own. text_by k form own (slice_get plan k)) (λ k own. is_some (cause_by form own (slice_get plan k)))
      (λ before own steps kind unit.
      subst (λ e. Says (text_by (length before) form own e) (is_some (cause_by form own e)) steps kind) (sym unit.does.is_there)
      (entry_says layout (length before) unit.does.entry form own steps kind unit.does.entry.content unit.does.does))
      capture 0 (length plan) 0 a
  says_all = run_says (recover_units layout zones form) (λ k. block_size form) _ _ _ refl _ _ _ capture a refl runs none
      (whole ∙ omega (arith, start-multiple (block_size form) (length plan), mul_comm (length plan) (block_size form)))

  -- The report is that of the capture, and the end is by the number of refused blocks.
  pub capture_reported : IsReportOf layout zones form capture a.lines (refused_blocks layout zones form capture) × (a.end ≡ end_by (refused_blocks layout zones form capture))
  capture_reported = (
    record {
      cause = λ k. cause_by form (block_at form capture k) (slice_get plan k);
      text = λ k. text_by k form (block_at form capture k) (slice_get plan k);
      each = λ k entry own is_there own_is.
          let same : block_at form capture k ≡ own = sym (own_is ∙ block_at-is k) in (
            ap (cause_by form (block_at form capture k)) is_there ∙ ap (λ l. cause_by form l (Some entry)) same,
            ap (text_by k form (block_at form capture k)) is_there
                ∙ ap (λ l. refusal_text k entry (saved_in (captured_rows form l) (captured_marks form l) entry) (cause_by form (block_at form capture k) (Some entry))) same
                ∙ ap (refusal_text k entry (saved_in (captured_rows form own) (captured_marks form own) entry)) (ap (cause_by form (block_at form capture k)) (sym is_there)),
          );
      lines_are = says_all.lines;
      count = refl;
    },
    says_all.end ∙ ap end_by (omega arith),
  )
