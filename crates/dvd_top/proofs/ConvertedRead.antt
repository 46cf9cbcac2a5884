-- What `convert` wrote is read as that which it was converted from.
use Rattle.std.proofs.Common.{◌≡◌, ◌∙◌, inl, inr, ℕ, zero, suc, ◌+◌, Bool, List, [], ◌∷◌, ◌++◌, length, slice_get, Some, None, refl, ap, sym, subst, arith, length-append, append-nil}
use Rattle.dvd_capture.specs.Captured.{HasSize, block_size, captured_marks, captured_rows}
use Rattle.dvd_capture.specs.declared.form.Form.{Form}
use Rattle.dvd_capture.specs.declared.form.Form.TheVariants.{Listed}
use Rattle.dvd_layout.specs.Plan.{plan_of}
use Rattle.dvd_layout.specs.declared.entry.BlockPlan.{BlockPlan}
use Rattle.dvd_layout.specs.declared.entry.Content.{Content}
use Rattle.dvd_layout.specs.declared.entry.Content.TheVariants.{Zero, Reference, Control, Image}
use Rattle.dvd_layout.specs.declared.layout.Layout.{Layout}
use Rattle.dvd_layout.specs.declared.layout.Zones.{Zones}
use Rattle.dvd_layout.proofs.SameLengths.{same_lengths-same}
use Rattle.dvd_loop.specs.Laws.{IsFaultless}
use Rattle.dvd_loop.specs.Machine.{Performs, EndsAfterLast, Continues, ContinuesAfter, IsOutcome, IsUnit, Outcome, Step, Units, bad_of, taking}
use Rattle.dvd_loop.specs.Machine.Step.{Write}
use Rattle.dvd_loop.specs.UnitCommand.{reported, written}
use Rattle.dvd_loop.specs.declared.ends.AfterLast.TheVariants.{EndOfInput}
use Rattle.dvd_loop.specs.declared.ends.LoopEnd.TheVariants.{Done, Long, ReadFault, Short}
use Rattle.dvd_loop.specs.declared.ends.UnitKind.TheVariants.{Good, Bad, Last}
use Rattle.dvd_loop.proofs.Faultless.{all_done}
use Rattle.dvd_loop.proofs.Prefixes.{same_prefix, same_left as left_same}
use Rattle.dvd_loop.proofs.Reached.{goes_on}
use Rattle.dvd_loop.proofs.Sizes.{TakesOne, goes_one}
use Rattle.dvd_loop.proofs.StepLemmas.{does_all, onto, taken_then}
use Rattle.dvd_commands.specs.Commands.{GoesOver, meaning}
use Rattle.dvd_commands.specs.Meaning.{GoesBy}
use Rattle.dvd_commands.specs.Convert.{convert_units}
use Rattle.dvd_commands.specs.Captured.{ForImage, IfImage}
use Rattle.dvd_commands.specs.Recover.{IsImageDone, IsRecovered, recover_units}
use Rattle.dvd_top.specs.Laws.{ConvertedIsRead}
use Rattle.dvd_commands.specs.Opening.{IsHeaderOf, IsOpened, Opens}
use Rattle.dvd_commands.proofs.CapturedUnits.{captured_whole}
use Rattle.dvd_commands.proofs.ForRuns.{breaks_by_words, header-size, sized_part, words_of}
use Rattle.dvd_words.specs.Settings.{IsLayoutOf, broken_rule}
use Rattle.dvd_words.specs.declared.table.Command.TheVariants.{Recover}
use Rattle.dvd_words.specs.declared.settings.Settings.{Settings}

-- no block that is recovered is the last
done_not_last : (content : Content) (layout : Layout) (k : ℕ) (entry : BlockPlan) (rows : List (List ℕ)) (marks : List (List Bool)) (steps : List Step)
    → IfImage (IsImageDone layout k entry rows marks) content steps Last → ⊥
done_not_last (Image sector) layout k entry rows marks steps does = elim does [
  | inl given ↦ (let no : Last ≡ Good = given.good in cc)
  | inr refused ↦ (let no : Last ≡ Bad = refused.bad in cc)
]
done_not_last Zero layout k entry rows marks steps does = let no : Last ≡ Good = does.1 in cc
done_not_last Reference layout k entry rows marks steps does = let no : Last ≡ Good = does.1 in cc
done_not_last Control layout k entry rows marks steps does = let no : Last ≡ Good = does.1 in cc

-- where a conversion is done nothing is left of the input
behind_both : (bad others : ℕ) (left : List ℕ) (c a : Outcome) → EndsAfterLast EndOfInput others left c → c.end ≡ Done → EndsAfterLast EndOfInput bad left a
    → (c.out ≡ []) × EndsAfterLast EndOfInput bad [] a
behind_both bad others [] c a ends done rest = elim ends [
  | inl is ↦ (ap (λ (o : Outcome). o.out) is, rest)
  | inr is ↦ (ap (λ (o : Outcome). o.out) is, rest)
]
behind_both bad others (byte ∷ left) c a ends done rest = elim ends [
  | inl is ↦ absurd (let no : Long ≡ Done = sym (ap (λ (o : Outcome). o.end) is) ∙ done in cc)
  | inr is ↦ absurd (let no : ReadFault ≡ Done = sym (ap (λ (o : Outcome). o.end) is) ∙ done in cc)
]

-- units of these bytes go so again, but for what is taken
pub record GoesAgain (units : Units) (n : ℕ) (before : List (List ℕ)) (bad : ℕ) (bytes : List ℕ) (a : Outcome) : Type 0 where
  pub again : Outcome
  pub goes : Continues units n before bad bytes again
  pub out : again.out ≡ a.out
  pub lines : again.lines ≡ a.lines
  pub ends : again.end ≡ a.end

module _ (layout : Layout) (zones : Zones) (form : Form) (has : HasSize form) (opening : List ℕ) where
  -- the captured blocks of this form, as `convert` writes them in the listed form
  abbrev converting : Units
  converting = convert_units layout zones form opening

  -- the same blocks, as `recover` reads them
  abbrev reading : Units
  reading = recover_units layout zones form

  -- the listed blocks that were written, as `recover` reads them
  abbrev listing : Units
  listing = recover_units layout zones Listed

  -- no block that `convert` goes over is the last
  convert_last : (before : List (List ℕ)) (own : List ℕ) (steps : List Step) → IsUnit converting before own steps Last → ⊥
  convert_last before own steps unit = let no : Last ≡ Good = unit.does.good in cc

  -- nor is one that `recover` goes over
  recover_last : (before : List (List ℕ)) (own : List ℕ) (steps : List Step) → IsUnit reading before own steps Last → ⊥
  recover_last before own steps unit =
      done_not_last unit.does.entry.content layout (length before) unit.does.entry (captured_rows form own) (captured_marks form own) steps unit.does.does

  -- one block, of which the unit was written and that was recovered
  module _ (n : ℕ) (cb rb lb : List (List ℕ)) (bad others : ℕ) (left : List ℕ) (c a : Outcome) (same : length rb ≡ length lb)
      (t : TakesOne converting (λ k. block_size form) (λ k own. sized_part form has own) n cb others left c)
      (o : TakesOne reading (λ k. block_size form) (λ k own. sized_part form has own) n rb bad left a) where
    -- both took the same bytes of the input
    same_own : o.own ≡ t.own
    same_own = same_prefix o.own t.own o.left t.left (sym o.prefix ∙ t.prefix) (o.size_is ∙ sym t.size_is)

    -- and left the same
    same_left : o.left ≡ t.left
    same_left = left_same o.own t.own o.left t.left (sym o.prefix ∙ t.prefix) same_own

    -- the listed unit that was written
    unit : List ℕ
    unit = t.unit.does.unit

    -- it comes before what is written of the blocks to come
    out_is : c.out ≡ unit ++ t.after.out
    unfolding unit
    out_is =
        ap (λ (x : Outcome). x.out) t.is ∙ ap (λ s. written s ++ t.after.out) t.unit.does.writes ∙ ap (λ l. l ++ t.after.out) (append-nil t.unit.does.unit)

    -- what is done for the captured block is done for its listed unit
    listed_does : IsRecovered layout zones Listed (length lb) unit o.steps o.kind
    unfolding unit
    listed_does =
        let is = t.unit.does.is_unit in
        let rows : captured_rows form o.own ≡ captured_rows Listed t.unit.does.unit = ap (captured_rows form) same_own ∙ sym is.rows_are in
        let marks : captured_marks form o.own ≡ captured_marks Listed t.unit.does.unit = ap (captured_marks form) same_own ∙ sym is.marks_are in
        let entry = o.unit.does.entry in record {
          entry = entry;
          is_there = subst (λ k. slice_get (plan_of layout zones) k ≡ Some entry) same o.unit.does.is_there;
          does = subst (λ k. ForImage (IsImageDone layout k) entry (captured_rows Listed t.unit.does.unit) (captured_marks Listed t.unit.does.unit) o.steps o.kind) same
              (subst (λ m. ForImage (IsImageDone layout (length rb)) entry (captured_rows Listed t.unit.does.unit) m o.steps o.kind) marks
              (subst (λ r. ForImage (IsImageDone layout (length rb)) entry r (captured_marks form o.own) o.steps o.kind) rows o.unit.does.does));
        }

    -- so where the blocks to come are read again, this one is too
    one_more : GoesAgain listing n (lb ++ unit ∷ []) (bad + bad_of o.kind) t.after.out o.after → GoesAgain listing (suc n) lb bad c.out a
    unfolding Continues unit
    one_more r =
        let is = t.unit.does.is_unit in
        let Next = Continues listing n (lb ++ unit ∷ []) (bad + bad_of o.kind) t.after.out in
        let after_last = onto [] (written o.steps) (reported o.steps) r.again in record {
          again = taking unit after_last;
          goes = subst (λ l. Continues listing (suc n) lb bad l (taking unit after_last)) (sym out_is)
              (inr (taken_then listing lb _ (unit ++ t.after.out) unit t.after.out o.steps o.kind _ after_last refl
              (record { whole = captured_whole Listed unit is.size is.valid; does = listed_does })
              (does_all o.steps (ContinuesAfter o.kind Next) r.again
              (goes_on o.kind Next r.again (λ last. recover_last rb o.own o.steps (subst (IsUnit reading rb o.own o.steps) last o.unit)) r.goes)) refl));
          out = ap (λ l. written o.steps ++ l) r.out ∙ sym (ap (λ (x : Outcome). x.out) o.is);
          lines = ap (λ l. reported o.steps ++ l) r.lines ∙ sym (ap (λ (x : Outcome). x.lines) o.is);
          ends = r.ends ∙ sym (ap (λ (x : Outcome). x.end) o.is);
        }

  -- two lists that are as long are so with one unit more each
  longer : (xs ys : List (List ℕ)) (x y : List ℕ) → length xs ≡ length ys → length (xs ++ x ∷ []) ≡ length (ys ++ y ∷ [])
  longer xs ys x y same = omega (arith, same, length-append xs (x ∷ []), length-append ys (y ∷ []))

  -- the units to come
  goes_again : (n : ℕ) (cb rb lb : List (List ℕ)) (bad others : ℕ) (left : List ℕ) (c a : Outcome) → length rb ≡ length lb
      → Continues converting n cb others left c → c.end ≡ Done → Continues reading n rb bad left a → IsFaultless a.end → GoesAgain listing n lb bad c.out a
  unfolding Continues unit
  goes_again zero cb rb lb bad others left c a same (csteps, cnone, cdoes) done (rsteps, rnone, rdoes) none =
      let ends : EndsAfterLast EndOfInput others left c = subst (λ s. Performs s (EndsAfterLast EndOfInput others left) c) cnone cdoes in
      let rest : EndsAfterLast EndOfInput bad left a = subst (λ s. Performs s (EndsAfterLast EndOfInput bad left) a) rnone rdoes in
      let both = behind_both bad others left c a ends done rest in record {
        again = a;
        goes = ([], refl, subst (λ l. EndsAfterLast EndOfInput bad l a) (sym both.0) both.1);
        out = refl;
        lines = refl;
        ends = refl;
      }
  goes_again (suc n) cb rb lb bad others left c a same conv done rec none =
      elim (goes_one converting (λ k. block_size form) (λ k own. sized_part form has own) n cb (convert_last cb) others left c conv (subst IsFaultless (sym done) tt)) [
        | inl short ↦ absurd (let no : Short (length cb) (length left) ≡ Done = sym (ap (λ (x : Outcome). x.end) short.is) ∙ done in cc)
        | inr t ↦ elim (goes_one reading (λ k. block_size form) (λ k own. sized_part form has own) n rb (recover_last rb) bad left a rec none) [
          | inl short ↦ absurd (let all = ap length t.prefix in let sum = length-append t.own t.left in let fewer = short.fewer in omega (arith, all, sum, fewer, t.size_is))
          | inr o ↦
              one_more n cb rb lb bad others left c a same t o
              (goes_again n (cb ++ t.own ∷ []) (rb ++ o.own ∷ []) (lb ++ t.unit.does.unit ∷ []) (bad + bad_of o.kind) (others + bad_of t.kind) t.left t.after o.after
              (longer rb lb o.own t.unit.does.unit same) t.goes (sym (ap (λ (x : Outcome). x.end) t.is) ∙ done)
              (subst (λ l. Continues reading n (rb ++ o.own ∷ []) (bad + bad_of o.kind) l o.after) (same_left n cb rb lb bad others left c a same t o) o.goes) o.faultless)
        ]
      ]

-- the law: recovery does for what was converted what it does for what it was converted from
pub converted_read : ConvertedIsRead
converted_read settings words bytes c a is_convert is_recover listed has valid conv done rec none =
    let form = settings.form in
    let rule : broken_rule settings ≡ None =
    subst (λ command. (meaning command).breaks settings ≡ None) is_convert (sym (breaks_by_words form has settings) ∙ valid) in
    let ((layout, opening), (is, header), runs) =
    subst (λ command. GoesBy (meaning command) settings bytes c) is_convert (words_of form has GoesOver settings bytes c conv) in
    let (other, so, read) = words_of form has GoesOver (record settings { command = Recover }) bytes a rec in
    let same : other ≡ layout =
    same_lengths-same other layout (so.shape ∙ sym is.shape) (so.sectors0 ∙ sym is.sectors0) (so.sectors1 ∙ sym is.sectors1) (so.initial ∙ sym is.initial) (so.tail ∙ sym is.tail) in
    let count = length (plan_of layout settings.zones) in
    let opened = all_done (Write opening ∷ []) (Continues (convert_units layout settings.zones form opening) count [] 0 bytes) c runs (subst IsFaultless (sym done) tt) in
    let prefix : c.out ≡ opening ++ opened.after.out = ap (λ (x : Outcome). x.out) opened.is ∙ ap (λ l. l ++ opened.after.out) (append-nil opening) in
    let r = goes_again layout settings.zones form has opening count [] [] [] 0 0 bytes opened.after a refl opened.holds (sym (ap (λ (x : Outcome). x.end) opened.is) ∙ done)
    (subst (λ l. IsOutcome (recover_units l settings.zones form) bytes a) same read) none in
    let sectors : settings.sectors ≡ header.header.sectors0 = ap (λ (s : Settings). s.sectors) header.states.all in
    let sectors1 : settings.sectors1 ≡ header.header.sectors1 = ap (λ (s : Settings). s.sectors1) header.states.all in
    let initial : settings.initial ≡ header.header.initial = ap (λ (s : Settings). s.initial) header.states.all in
    let tail : settings.tail ≡ header.header.tail = ap (λ (s : Settings). s.tail) header.states.all in
    let stated : Settings = record words {
      shape = settings.shape;
      zones = settings.zones;
      sectors = header.header.sectors0;
      sectors1 = header.header.sectors1;
      initial = header.header.initial;
      tail = header.header.tail;
    } in
    let states : IsHeaderOf words stated opening = record {
      header = header.header;
      numbers = header.numbers;
      bytes = header.bytes;
      states = record { shape = header.states.shape; zones = header.states.zones; all = refl };
    } in
    let lengths : IsLayoutOf stated layout = record {
      shape = is.shape;
      sectors0 = is.sectors0 ∙ sectors;
      sectors1 = is.sectors1 ∙ sectors1;
      initial = is.initial ∙ initial;
      tail = is.tail ∙ tail;
    } in
    let kept : broken_rule stated ≡ None = rw (sym sectors, sym sectors1, sym initial, sym tail) rule in
    let goes : GoesOver stated opened.after.out r.again =
    subst (λ command. GoesBy (meaning command) stated opened.after.out r.again) (sym is_recover)
    (layout, lengths, subst (λ f. IsOutcome (recover_units layout settings.zones f) opened.after.out r.again) (sym listed) r.goes) in
    let run : IsOpened GoesOver words c.out (taking opening r.again) = record {
      own = opening;
      left = opened.after.out;
      prefix = prefix;
      after = r.again;
      comes = inr (header-size settings settings opening header, inr (stated, states, kept, goes));
      takes = refl;
    } in
    (taking opening r.again, subst (λ f. Opens f GoesOver words c.out (taking opening r.again)) (sym listed) run, r.out, r.lines, r.ends)
