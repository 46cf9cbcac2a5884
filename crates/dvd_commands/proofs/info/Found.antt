-- What `info` finds in an input: the first block that answers, or none.
use Rattle.std.proofs.Common.{◌≡◌, ◌∙◌, inl, inr, ◌⊎◌, ℕ, zero, suc, ◌+◌, ◌<◌, Bool, List, [], ◌∷◌, ◌++◌, length, length-append, take, ap, sym, subst, append-nil, append_assoc, add-one, arith}
use Rattle.std.proofs.lemmas.Bool.{cases_lt}
use Rattle.coding.specs.Product.{line}
use Rattle.dvd_capture.specs.Captured.{captured_marks, captured_rows, unit_size}
use Rattle.dvd_capture.specs.declared.form.Form.{Form}
use Rattle.dvd_control.specs.Format.{Fields, fields_in}
use Rattle.dvd_layout.specs.declared.entry.BlockPlan.{BlockPlan}
use Rattle.dvd_layout.specs.declared.entry.Content.{Content}
use Rattle.dvd_layout.specs.declared.entry.Content.TheVariants.{Control, Image, Reference, Zero}
use Rattle.dvd_loop.specs.Laws.{IsFaultless}
use Rattle.dvd_loop.specs.Machine.{Performs, EndsAfterLast, Continues, ContinuesAfter, IsEndedWithin, Outcome, Step, bad_of, ended, taking}
use Rattle.dvd_loop.specs.Machine.Prefix.{Whole, Cut, Broken}
use Rattle.dvd_loop.specs.Machine.Step.{Write}
use Rattle.dvd_loop.specs.declared.ends.AfterLast.TheVariants as after_last
use Rattle.dvd_loop.specs.declared.ends.LoopEnd.{LoopEnd}
use Rattle.dvd_loop.specs.declared.ends.LoopEnd.TheVariants.{BadMarks, Done, NoControl, Short}
use Rattle.dvd_loop.specs.declared.ends.UnitKind.{UnitKind}
use Rattle.dvd_loop.specs.declared.ends.UnitKind.TheVariants.{Good, Last}
use Rattle.dvd_loop.proofs.Faultless.{all_done, short_or_broken}
use Rattle.dvd_loop.proofs.StepLemmas.{onto}
use Rattle.dvd_commands.specs.Captured.{HasBlocks, block_bytes, block_start, captured_part, from_block}
use Rattle.dvd_commands.specs.Info.{IsAsked, IsSought, format_lines, info_units}
use Rattle.dvd_commands.specs.Laws.{FindsNone, FindsTheFirst, InfoFindsTheFirstAnswer}
use Rattle.dvd_commands.proofs.CapturedBlocks.{IsPast, from-is, prefix-is, own-is, past_next, past_none}
use Rattle.dvd_commands.proofs.CapturedParts.{broken_stays}

-- a block is passed over, or it is the last and the lines of its format are written
abbrev GivesOrPasses : List Step → UnitKind → Type 0
GivesOrPasses steps kind = ((steps ≡ []) × (kind ≡ Good)) ⊎ ((format : Fields) × (steps ≡ Write (format_lines format) ∷ []) × (kind ≡ Last))

-- one of the two is done for each block that is asked
gives_or_passes : (content : Content) (entry : BlockPlan) (rows : List (List ℕ)) (marks : List (List Bool)) (steps : List Step) (kind : UnitKind)
    → IsAsked content entry rows marks steps kind → GivesOrPasses steps kind
gives_or_passes Control entry rows marks steps kind does = elim does [
  | inl answer ↦ inr (fields_in (line answer.sectors 0), answer.writes, answer.last)
  | inr none ↦ inl (none.nothing, none.good)
]
gives_or_passes Zero entry rows marks steps kind does = inl does
gives_or_passes Reference entry rows marks steps kind does = inl does
gives_or_passes (Image sector) entry rows marks steps kind does = inl does

-- it ends with so much taken and written, and nothing reported
abbrev ends_with : List ℕ → List ℕ → LoopEnd → Outcome
ends_with taken out end = record { taken = taken; out = out; lines = []; end = end }

module _ (initial : ℕ) (form : Form) (all : List ℕ) where
  -- the first k blocks of the input answer nothing
  abbrev AreSilent : ℕ → Type 0
  AreSilent k = (j : ℕ) → j < k → IsSought initial form j (block_bytes form all j) [] Good

  -- and one more, where block k answers nothing
  one_more_silent : (k : ℕ) → AreSilent k → IsSought initial form k (block_bytes form all k) [] Good → AreSilent (suc k)
  one_more_silent k silent this j lt = elim (cases_lt j k) [
    | inl less ↦ silent j less
    | inr le ↦ let is : k ≡ j = omega (arith, lt, le) in subst (λ i. IsSought initial form i (block_bytes form all i) [] Good) is this
  ]

  -- the blocks that are whole in the input answer nothing, where block k isn't
  silent_before : (k : ℕ) → AreSilent k → (captured_part form (from_block form all k) ≡ Whole (unit_size form (from_block form all k)) → ⊥)
      → (j : ℕ) → HasBlocks form all (j + 1) → IsSought initial form j (block_bytes form all j) [] Good
  silent_before k silent not j has = elim (cases_lt j k) [
    | inl lt ↦ silent j lt
    | inr le ↦ absurd (not (has k (omega (arith, le))))
  ]

  -- what is found by a run
  abbrev Finds : Outcome → Type 0
  Finds a = FindsTheFirst initial form all a ⊎ FindsNone initial form all a

  -- after all blocks none has answered
  behind_all : (prefix left : List ℕ) (a : Outcome) → IsPast form all (initial + 224) prefix left → AreSilent (initial + 224) → a ≡ ended NoControl
      → Finds (onto prefix [] [] a)
  behind_all prefix left a past silent ends = inr (record {
    none = λ j lt whole. silent j lt;
    ends = inl (record {
      whole = past.has;
      is = ap (onto prefix [] []) ends
          ∙ ap (λ l. ends_with l [] NoControl) (append-nil prefix ∙ sym (prefix-is form all (initial + 224) prefix left past));
    });
  })

  module _ (k : ℕ) (prefix left : List ℕ) (a : Outcome) (past : IsPast form all k prefix left) (sought : k < initial + 224) (silent : AreSilent k) where
    -- the input ends within block k
    runs_out : captured_part form left ≡ Cut → a ≡ taking left (ended (Short k (length left))) → Finds (onto prefix [] [] a)
    runs_out cut ends =
        let begins : captured_part form (from_block form all k) ≡ Cut = ap (captured_part form) (from-is form all k prefix left past) ∙ cut in
        inr (record {
          none = λ j lt has. silent_before k silent (λ whole. let no : Cut ≡ Whole (unit_size form (from_block form all k)) = sym begins ∙ whole in cc) j has;
          ends = inr (inl (record {
            k = k;
            held = length left;
            sought = sought;
            whole = past.has;
            cut = begins;
            size = ap length past.parts ∙ length-append prefix left ∙ ap (λ n. n + length left) past.at;
            is = ap (onto prefix [] []) ends ∙ ap (λ l. ends_with l [] (Short k (length left))) (ap (λ l. prefix ++ l) (append-nil left) ∙ sym past.parts);
          }));
        })

    -- block k breaks a rule
    breaks_off : (own more : List ℕ) (at : ℕ) → left ≡ own ++ more → captured_part form own ≡ Broken at → a ≡ taking own (ended (BadMarks k at))
        → Finds (onto prefix [] [] a)
    breaks_off own more at is broken ends =
        let from = from-is form all k prefix left past in
        let begins : captured_part form (from_block form all k) ≡ Broken at = ap (captured_part form) (from ∙ is) ∙ broken_stays form at own more broken in
        inr (record {
          none = λ j lt has. silent_before k silent (λ whole. let no : Broken at ≡ Whole (unit_size form (from_block form all k)) = sym begins ∙ whole in cc) j has;
          ends = inr (inr (record {
            k = k;
            at = at;
            sought = sought;
            whole = past.has;
            broken = begins;
            own = own;
            prefix = (more, from ∙ is);
            taken = broken;
            is = ap (onto prefix [] []) ends
                ∙ ap (λ l. ends_with l [] (BadMarks k at)) (ap (λ l. prefix ++ l) (append-nil own) ∙ ap (λ l. l ++ own) (sym (prefix-is form all k prefix left past)));
          }));
        })

    -- one of the two, where the loop ends within it
    within_block : IsEndedWithin (info_units initial form) k left a → IsFaultless a.end → Finds (onto prefix [] [] a)
    within_block w none = elim (short_or_broken (info_units initial form) k left a w none) [
      | inl (cut, is) ↦ runs_out cut is
      | inr (at, own, more, prefix, broken, is) ↦ breaks_off own more at prefix broken is
    ]

    -- block k answers
    answered : (own more : List ℕ) (format : Fields) (after : Outcome) → IsPast form all (suc k) (prefix ++ own) more
        → IsSought initial form k (block_bytes form all k) (Write (format_lines format) ∷ []) Last
        → a ≡ taking own after → Performs (Write (format_lines format) ∷ []) (λ o. o ≡ ended Done) after → IsFaultless after.end
        → Finds (onto prefix [] [] a)
    answered own more format after behind_it answers takes does none =
        let lines = format_lines format in
        let done = all_done (Write lines ∷ []) (λ o. o ≡ ended Done) after does none in
        let next : suc k ≡ k + 1 = sym (add-one k) in
        let taken : prefix ++ (own ++ []) ≡ take (block_start form all (k + 1)) all =
        ap (λ l. prefix ++ l) (append-nil own) ∙ sym (prefix-is form all (suc k) (prefix ++ own) more behind_it) ∙ ap (λ n. take (block_start form all n) all) next in
        let out : (lines ++ []) ++ [] ≡ lines = append-nil (lines ++ []) ∙ append-nil lines in
        inl (record {
          k = k;
          format = format;
          sought = sought;
          whole = subst (HasBlocks form all) next behind_it.has;
          answers = answers;
          none_before = silent;
          is = ap (onto prefix [] []) (takes ∙ ap (taking own) (done.is ∙ ap (onto [] (lines ++ []) []) done.holds)) ∙ (λ i. ends_with (taken i) (out i) Done);
        })

  -- what n blocks more find, after a front of the input with blocks that answer nothing
  finds : (n : ℕ) (before : List (List ℕ)) (bad : ℕ) (prefix left : List ℕ) (a : Outcome) → IsPast form all (length before) prefix left
      → length before + n ≡ initial + 224 → AreSilent (length before)
      → Continues (info_units initial form) n before bad left a → IsFaultless a.end → Finds (onto prefix [] [] a)
  unfolding Continues
  finds zero before bad prefix left a past count silent (steps, closes, does) none =
      let now : a ≡ ended NoControl = subst (λ s. Performs s (EndsAfterLast after_last.NoControl bad left) a) closes does in
      let number : length before ≡ initial + 224 = omega (arith, count) in
      behind_all prefix left a (subst (λ k. IsPast form all k prefix left) number past) (subst AreSilent number silent) now
  finds (suc n) before bad prefix left a past count silent (inl w) none =
      within_block (length before) prefix left a past (omega (arith, count)) silent w none
  finds (suc n) before bad prefix left a past count silent (inr t) none =
      let k = length before in
      let behind_it = past_next form all k prefix left past t.own t.left t.prefix t.unit.whole in
      let own : t.own ≡ block_bytes form all k = sym (own-is form all k prefix left past t.own t.left t.prefix t.unit.whole) in
      let does : IsSought initial form k (block_bytes form all k) t.steps t.kind = subst (λ l. IsSought initial form k l t.steps t.kind) own t.unit.does in
      let faultless : IsFaultless t.after.end = subst (λ (o : Outcome). IsFaultless o.end) t.takes none in
      let Next : Outcome → Type 0 = Continues (info_units initial form) n (before ++ t.own ∷ []) (bad + bad_of t.kind) t.left in
      elim (gives_or_passes does.entry.content does.entry (captured_rows form (block_bytes form all k)) (captured_marks form (block_bytes form all k)) t.steps t.kind does.does) [
        | inl (nothing, good) ↦
            let one : length (before ++ t.own ∷ []) ≡ suc k = length-append before (t.own ∷ []) ∙ add-one k in
            let goes : Next t.after = subst (λ v. ContinuesAfter v Next t.after) good (subst (λ s. Performs s (ContinuesAfter t.kind Next) t.after) nothing t.does) in
            let more = one_more_silent k silent (subst (λ v. IsSought initial form k (block_bytes form all k) [] v) good (subst (λ s. IsSought initial form k (block_bytes form all k) s t.kind) nothing does)) in
            subst Finds (ap (λ l. record t.after { taken = l }) (append_assoc prefix t.own t.after.taken) ∙ ap (onto prefix [] []) (sym t.takes)) (
            finds n (before ++ t.own ∷ []) (bad + bad_of t.kind) (prefix ++ t.own) t.left t.after (subst (λ j. IsPast form all j (prefix ++ t.own) t.left) (sym one) behind_it)
            (omega (arith, one, count)) (subst AreSilent (sym one) more) goes faultless
            )
        | inr (format, writes, last) ↦
            let answers = subst (λ v. IsSought initial form k (block_bytes form all k) (Write (format_lines format) ∷ []) v) last (subst (λ s. IsSought initial form k (block_bytes form all k) s t.kind) writes does) in
            let ends = subst (λ v. Performs (Write (format_lines format) ∷ []) (ContinuesAfter v Next) t.after) last (subst (λ s. Performs s (ContinuesAfter t.kind Next) t.after) writes t.does) in
            answered k prefix left a past (omega (arith, count)) silent t.own t.left format t.after behind_it answers t.takes ends faultless
      ]

-- what a run finds from the first block on
pub found : InfoFindsTheFirstAnswer
found initial form bytes a runs none =
    finds initial form bytes (initial + 224) [] 0 [] bytes a (past_none form bytes) (omega arith) (λ j lt. absurd (omega arith)) runs none
