-- Blocks that are drawn one after the other, and what is counted of them.
use Rattle.std.proofs.Common.{◌≡◌, ◌∙◌, inl, inr, ℕ, ◌+◌, ◌-◌, ◌^◌, ◌<◌, ◌≤◌, true, List, [], ◌∷◌, ◌++◌, length, length-append, get_or, refl, sym, ap, subst, arith, add-one}
use Rattle.std.specs.List.{range_with_len}
use Rattle.std.specs.Str.{bytes_eq}
use Rattle.std.proofs.lemmas.Bool.{cases_lt}
use Rattle.std.proofs.lemmas.List.{get_or_append_left, get_or_push}
use Rattle.std.proofs.lemmas.List.FromFn.{get_or-map-range_with_len, get_or-range_with_len, length-range_with_len}
use Rattle.std.proofs.lemmas.List.Sums.{list_all-from_AllPass, sum_by-append}
use Rattle.std.proofs.lemmas.Slice.Eq.{bytes_eq-Decides}
use Rattle.coding.specs.Filling.{marked}
use Rattle.coding.specs.Product.{line}
use Rattle.coding.specs.TwoPass.{answers_of, failed_of}
use Rattle.dvd_capture.specs.declared.work.Work.{Work}
use Rattle.dvd_exercise.specs.Damage.{hurt_state}
use Rattle.dvd_exercise.specs.Generator.{state_after}
use Rattle.dvd_loop.specs.Machine.Step.{Write}
use Rattle.coding.specs.Found.{block_differences}
use Rattle.dvd_decoding.specs.Reading.{block_in}
use Rattle.dvd_commands.specs.Exercise.{AreTrials, IsExercised, IsLeft, IsTrial, Trial, drawn_sector, drawn_sectors, exercise_line, fixed_in, state_at}
use Rattle.dvd_commands.specs.Inner.Exercising.{CountsOne, HaveBeenTried, are_sectors}
use Rattle.dvd_commands.specs.declared.exercise.Counts.{Counts}

-- the first state, and those that follow
pub state_first : (seed : ℕ) → seed < 2 ^ 32 → seed + 1 ≡ state_at seed 0
unfolding state_at
state_first seed below = omega arith

-- the state after block k is the one that the next block begins with
pub state_next : (seed k : ℕ) → hurt_state (state_after (state_at seed k) 32768) ≡ state_at seed (k + 1)
unfolding state_at
state_next seed k = ap (state_at seed) (sym (add-one k))

-- sector f of these
line-drawn_sectors : (image : List ℕ) (f : ℕ) → f < 16 → line (drawn_sectors image) f ≡ drawn_sector image f
unfolding drawn_sectors
line-drawn_sectors image f below = get_or-map-range_with_len (drawn_sector image) 0 16 f f [] below (omega arith)

-- sectors are their own
pub same_sectors : (image : List ℕ) → are_sectors (drawn_sectors image) image ≡ true
unfolding are_sectors
same_sectors image =
    list_all-from_AllPass (λ f. bytes_eq (line (drawn_sectors image) f) (drawn_sector image f)) (range_with_len 0 16)
    (λ i default within.
    let below : i < 16 = omega (arith, length-range_with_len 0 16) in
    let is : get_or (range_with_len 0 16) i default ≡ i = get_or-range_with_len 0 16 i default below ∙ omega arith in
    let one : bytes_eq (line (drawn_sectors image) i) (drawn_sector image i) ≡ true =
    (bytes_eq-Decides (line (drawn_sectors image) i) (drawn_sector image i)).1 (line-drawn_sectors image i below) in
    ap (λ f. bytes_eq (line (drawn_sectors image) f) (drawn_sector image f)) is ∙ one)

-- no block yet
pub none_after : (seed state : ℕ) (counts : Counts) (work : Work) → state ≡ state_at seed 0 → counts.whole ≡ 0 → counts.fixed ≡ 0 → counts.failed ≡ 0
    → HaveBeenTried seed 0 state counts work
none_after seed state counts work first whole fixed failed = record {
  state_is = first;
  trials = [];
  count = refl;
  are = λ k default below. absurd (omega arith);
  whole = whole;
  fixed = fixed;
  failed = failed;
  fixed_most = omega (arith, fixed);
  failed_most = omega (arith, failed);
  left = λ k is. absurd (omega arith);
}

-- a block more
pub trials_more : (seed n : ℕ) (trials : List Trial) (last : Trial) → length trials ≡ n → AreTrials seed trials → IsTrial seed n last
    → AreTrials seed (trials ++ last ∷ [])
trials_more seed n trials last count are is k default below = elim (cases_lt k n) [
  | inl earlier ↦
      subst (IsTrial seed k) (sym (get_or_append_left trials (last ∷ []) default k (omega (arith, count)))) (are k default (omega (arith, count)))
  | inr late ↦
      let here : n ≡ k = omega (arith, count, length-append trials (last ∷ []), late) in
      subst (λ (j : ℕ). IsTrial seed j (get_or (trials ++ last ∷ []) j default)) here (subst (IsTrial seed n) (sym (get_or_push trials last default n count)) is)
]

module _ (seed n : ℕ) (old_state new_state : ℕ) (old new : Counts) (old_work new_work : Work) (before : HaveBeenTried seed n old_state old old_work)
    (trial : Trial) (drawn : IsTrial seed n trial) (state_is : new_state ≡ hurt_state (state_after old_state 32768))
    (found : block_in trial.rows trial.marks ≡ trial.block) (counted : CountsOne trial.rows trial.marks old new)
    (fixed_most : new.fixed ≤ old.fixed + 2 ^ 32) (failed_most : new.failed ≤ old.failed + 2 ^ 16) (left : IsLeft seed n new_work) where
  -- so block n is counted as well: its trial is one more, and what is counted of it is added
  pub one_more : HaveBeenTried seed (n + 1) new_state new new_work
  one_more = record {
    state_is = state_is ∙ ap (λ x. hurt_state (state_after x 32768)) before.state_is ∙ state_next seed n;
    trials = before.trials ++ trial ∷ [];
    count = length-append before.trials (trial ∷ []) ∙ ap (λ m. m + 1) before.count;
    are = trials_more seed n before.trials trial before.count before.are drawn;
    whole = counted.whole ∙ ap (λ m. m + 1) before.whole;
    fixed =
        omega (
          arith,
          counted.fixed,
          before.fixed,
          ap (block_differences trial.rows) found,
          sum_by-append (λ (t : Trial). block_differences t.rows t.block) before.trials (trial ∷ []),
        );
    failed =
        omega (
          arith,
          counted.failed,
          before.failed,
          sum_by-append (λ (t : Trial). marked (failed_of (answers_of t.rows t.marks))) before.trials (trial ∷ []),
        );
    fixed_most = omega (arith, fixed_most, before.fixed_most);
    failed_most = omega (arith, failed_most, before.failed_most);
    left = λ k is. subst (λ (j : ℕ). IsLeft seed j new_work) (omega (arith, is)) left;
  }

-- after the last block the line is written
pub exercised : (seed blocks n state : ℕ) (counts : Counts) (work : Work) (line : List ℕ) → n ≡ blocks → HaveBeenTried seed n state counts work
    → line ≡ exercise_line seed blocks counts.whole counts.fixed counts.failed → IsExercised seed blocks (Write line ∷ [])
exercised seed blocks n state counts work line all after_last is = record {
  trials = after_last.trials;
  count = after_last.count ∙ all;
  are = after_last.are;
  writes =
      ap (λ l. Write l ∷ [])
      (is
      ∙ ap (λ whole. exercise_line seed blocks whole counts.fixed counts.failed) (after_last.whole ∙ all)
      ∙ ap (λ fixed. exercise_line seed blocks blocks fixed counts.failed) after_last.fixed
      ∙ ap (exercise_line seed blocks blocks (fixed_in after_last.trials)) after_last.failed);
}

-- and the work holds what it left
pub last_left : (seed blocks n state : ℕ) (counts : Counts) (work : Work) → 1 ≤ blocks → n ≡ blocks → HaveBeenTried seed n state counts work
    → IsLeft seed (blocks - 1) work
last_left seed blocks n state counts work some all after_last = after_last.left (blocks - 1) (omega (arith, some, all))
