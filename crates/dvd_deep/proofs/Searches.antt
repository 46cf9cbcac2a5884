-- The first of several rounds that finishes.
use Rattle.std.proofs.Common.{◌≡◌, ◌∙◌, ℕ, zero, suc, ◌+◌, ◌-◌, ◌<◌, ◌≤◌, Bool, true, false, ◌&&◌, List, find, inl, inr, refl, ap, arith, Some, None}
use Rattle.std.specs.List.{list_all, range_with_len}
use Rattle.std.proofs.lemmas.Bool.{cases_eq}
use Rattle.coding.specs.Nearest.{vanishes_at_all}
use Rattle.dvd_deep.specs.Rounds.{State, after_rounds, are_answered, column_step, failed_marks, finishes, first_round, round, row_step}

-- the first number from a on that passes a test
first_at : (test : ℕ → Bool) (a n k : ℕ) → a ≤ k → k < a + n → ((i : ℕ) → a ≤ i → i < k → test i ≡ false) → test k ≡ true → find test (range_with_len a n) ≡ Some k
first_at test a zero k from below before here = absurd (omega arith)
first_at test a (suc n) k from below before here = elim (cases_eq a k) [
  | inl same ↦
      let first : test a ≡ true = ap test same ∙ here in
      rw first (ap Some same)
  | inr other ↦
      let fails : test a ≡ false = before a (omega arith) (omega arith) in
      rw fails (first_at test (a + 1) n k (omega arith) (omega arith) (λ i i_from. before i (omega arith)) here)
]

-- or none
first_none : (test : ℕ → Bool) (a n : ℕ) → ((i : ℕ) → a ≤ i → i < a + n → test i ≡ false) → find test (range_with_len a n) ≡ None
first_none test a zero none = refl
first_none test a (suc n) none =
    let fails : test a ≡ false = none a (omega arith) (omega arith) in
    rw fails (first_none test (a + 1) n (λ i from below. none i (omega arith) (omega arith)))

-- no round before round t finishes
abbrev pub NoneFinishesBefore : State → ℕ → Type 0
NoneFinishesBefore state t = (k : ℕ) → 1 ≤ k → k < t → finishes (after_rounds (k - 1) state) ≡ false

-- where round t doesn't finish either, none before round t + 1 does
pub none-next : (state : State) (t : ℕ) → 1 ≤ t → NoneFinishesBefore state t → finishes (after_rounds (t - 1) state) ≡ false → NoneFinishesBefore state (t + 1)
none-next state t from before here k k_from below = elim (cases_eq k t) [
  | inl same ↦ ap (λ n. finishes (after_rounds (n - 1) state)) same ∙ here
  | inr other ↦ before k k_from (omega arith)
]

-- the first of four rounds that finishes is the round that is looked for
pub first-found : (state : State) (t : ℕ) → 1 ≤ t → t ≤ 4 → NoneFinishesBefore state t → finishes (after_rounds (t - 1) state) ≡ true → first_round state ≡ Some t
unfolding first_round
first-found state t from most before here = first_at (λ t. finishes (after_rounds (t - 1) state)) 1 4 t from (omega arith) before here

-- where none of the four finishes there is no such round
pub none-found : (state : State) → NoneFinishesBefore state 5 → first_round state ≡ None
unfolding first_round
none-found state before = first_none (λ t. finishes (after_rounds (t - 1) state)) 1 4 (λ k from below. before k from (omega arith))

-- one round more
pub after_rounds-next : (state : State) (t : ℕ) → 1 ≤ t → after_rounds t state ≡ round (after_rounds (t - 1) state)
unfolding after_rounds
after_rounds-next state t from =
    let next : t ≡ suc (t - 1) = omega arith in
    ap (λ n. after_rounds n state) next

-- no round is played yet
pub nothing-played : (state : State) → state ≡ after_rounds 0 state
unfolding after_rounds
nothing-played state = refl

-- ---- the steps of a round

-- the row step and then the column step with the failed rows are a round
pub round-left : (before stepped left : State) (failed : List Bool) → failed ≡ failed_marks before → stepped ≡ row_step before → left ≡ column_step failed stepped
    → left ≡ round before
unfolding round
round-left before stepped left failed failed_is stepped_is left_is =
    left_is ∙ ap (λ flags. column_step flags stepped) failed_is ∙ ap (column_step (failed_marks before)) stepped_is

-- whether the code's rows answer all columns is whether those of the round do
pub answered-as : (before stepped : State) (failed : List Bool) (answered : Bool) → failed ≡ failed_marks before → stepped ≡ row_step before
    → answered ≡ are_answered failed stepped → answered ≡ are_answered (failed_marks before) (row_step before)
answered-as before stepped failed answered failed_is stepped_is is =
    is ∙ ap (λ flags. are_answered flags stepped) failed_is ∙ ap (are_answered (failed_marks before)) stepped_is

-- whether it finishes, by the two tests
pub finishes-by : (before : State) → finishes before ≡ (are_answered (failed_marks before) (row_step before) && list_all (vanishes_at_all 10) (round before).rows)
unfolding finishes
finishes-by before = refl
