-- Within the bound, the block that was recorded agrees with the answers of the first pass.
use Rattle.std.proofs.Common.{◌≡◌, ◌⊎◌, ◌∙◌, ℕ, ◌<◌, ◌≤◌, Bool, true, false, cond, nat_eq, nat_lt, nat_le, List, [], ◌∷◌, length, map, slice_index, All, inl, inr, refl, sym, arith, Some, None, is_none}
use Rattle.std.specs.declared.option.Option.{Option}
use Rattle.std.proofs.lemmas.Bool.Decides.{nat_tests}
use Rattle.std.proofs.lemmas.Bool.Decides.{leb_tells}
use Rattle.std.proofs.lemmas.List.Elements.{All-head, All-tail}
use Rattle.coding.specs.Words.{IsCodeword, IsNear, cost}
use Rattle.coding.specs.Filling.{marked}
use Rattle.rs_decode.specs.Errors.{HasNoneNear}
use Rattle.coding.specs.Nearest.{near_of}
use Rattle.rs_decode.proofs.NearSearch.{near_of-some, none-near_of}
use Rattle.coding.specs.Product.{IsProduct}
use Rattle.coding.specs.TwoPass.{IsTwoPass, answer_column, answers_of, byte_or_zero, failed_of}
use Rattle.coding.specs.Within.{IsWithin, block_weight, row_weight}

-- each marked place costs one at least
pub marked-cost : (word row : List ℕ) (marks : List Bool) → length word ≡ length marks → length row ≡ length marks → marked marks ≤ cost word row marks
unfolding marked cost
marked-cost [] row [] word_size row_size = omega arith
marked-cost [] row (mark ∷ marks) word_size row_size = absurd (omega arith)
marked-cost (x ∷ word) row [] word_size row_size = omega arith
marked-cost (x ∷ word) [] (mark ∷ marks) word_size row_size = absurd (omega arith)
marked-cost (x ∷ word) (y ∷ row) (true ∷ marks) word_size row_size =
    let rest : marked marks ≤ cost word row marks = marked-cost word row marks (omega arith) (omega arith) in omega arith
marked-cost (x ∷ word) (y ∷ row) (false ∷ marks) word_size row_size =
    let rest : marked marks ≤ cost word row marks = marked-cost word row marks (omega arith) (omega arith) in omega arith

-- what a row's answer costs a column in which the recorded byte is this
abbrev answer_cost : ℕ → ℕ → Option (List ℕ) → ℕ
answer_cost j byte answer = cond (is_none answer) 1 (cond (nat_eq byte (byte_or_zero j answer)) 0 2)

-- a good row comes back, since at most one codeword is near
good_row : (j : ℕ) (word row : List ℕ) (marks : List Bool) → IsNear 182 10 row marks word → answer_cost j (slice_index word j) (near_of 182 10 row marks) ≡ 0
good_row j word row marks near =
    let found = near_of-some 182 10 row word marks (omega arith) near in
    let same : nat_eq (slice_index word j) (slice_index word j) ≡ true = grind (arith, nat_tests) in
    rw (found, same) refl

-- a lost row fails, since its cost to every codeword is above 10
lost_row : (j byte : ℕ) (row : List ℕ) (marks : List Bool) → length row ≡ 182 → length marks ≡ 182 → 10 < marked marks
    → answer_cost j byte (near_of 182 10 row marks) ≡ 1
lost_row j byte row marks row_size marks_size lost =
    let none : HasNoneNear 182 10 row marks = λ word near.
    let dear : marked marks ≤ cost word row marks = marked-cost word row marks (near.codeword.size ∙ sym marks_size) (row_size ∙ sym marks_size) in
    let cheap = near.within in
    omega arith in
    rw (none-near_of 182 10 row marks row_size marks_size none) refl

-- any row costs at most two
any_row : (j byte : ℕ) (answer : Option (List ℕ)) → answer_cost j byte answer ≤ 2
any_row j byte None = omega arith
any_row j byte (Some word) = grind (arith, nat_tests)

-- a cost that is nothing for a good row, one for a lost row and two at most is no more than the weight
weigh : (price lost d : ℕ) → (price ≤ 10 → d ≡ 0) → (10 < lost → d ≡ 1) → d ≤ 2
    → d ≤ cond (nat_le price 10) 0 (cond (nat_lt 10 lost) 1 2)
weigh price lost d good gone most = by_price (leb_tells price 10) where
  by_lost : (((nat_lt 10 lost ≡ true) × (10 < lost)) ⊎ ((nat_lt 10 lost ≡ false) × (lost < 11))) → d ≤ cond (nat_lt 10 lost) 1 2
  by_lost (inl is) = rw is.0 (omega (arith, gone is.1))
  by_lost (inr is) = rw is.0 most

  by_price : (((nat_le price 10 ≡ true) × (price ≤ 10)) ⊎ ((nat_le price 10 ≡ false) × (10 < price))) → d ≤ cond (nat_le price 10) 0 (cond (nat_lt 10 lost) 1 2)
  by_price (inl is) = rw is.0 (omega (arith, good is.1))
  by_price (inr is) = rw is.0 (by_lost (leb_tells 11 lost))

-- no row costs a column more than its weight
row_bound : (j : ℕ) (word row : List ℕ) (marks : List Bool) → IsCodeword 182 10 word → length row ≡ 182 → length marks ≡ 182
    → answer_cost j (slice_index word j) (near_of 182 10 row marks) ≤ row_weight word row marks
row_bound j word row marks codeword row_size marks_size =
    weigh (cost word row marks) (marked marks) (answer_cost j (slice_index word j) (near_of 182 10 row marks))
    (λ cheap. good_row j word row marks (record { codeword = codeword; received_size = row_size; marks_size = marks_size; within = cheap }))
    (λ lost. lost_row j (slice_index word j) row marks row_size marks_size lost)
    (any_row j (slice_index word j) (near_of 182 10 row marks))

-- each row of a list has this many places
abbrev pub HasWidth : {X : Type 0} → ℕ → List (List X) → Type 0
HasWidth n rows = All (λ row. length row ≡ n) rows

-- so a column costs no more than the weight of the block
column_bound : (j : ℕ) (block received : List (List ℕ)) (marks : List (List Bool)) → All (IsCodeword 182 10) block
    → HasWidth 182 received → HasWidth 182 marks
    → cost (map (λ row. slice_index row j) block) (map (byte_or_zero j) (answers_of received marks)) (failed_of (answers_of received marks)) ≤ block_weight block received marks
unfolding cost block_weight answers_of
column_bound j [] received marks codewords widths marks_widths = omega arith
column_bound j (word ∷ block) [] marks codewords widths marks_widths = omega arith
column_bound j (word ∷ block) (row ∷ received) [] codewords widths marks_widths = omega arith
column_bound j (word ∷ block) (row ∷ received) (mark ∷ marks) codewords widths marks_widths =
    let here = row_bound j word row mark (All-head (IsCodeword 182 10) word block codewords) (All-head (λ r. length r ≡ 182) row received widths) (All-head (λ r. length r ≡ 182) mark marks marks_widths) in
    let rest = column_bound j block received marks (All-tail (IsCodeword 182 10) word block codewords) (All-tail (λ r. length r ≡ 182) row received widths) (All-tail (λ r. length r ≡ 182) mark marks marks_widths) in
    omega (arith, here, rest)

-- Within the bound, the recorded block agrees with the answers.
pub within_agrees : (block received : List (List ℕ)) (marks : List (List Bool)) → IsProduct block → HasWidth 182 received → HasWidth 182 marks
    → IsWithin block received marks → IsTwoPass received marks block
unfolding answer_column
within_agrees block received marks product widths marks_widths within = record {
  product = product;
  columns = λ j below. let bound = column_bound j block received marks product.rows widths marks_widths in omega arith;
}
