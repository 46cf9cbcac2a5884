-- The rows that failed, as they are noted one by one, and their number.
use Rattle.std.proofs.Common.{◌≡◌, ◌∙◌, ℕ, zero, suc, ◌+◌, ◌<◌, ◌≤◌, ◌↔◌, inl, inr, ◌⊎◌, Bool, true, false, List, [], ◌∷◌, length, get_or, replicate, set, refl, ap, arith, IsTrue}
use Rattle.std.proofs.lemmas.Bool.{cases_lt}
use Rattle.coding.specs.Filling.{marked}
use Rattle.dvd_capture.specs.declared.parts.AnswerRow.{AnswerRow}
use Rattle.dvd_read.proofs.RowAnswers.{AreFlagsBefore}

-- no more places are marked than there are
pub marked-most : (marks : List Bool) → marked marks ≤ length marks
unfolding marked
marked-most [] = omega arith
marked-most (true ∷ marks) = let rest = marked-most marks in omega arith
marked-most (false ∷ marks) = let rest = marked-most marks in omega arith

-- a place that isn't marked counts once it is
pub marked-set : (marks : List Bool) (i : ℕ) → i < length marks → get_or marks i false ≡ false → marked (set marks i true) ≡ marked marks + 1
unfolding marked
marked-set [] i within clear = absurd (omega arith)
marked-set (true ∷ marks) zero within clear = absurd (cc)
marked-set (false ∷ marks) zero within clear = omega arith
marked-set (mark ∷ marks) (suc i) within clear = let rest = marked-set marks i (omega arith) clear in omega (arith, rest)

-- no row from row i on is noted
abbrev pub AreClearFrom : List Bool → ℕ → Type 0
AreClearFrom failed i = (k : ℕ) → i ≤ k → get_or failed k false ≡ false

-- the rows before row i are noted where they failed, and no others
pub record AreNoted (answers : List AnswerRow) (failed : List Bool) (i : ℕ) : Type 0 where
  pub before : AreFlagsBefore answers failed i
  pub after : AreClearFrom failed i

-- of flags that are all false none is set
clear-at : (n k : ℕ) → get_or (replicate n false) k false ≡ false
clear-at zero k = refl
clear-at (suc n) zero = refl
clear-at (suc n) (suc k) = clear-at n k

-- at first no row is noted
pub none-noted : (answers : List AnswerRow) (failed : List Bool) → failed ≡ replicate 208 false → AreNoted answers failed 0
none-noted answers failed is = record {
  before = λ k d below. absurd (omega arith);
  after = λ k past. ap (λ (flags : List Bool). get_or flags k false) is ∙ clear-at 208 k;
}

-- where they aren't few there are more than sixteen
pub many-failed : (count : ℕ) (few : Bool) → (IsTrue few ↔ count ≤ 16) → few ≡ false → 16 < count
many-failed count few said is = by (cases_lt 16 count) where
  by : (16 < count) ⊎ (count ≤ 16) → 16 < count
  by (inl many) = many
  by (inr within) = (let right : few ≡ true = said.1 within in absurd (cc))
