-- The first place of a list that passes a test.
use Rattle.std.proofs.Common.{◌≡◌, ℕ, ◌<◌, Bool, true, false, cond, nat_lt, List, length, get_or, position, refl, subst, arith, Some, None}
use Rattle.std.specs.List.{position_or_len}
use Rattle.std.proofs.lemmas.Bool.{lt-ltb}
use Rattle.std.proofs.lemmas.Bool.Decides.{nat_tests}
use Rattle.std.proofs.lemmas.List.Sums.{position_or_len_is, fails_before_first}

-- the first place whose element passes, where none before it does, is the one found
pub first_passes : {X : Type 0} (p : X → Bool) (xs : List X) (i : ℕ) (d : X) → i < length xs
    → ((k : ℕ) → k < i → p (get_or xs k d) ≡ false) → p (get_or xs i d) ≡ true → position p xs ≡ Some i
first_passes p xs i d within before here =
    let at = position_or_len_is p xs i d (omega arith) before (λ inside. here) in
    rw (at, lt-ltb i (length xs) within) refl

-- where no element passes, no place is found
pub none_passes : {X : Type 0} (p : X → Bool) (xs : List X) (d : X) → ((k : ℕ) → k < length xs → p (get_or xs k d) ≡ false) → position p xs ≡ None
none_passes p xs d fails =
    let at = position_or_len_is p xs (length xs) d (omega arith) fails (λ inside. absurd (omega arith)) in
    let not_less : nat_lt (length xs) (length xs) ≡ false = grind (arith, nat_tests) in
    rw (at, not_less) refl

-- where none passes, each fails
pub none_fails : {X : Type 0} (p : X → Bool) (xs : List X) (k : ℕ) (d : X) → position p xs ≡ None → k < length xs → p (get_or xs k d) ≡ false
none_fails p xs k d none within = fails_before_first p xs k d (past (nat_lt (position_or_len p xs) (length xs)) refl) where
  -- a list in which no place is found has none that passes, so every place is before the first
  past : (test : Bool) → nat_lt (position_or_len p xs) (length xs) ≡ test → k < position_or_len p xs
  past true is = let found : cond true (Some (position_or_len p xs)) None ≡ None = subst (λ b. cond b (Some (position_or_len p xs)) None ≡ None) is none in cc
  past false is = grind (arith, nat_tests)
