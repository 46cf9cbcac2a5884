-- Memory that was taken: what an error was before it was turned into another.
use Rattle.std.proofs.Common.{◌≡◌, ℕ, List, length, arith, Result, Ok, Err, MatchResult, is_ok, sym, ◌∙◌, ap}
use Rattle.std.proofs.lemmas.Bool.{false≢true}
use Rattle.std.proofs.lemmas.Grind.{same_number_lists}
use Rattle.std.specs.Array.{AllZipBelow}

-- a result that is Ok by `map_err` was Ok before, with the same value
pub before_map_err : {T E F : Type 0} (was : Result T E) (now : Result T F) (value : T) (Q : E → Type 0)
    → MatchResult was (λ x. now ≡ Ok x) Q → is_ok now ≡ is_ok was → now ≡ Ok value → was ≡ Ok value
before_map_err (Ok x) now value Q cases variant is = cc
before_map_err (Err e) now value Q cases variant is = absurd (false≢true (sym variant ∙ ap is_ok is))

-- a clone of an array of bytes is the array
pub same_array : (n : ℕ) (xs ys : List ℕ) → length xs ≡ n → AllZipBelow (λ (x y : ℕ). y ≡ x) xs ys n → ys ≡ xs
same_array n xs ys size clones =
    same_number_lists ys xs (clones.long ∙ sym size) (λ k below. clones.at k 0 0 (omega (arith, clones.long)))
