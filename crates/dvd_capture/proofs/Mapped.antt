-- Lists by what is at each of their places.
use Rattle.std.proofs.Common.{◌≡◌, ◌∙◌, ℕ, ◌<◌, List, length, map, get_or, sym, arith}
use Rattle.std.specs.List.{range_with_len}
use Rattle.std.proofs.lemmas.List.{ext_get_or}
use Rattle.std.proofs.lemmas.List.FromFn.{length-map-range_with_len, get_or-map-range_with_len}

-- a list of n elements, each of which is known by its place
pub mapped : {A : Type 0} (is : ℕ → A) (xs : List A) (n : ℕ) (d : A) → length xs ≡ n → ((k : ℕ) → k < n → get_or xs k d ≡ is k)
    → xs ≡ map is (range_with_len 0 n)
mapped is xs n d size each =
    ext_get_or d xs (map is (range_with_len 0 n)) (size ∙ sym (length-map-range_with_len is 0 n))
    (λ k within. let below : k < n = omega (arith, size, within) in
    each k below ∙ sym (get_or-map-range_with_len is 0 n k k d below (omega arith)))
