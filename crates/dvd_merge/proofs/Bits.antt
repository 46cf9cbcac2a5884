-- The bytes of places and their marks, as codes and values have them.
use Rattle.std.proofs.Common.{◌≡◌, ◌⊎◌, ℕ, ◌+◌, ◌-◌, ◌<◌, ◌≤◌, false, List, length, get_or, map, inl, inr, sym, ◌∙◌, ap, subst, arith}
use Rattle.std.proofs.lemmas.Bool.{cases_lt}
use Rattle.std.proofs.lemmas.List.{ext_get_or, get_or-map, length-map}
use Rattle.std.proofs.lemmas.Simd.{length-zip2}
use Rattle.dvd_merge.specs.Join.{byte_of, joined_mark}
use Rattle.dvd_merge.specs.Planes.{place_from, row_of}
use Rattle.dvd_merge.specs.Inner.Rows.{at_place, is_unknown}
use Rattle.dvd_merge.specs.declared.place.Place.TheVariants.{Unseen}
use Rattle.dvd_merge.proofs.PlaceLanes.{place-unknown}
use Rattle.dvd_merge.proofs.Rows.{row-place}

-- the marks of a row are those of its codes
pub marks-codes : (values codes : List ℕ) → length values ≡ 182 → length codes ≡ 182 → map is_unknown codes ≡ map joined_mark (row_of values codes)
marks-codes values codes in_values in_codes =
    ext_get_or false (map is_unknown codes) (map joined_mark (row_of values codes))
    (length-map codes is_unknown ∙ in_codes ∙ sym (length-map (row_of values codes) joined_mark ∙ long))
    (λ k within. let below : k < 182 = omega (arith, within, length-map codes is_unknown, in_codes) in
    get_or-map is_unknown codes k 0 false (omega (arith, in_codes, below)) ∙ place-unknown (get_or values k 0) (get_or codes k 0)
    ∙ ap joined_mark (sym (row-place values codes k (omega (arith, in_values, below)) (omega (arith, in_codes, below))))
    ∙ sym (get_or-map joined_mark (row_of values codes) k Unseen false (omega (arith, long, below))))
  where
    long : length (row_of values codes) ≡ 182
    long = length-zip2 place_from values codes (in_values ∙ sym in_codes) ∙ in_values

-- the bytes of 32 places more
pub bytes-more : (values codes bytes new_bytes lanes lv lc : List ℕ) (done at : ℕ) → at ≤ done → (at < done → at ≡ 150)
    → ((q : ℕ) → q < 182 → q < done → get_or bytes q 0 ≡ byte_of (at_place values codes q))
    → ((k : ℕ) → k < 32 → get_or lv k 0 ≡ get_or values (at + k) 0) → ((k : ℕ) → k < 32 → get_or lc k 0 ≡ get_or codes (at + k) 0)
    → ((k : ℕ) → k < 32 → get_or lanes k 0 ≡ byte_of (at_place lv lc k))
    → ((k : ℕ) → k < 32 → get_or new_bytes (at + k) 0 ≡ get_or lanes k 0) → ((k : ℕ) → k < at → get_or new_bytes k 0 ≡ get_or bytes k 0)
    → (q : ℕ) → q < 182 → q < done + 32 → get_or new_bytes q 0 ≡ byte_of (at_place values codes q)
bytes-more values codes bytes new_bytes lanes lv lc done at from last before load_v load_c each set same q inside below = elim (cases_lt q at) [
  | inl low ↦ same q low ∙ before q inside (omega (arith, low, from))
  | inr high ↦ here (q - at) (small high (cases_lt at done)) (omega (arith, high))
]
  where
    small : at ≤ q → (at < done) ⊎ (done ≤ at) → q - at < 32
    small high (inl less) = omega (arith, high, inside, last less)
    small high (inr even) = omega (arith, high, below, even)

    here : (k : ℕ) → k < 32 → at + k ≡ q → get_or new_bytes q 0 ≡ byte_of (at_place values codes q)
    here k few whole =
        subst (λ m. get_or new_bytes m 0 ≡ byte_of (at_place values codes m)) whole
        (set k few ∙ each k few ∙ (λ i. byte_of (place_from (load_v k few i) (load_c k few i))))

-- all bytes of a row
pub bytes-all : (values codes bytes : List ℕ) → length values ≡ 182 → length codes ≡ 182 → length bytes ≡ 182
    → ((q : ℕ) → q < 182 → get_or bytes q 0 ≡ byte_of (at_place values codes q)) → bytes ≡ map byte_of (row_of values codes)
bytes-all values codes bytes in_values in_codes in_bytes each =
    ext_get_or 0 bytes (map byte_of (row_of values codes)) (in_bytes ∙ sym (length-map (row_of values codes) byte_of ∙ long))
    (λ q within. let below : q < 182 = omega (arith, within, in_bytes) in
    each q below ∙ ap byte_of (sym (row-place values codes q (omega (arith, in_values, below)) (omega (arith, in_codes, below))))
    ∙ sym (get_or-map byte_of (row_of values codes) q Unseen 0 (omega (arith, long, below))))
  where
    long : length (row_of values codes) ≡ 182
    long = length-zip2 place_from values codes (in_values ∙ sym in_codes) ∙ in_values
