-- Parity by its values: sums of the columns of a matrix (combined, combined-zero, combined_more, combined_bytes), which
-- have the values where the matrix is a basis (combined_values); zeros after a word (filled-whole, filled-bytes; lane_filled,
-- column_filled of the first places of a lane and of a column, which 73 and 47 zeros before them make whole), and
-- the encoded word, whose parity has the values of the message followed by zeros (encoded_by_values); encoded_kept
-- where columns stay.
use Rattle.std.proofs.Common.{◌≡◌, ◌≢◌, ℕ, zero, suc, ◌+◌, ◌-◌, ◌<◌, ◌≤◌, List, ◌++◌, map, take, length, get_or, replicate, All, refl, sym, ap, subst, ◌∙◌, inl, inr, arith, add-one, length-append, length-take-le, ◌==◌, if◌then◌else◌}
use Rattle.std.proofs.lemmas.Bool.{cases_eq, cases_lt}
use Rattle.std.proofs.lemmas.Bool.Decides.{nat_tests}
use Rattle.std.proofs.lemmas.Grind.{same_number_lists}
use Rattle.std.proofs.lemmas.List.Elements.{All-get_or, All-from_get_or, All-append}
use Rattle.std.proofs.lemmas.List.{append-nil, length-map, get_or_append_left, get_or-append_right, get_or_past}
use Rattle.std.proofs.lemmas.Simd.{length-replicate, get_or-replicate}
use Rattle.coding.specs.Field.{alpha, plus, product, power}
use Rattle.coding.specs.Words.{IsByte, IsEncoded, value}
use Rattle.gf_field.proofs.FieldLaws.{plus-byte, plus-zero, zero-plus, plus-self, product-byte, product-zero, product-one}
use Rattle.rs_code.specs.Inner.Polynomials.{sum_of, mul_scalar}
use Rattle.rs_code.proofs.Codewords.{IsEncoded-from_codeword}
use Rattle.rs_code.proofs.Values.{value-append, value-sum_of, value-mul_scalar, value-zeros, length-sum_of, get_or-sum_of, length-mul_scalar, get_or-mul_scalar}
use Rattle.coding.specs.Rows.{line, place, column}
use Rattle.rs_lanes.specs.Inner.Parity.{filled, IsBasis}
use Rattle.rs_lanes.specs.Inner.Thirds.{after_zeros}
use Rattle.rs_lanes.proofs.ColumnLemmas.{length-column, get_or-column, same_columns}
use Rattle.rs_lanes.proofs.ThirdLemmas.{get_or-after_zeros_back}

-- ---- sums of multiples

-- the sum of the first values, each multiplied by the coefficient at its place in the row
unfoldable pub combined : List ℕ → (ℕ → ℕ) → ℕ → ℕ
combined row values zero = 0
combined row values (suc k) = plus (combined row values k) (product (values k) (get_or row k 0))

-- no terms add up to 0
pub combined-zero : (row : List ℕ) (values : ℕ → ℕ) → combined row values 0 ≡ 0
unfolding combined
combined-zero row values = refl

-- one term more
pub combined_more : (row : List ℕ) (values : ℕ → ℕ) (k : ℕ) → combined row values (k + 1) ≡ plus (combined row values k) (product (values k) (get_or row k 0))
unfolding combined
combined_more row values k = ap (combined row values) (add-one k)

-- a sum of multiples is a byte
combined-byte : (row : List ℕ) (values : ℕ → ℕ) (n : ℕ) → combined row values n < 256
unfolding combined
combined-byte row values zero = omega arith
combined-byte row values (suc k) = plus-byte _ _ (combined-byte row values k) (product-byte (values k) (get_or row k 0))

-- the sum of the first columns of a matrix, each multiplied by its value
unfoldable word_of : List (List ℕ) → (ℕ → ℕ) → ℕ → List ℕ
word_of matrix values zero = replicate (length matrix) 0
word_of matrix values (suc k) = sum_of (word_of matrix values k) (mul_scalar (values k) (column matrix k))

-- it is as long as a column
length-word_of : (matrix : List (List ℕ)) (values : ℕ → ℕ) (n : ℕ) → length (word_of matrix values n) ≡ length matrix
unfolding word_of
length-word_of matrix values zero = length-replicate {A = ℕ} (length matrix) 0
length-word_of matrix values (suc k) =
    let before = length-word_of matrix values k in
    length-sum_of (word_of matrix values k) (mul_scalar (values k) (column matrix k))
    (before ∙ sym (length-mul_scalar (values k) (column matrix k) ∙ length-column matrix k)) ∙ before

-- as a multiple of a column is
same_length : (matrix : List (List ℕ)) (values : ℕ → ℕ) (k : ℕ) → length (word_of matrix values k) ≡ length (mul_scalar (values k) (column matrix k))
same_length matrix values k = length-word_of matrix values k ∙ sym (length-mul_scalar (values k) (column matrix k) ∙ length-column matrix k)

-- its bytes are sums along the rows
get_or-word_of : (matrix : List (List ℕ)) (values : ℕ → ℕ) (n i : ℕ) → i < length matrix → get_or (word_of matrix values n) i 0 ≡ combined (line matrix i) values n
unfolding word_of combined
get_or-word_of matrix values zero i inside = get_or-replicate {A = ℕ} (length matrix) i 0 0 inside
get_or-word_of matrix values (suc k) i inside =
    get_or-sum_of (word_of matrix values k) (mul_scalar (values k) (column matrix k)) i (same_length matrix values k)
    ∙ rw (get_or-word_of matrix values k i inside, get_or-mul_scalar (values k) (column matrix k) i, get_or-column matrix k i) refl

-- one column more adds its value's multiple
value-word_of : (matrix : List (List ℕ)) (values : ℕ → ℕ) (k x : ℕ)
    → value (word_of matrix values (suc k)) x ≡ plus (value (word_of matrix values k) x) (product (values k) (value (column matrix k) x))
unfolding word_of
value-word_of matrix values k x =
    value-sum_of (word_of matrix values k) (mul_scalar (values k) (column matrix k)) x (same_length matrix values k)
    ∙ ap (plus (value (word_of matrix values k) x)) (value-mul_scalar (values k) (column matrix k) x)

-- no columns have the value 0
value-word_of_none : (matrix : List (List ℕ)) (values : ℕ → ℕ) (x : ℕ) → value (word_of matrix values 0) x ≡ 0
unfolding word_of
value-word_of_none matrix values x = value-zeros (length matrix) x

-- a test of two numbers that are equal
test_same : (k : ℕ) → ◌≡◌ {A = ℕ} (if k == k then 1 else 0) 1
test_same k = grind (arith, nat_tests)

-- and of two that differ
test_apart : (k l : ℕ) → k ≢ l → ◌≡◌ {A = ℕ} (if k == l then 1 else 0) 0
test_apart k l apart = grind (arith, nat_tests)

module _ (r : ℕ) (matrix : List (List ℕ)) (values : ℕ → ℕ) (k : ℕ) (is : IsBasis r matrix) (within : k < r) where
  -- another column changes nothing at this power of alpha
  value-other : (n : ℕ) → n < r → k ≢ n → value (word_of matrix values (suc n)) (power alpha k) ≡ value (word_of matrix values n) (power alpha k)
  value-other n below apart =
      value-word_of matrix values n (power alpha k)
      ∙ ap (λ v. plus (value (word_of matrix values n) (power alpha k)) (product (values n) v)) (is.values k n within below ∙ test_apart k n apart)
      ∙ rw (product-zero (values n)) (plus-zero (value (word_of matrix values n) (power alpha k)))

  -- the columns before its own have the value 0 there
  value-before : (n : ℕ) → n ≤ k → value (word_of matrix values n) (power alpha k) ≡ 0
  value-before zero early = value-word_of_none matrix values (power alpha k)
  value-before (suc n) early =
      let apart : k ≢ n = λ same. absurd (omega arith) in
      value-other n (omega arith) apart ∙ value-before n (omega arith)

  -- and all up to one after it have its value
  value-after : (n : ℕ) → k < n → n ≤ r → values k < 256 → value (word_of matrix values n) (power alpha k) ≡ values k
  value-after zero late fits byte = absurd (omega arith)
  value-after (suc n) late fits byte =
      elim (cases_eq k n) [
        | inl same ↦
            value-word_of matrix values n (power alpha k)
            ∙ ap (λ s. plus s (product (values n) (value (column matrix n) (power alpha k)))) (value-before n (omega arith))
            ∙ zero-plus (product (values n) (value (column matrix n) (power alpha k)))
            ∙ ap (λ m. product (values m) (value (column matrix m) (power alpha k))) (sym same)
            ∙ ap (product (values k)) (is.values k k within within ∙ test_same k)
            ∙ product-one (values k) byte
        | inr apart ↦ value-other n (omega arith) apart ∙ value-after n (omega arith) (omega arith) byte
      ]

-- bytes that are sums along the rows are the sum of the columns
combined-word : (r : ℕ) (matrix : List (List ℕ)) (values : ℕ → ℕ) (parity : List (List ℕ)) (j : ℕ) → length parity ≡ length matrix
    → ((i : ℕ) → i < length parity → place parity i j ≡ combined (line matrix i) values r)
    → column parity j ≡ word_of matrix values r
combined-word r matrix values parity j size sums =
    same_number_lists (column parity j) (word_of matrix values r) (length-column parity j ∙ size ∙ sym (length-word_of matrix values r))
    (λ i below.
    let inside : i < length parity = omega (arith, length-column parity j) in
    get_or-column parity j i ∙ sums i inside ∙ sym (get_or-word_of matrix values r i (omega arith)))

-- they are bytes
pub combined_bytes : (r : ℕ) (matrix : List (List ℕ)) (values : ℕ → ℕ) (parity : List (List ℕ)) (j : ℕ)
    → ((i : ℕ) → i < length parity → place parity i j ≡ combined (line matrix i) values r)
    → All IsByte (column parity j)
combined_bytes r matrix values parity j sums =
    All-from_get_or IsByte (column parity j) 0
    (λ i below.
    subst (λ b. b < 256) (sym (get_or-column parity j i ∙ sums i (omega (arith, length-column parity j)))) (combined-byte (line matrix i) values r))

-- and have the values where the matrix is a basis
pub combined_values : (r : ℕ) (matrix : List (List ℕ)) (values : ℕ → ℕ) (parity : List (List ℕ)) (j k : ℕ) → IsBasis r matrix → length parity ≡ r → k < r → values k < 256
    → ((i : ℕ) → i < length parity → place parity i j ≡ combined (line matrix i) values r)
    → value (column parity j) (power alpha k) ≡ values k
combined_values r matrix values parity j k is size within byte sums =
    ap (λ word. value word (power alpha k)) (combined-word r matrix values parity j (size ∙ sym is.size) sums)
    ∙ value-after r matrix values k is within r within (omega arith) byte

-- ---- zeros after a word

-- a word that is as long already stays
pub filled-whole : (size : ℕ) (word : List ℕ) → length word ≡ size → filled size word ≡ word
unfolding filled
filled-whole size word whole =
    let none : size - length word ≡ 0 = omega arith in
    ap (λ n. word ++ replicate n 0) none ∙ append-nil word

-- a filled word is as long as asked for
pub length-filled : (size : ℕ) (word : List ℕ) → length word ≤ size → length (filled size word) ≡ size
unfolding filled
length-filled size word fits =
    omega (arith, length-append word (replicate {A = ℕ} (size - length word) 0), length-replicate {A = ℕ} (size - length word) 0)

-- zeros are 0 at each place, and so is what is read past them
pub get_or-zeros : (n k : ℕ) → get_or (replicate {A = ℕ} n 0) k 0 ≡ 0
get_or-zeros n k =
    elim (cases_lt k n) [
      | inl inside ↦ get_or-replicate {A = ℕ} n k 0 0 inside
      | inr past ↦ get_or_past (replicate {A = ℕ} n 0) k 0 (omega (arith, length-replicate {A = ℕ} n 0))
    ]

-- the first places of a lane
pub lane_short : (transposed : List (List ℕ)) (count n : ℕ) → length transposed ≡ 182 → count ≤ 182 → length (take count (column transposed n)) ≤ 182
lane_short transposed count n many few = omega (arith, length-take-le count (column transposed n) (omega (arith, length-column transposed n)))

-- with zeros put after and before them, they are 255 places
pub lane_filled : (transposed : List (List ℕ)) (count n : ℕ) → length transposed ≡ 182 → count ≤ 182 → 73 + length (filled 182 (take count (column transposed n))) ≡ 255
lane_filled transposed count n many few = omega (arith, length-filled 182 (take count (column transposed n)) (lane_short transposed count n many few))

-- a column of at most 208 rows
pub column_short : {A : Type 0} (word : A → List ℕ) (rows : List A) (j : ℕ) → length rows ≤ 208 → length (column (map word rows) j) ≤ 208
column_short word rows j few = omega (arith, length-column (map word rows) j, length-map rows word)

-- filled up with zeros, and with 47 before it, it has 255 places
pub column_filled : {A : Type 0} (word : A → List ℕ) (rows : List A) (j : ℕ) → length rows ≤ 208 → 47 + length (filled 208 (column (map word rows) j)) ≡ 255
column_filled word rows j few = omega (arith, length-filled 208 (column (map word rows) j) (column_short word rows j few))

-- a place of a filled word is that of the word: it is 0 past the word's end, as after any word
pub get_or-filled : (size : ℕ) (word : List ℕ) (k : ℕ) → get_or (filled size word) k 0 ≡ get_or word k 0
unfolding filled
get_or-filled size word k =
    let zeros : List ℕ = replicate (size - length word) 0 in
    elim (cases_lt k (length word)) [
      | inl inside ↦ get_or_append_left word zeros 0 k inside
      | inr past ↦
          get_or-append_right word zeros (length word) k 0 refl past ∙ get_or-zeros (size - length word) (k - length word) ∙ sym (get_or_past word k 0 past)
    ]

-- a place of a filled word that comes after other zeros
pub get_or-filled_back : (zeros size : ℕ) (word : List ℕ) (p : ℕ) → zeros ≤ p → get_or (after_zeros zeros (filled size word)) p 0 ≡ get_or word (p - zeros) 0
get_or-filled_back zeros size word p farther = get_or-after_zeros_back zeros (filled size word) p farther ∙ get_or-filled size word (p - zeros)

-- what is filled up with bytes had bytes
pub filled-bytes : (size : ℕ) (word : List ℕ) → length word ≤ size → All IsByte (filled size word) → All IsByte word
filled-bytes size word fits bytes =
    All-from_get_or IsByte word 0
    (λ i inside. subst (λ b. b < 256) (get_or-filled size word i) (All-get_or IsByte (filled size word) i 0 (omega (arith, length-filled size word fits)) bytes))

-- zeros after a word raise its powers
value-filled : (size : ℕ) (word : List ℕ) (x : ℕ) → value (filled size word) x ≡ product (value word x) (power x (size - length word))
unfolding filled
value-filled size word x =
    let zeros : List ℕ = replicate (size - length word) 0 in
    value-append word zeros x
    ∙ rw (value-zeros (size - length word) x, length-replicate {A = ℕ} (size - length word) 0)
    (plus-zero (product (value word x) (power x (size - length word))))

-- parity with the values of the message that zeros follow makes the encoded word
pub encoded_by_values : (n r : ℕ) (message parity : List ℕ) → length message ≡ n - r → r ≤ n → length parity ≡ r → All IsByte message → All IsByte parity
    → ((k : ℕ) → k < r → value parity (power alpha k) ≡ value (filled n message) (power alpha k))
    → IsEncoded n r message (message ++ parity)
encoded_by_values n r message parity size fits long bytes parity_bytes same =
    IsEncoded-from_codeword n r message parity size fits (record {
      size = length-append message parity ∙ ap (λ m. length message + m) long;
      bytes = All-append IsByte message parity bytes parity_bytes;
      vanishes = λ k below.
          let x = power alpha k in
          let farther : n - length message ≡ length parity = omega arith in
          let first = product (value message x) (power x (length parity)) in
          value-append message parity x
          ∙ ap (plus first) (same k below ∙ value-filled n message x ∙ ap (λ m. product (value message x) (power x m)) farther)
          ∙ plus-self first;
    })

-- a column whose parity's bytes stay is encoded still
pub encoded_kept : (rows before after : List (List ℕ)) (j : ℕ) → length before ≡ length after → ((k : ℕ) → place after k j ≡ place before k j)
    → IsEncoded 208 16 (column rows j) (column rows j ++ column before j)
    → IsEncoded 208 16 (column rows j) (column rows j ++ column after j)
encoded_kept rows before after j size same encoded =
    subst (λ parity. IsEncoded 208 16 (column rows j) (column rows j ++ parity)) (same_columns before after j j size (λ k below. sym (same k))) encoded
