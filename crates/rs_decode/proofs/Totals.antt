-- Sums of a function's first values: functions that agree, zeros left out, sums and multiples, and sums of sums.
use Rattle.std.proofs.Common.{◌≡◌, ◌≢◌, ℕ, zero, suc, ◌+◌, ◌<◌, ◌≤◌, refl, sym, ap, ◌∙◌, arith, add-one, inl, inr}
use Rattle.std.proofs.lemmas.Bool.{cases_eq}
use Rattle.coding.specs.Field.{plus, product}
use Rattle.gf_field.proofs.FieldLaws.{plus-assoc, plus-byte, plus-pairs, plus-zero, zero-plus, product-plus, product-zero}
use Rattle.rs_decode.specs.Register.{total}

-- the sum of no values
pub total-none : (f : ℕ → ℕ) → total 0 f ≡ 0
unfolding total
total-none f = refl

-- one value more
pub total-next : (n : ℕ) (f : ℕ → ℕ) → total (suc n) f ≡ plus (total n f) (f n)
unfolding total
total-next n f = refl

-- the same, as a loop has it
pub total-more : (n : ℕ) (f : ℕ → ℕ) → total (n + 1) f ≡ plus (total n f) (f n)
total-more n f = rw add-one (total-next n f)

-- functions that agree so far have the same sum
pub total-same : (n : ℕ) (f g : ℕ → ℕ) → ((i : ℕ) → i < n → f i ≡ g i) → total n f ≡ total n g
total-same zero f g same = total-none f ∙ sym (total-none g)
total-same (suc n) f g same =
    total-next n f ∙ ap (λ x. plus x (f n)) (total-same n f g (λ i below. same i (omega arith)))
    ∙ ap (plus (total n g)) (same n (omega arith)) ∙ sym (total-next n g)

-- zeros have the sum 0
pub total-zeros : (n : ℕ) (f : ℕ → ℕ) → ((i : ℕ) → i < n → f i ≡ 0) → total n f ≡ 0
total-zeros zero f zeros = total-none f
total-zeros (suc n) f zeros =
    total-next n f ∙ rw (total-zeros n f (λ i below. zeros i (omega arith)), zeros n (omega arith)) (plus-zero 0)

-- zeros after the first values
pub total-longer : (n more : ℕ) (f : ℕ → ℕ) → ((i : ℕ) → n ≤ i → f i ≡ 0) → total (n + more) f ≡ total n f
total-longer n zero f zeros = let same : n + 0 ≡ n = omega arith in ap (λ k. total k f) same
total-longer n (suc more) f zeros =
    let next : n + suc more ≡ suc (n + more) = omega arith in
    ap (λ k. total k f) next ∙ total-next (n + more) f
    ∙ rw (total-longer n more f zeros, zeros (n + more) (omega arith)) (plus-zero (total n f))

-- zeros before the last values
pub total-later : (n more : ℕ) (f : ℕ → ℕ) → ((i : ℕ) → i < n → f i ≡ 0) → total (n + more) f ≡ total more (λ i. f (n + i))
total-later n zero f zeros =
    let same : n + 0 ≡ n = omega arith in
    ap (λ k. total k f) same ∙ total-zeros n f zeros ∙ sym (total-none (λ i. f (n + i)))
total-later n (suc more) f zeros =
    let next : n + suc more ≡ suc (n + more) = omega arith in
    ap (λ k. total k f) next ∙ total-next (n + more) f
    ∙ ap (λ x. plus x (f (n + more))) (total-later n more f zeros) ∙ sym (total-next more (λ i. f (n + i)))

-- the first value by itself
pub total-head : (n : ℕ) (f : ℕ → ℕ) → total (suc n) f ≡ plus (f 0) (total n (λ i. f (suc i)))
total-head zero f =
    total-next 0 f ∙ ap (λ x. plus x (f 0)) (total-none f) ∙ zero-plus (f 0) ∙ sym (plus-zero (f 0))
    ∙ ap (plus (f 0)) (sym (total-none (λ i. f (suc i))))
total-head (suc n) f =
    total-next (suc n) f ∙ ap (λ x. plus x (f (suc n))) (total-head n f)
    ∙ plus-assoc (f 0) (total n (λ i. f (suc i))) (f (suc n))
    ∙ ap (plus (f 0)) (sym (total-next n (λ i. f (suc i))))

-- zeros but for the first value
pub total-first : (n : ℕ) (f : ℕ → ℕ) → ((i : ℕ) → 0 < i → i ≤ n → f i ≡ 0) → total (n + 1) f ≡ f 0
total-first zero f zeros = total-next 0 f ∙ ap (λ x. plus x (f 0)) (total-none f) ∙ zero-plus (f 0)
total-first (suc n) f zeros =
    total-more (suc n) f
    ∙ rw (zeros (suc n) (omega arith) (omega arith)) (plus-zero (total (suc n) f))
    ∙ ap (λ k. total k f) (sym (add-one n)) ∙ total-first n f (λ i above below. zeros i above (omega arith))

-- zeros but for one value
pub total-single : (n j : ℕ) (f : ℕ → ℕ) → j < n → ((i : ℕ) → i < n → i ≢ j → f i ≡ 0) → total n f ≡ f j
total-single zero j f inside zeros = absurd (omega arith)
total-single (suc n) j f inside zeros =
    elim (cases_eq j n) [
      | inl same ↦
          total-next n f
          ∙ ap (λ x. plus x (f n)) (total-zeros n f (λ i below. let other : i ≢ j = omega arith in zeros i (omega arith) other))
          ∙ zero-plus (f n) ∙ ap f (sym same)
      | inr differ ↦
          let other : n ≢ j = λ same. differ (sym same) in
          total-next n f
          ∙ rw (total-single n j f (omega arith) (λ i below. zeros i (omega arith)), zeros n (omega arith) other) (plus-zero (f j))
    ]

-- the sum of sums
pub total-plus : (n : ℕ) (f g : ℕ → ℕ) → total n (λ i. plus (f i) (g i)) ≡ plus (total n f) (total n g)
unfolding total
total-plus zero f g = sym (plus-zero 0)
total-plus (suc n) f g = ap (λ x. plus x (plus (f n) (g n))) (total-plus n f g) ∙ plus-pairs (total n f) (total n g) (f n) (g n)

-- the sum of multiples
pub total-product : (n factor : ℕ) (f : ℕ → ℕ) → total n (λ i. product factor (f i)) ≡ product factor (total n f)
unfolding total
total-product zero factor f = sym (product-zero factor)
total-product (suc n) factor f =
    ap (λ x. plus x (product factor (f n))) (total-product n factor f) ∙ sym (product-plus factor (total n f) (f n))

-- rows and columns of a table have the same sum
pub total-exchange : (n m : ℕ) (f : ℕ → ℕ → ℕ) → total n (λ i. total m (f i)) ≡ total m (λ j. total n (λ i. f i j))
total-exchange zero m f = total-none (λ i. total m (f i)) ∙ sym (total-zeros m (λ j. total 0 (λ i. f i j)) (λ j below. total-none (λ i. f i j)))
total-exchange (suc n) m f =
    total-next n (λ i. total m (f i)) ∙ ap (λ x. plus x (total m (f n))) (total-exchange n m f)
    ∙ sym (total-plus m (λ j. total n (λ i. f i j)) (f n))
    ∙ total-same m (λ j. plus (total n (λ i. f i j)) (f n j)) (λ j. total (suc n) (λ i. f i j)) (λ j below. sym (total-next n (λ i. f i j)))

-- a sum of bytes is a byte
pub total-byte : (n : ℕ) (f : ℕ → ℕ) → ((i : ℕ) → f i < 256) → total n f < 256
unfolding total
total-byte zero f bytes = omega arith
total-byte (suc n) f bytes = plus-byte (total n f) (f n) (total-byte n f bytes) (bytes n)
