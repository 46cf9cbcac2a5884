-- Quotients of chunks, byte by byte: what each step of the loops adds, and that all bytes are the quotient times the
-- multiple, and the rest.
use Rattle.std.proofs.Common.{◌≡◌, ℕ, ◌+◌, ◌-◌, ◌*◌, ◌^◌, ◌<◌, ◌≤◌, List, [], ◌∷◌, ◌++◌, ◌⊎◌, inl, inr, length, get_or, take, drop, zero, suc, refl, sym, ◌∙◌, ap, arith}
use Rattle.std.specs.Prelude.{bit_xor, replicate, slice_set}
use Rattle.std.specs.Int.Bits.{xor_zero_r}
use Rattle.std.specs.Simd.Lanes.{put_chunk, zip2}
use Rattle.std.proofs.Math.ListN.{get_or-eq_default}
use Rattle.std.proofs.Math.Nat.{mul-le-mul_left}
use Rattle.std.proofs.lemmas.Bool.{cases_lt}
use Rattle.std.proofs.lemmas.Grind.{get_or-set_at, same_number_lists}
use Rattle.std.proofs.lemmas.List.{length-append, length-replicate, get_or-replicate, get_or_append_left, get_or-append_right, get_or-set_other}
use Rattle.std.proofs.lemmas.Nat.Bits.{bit_at_xor, same_from_bits}
use Rattle.std.proofs.lemmas.Simd.{get_or-chunk, get_or-put_chunk_below, get_or-put_chunk_at, get_or-zip2}
use Rattle.coding.specs.BitDivision.{plus_prefix}
use Rattle.gf_field.proofs.BitDivision.{length-plus_prefix}
use Rattle.dvd_frame.specs.Inner.Folding.{byte_after, AreQuotients, AreRests}
use Rattle.dvd_frame.specs.Inner.Registers.{divided_from}
use Rattle.dvd_frame.proofs.ChunkFolds.{rest_divided}

-- the sum of four
abbrev pub sum_of_four : ℕ → ℕ → ℕ → ℕ → ℕ
sum_of_four a b c d = bit_xor (bit_xor (bit_xor a b) c) d

-- ---- bytes of lists that begin later

-- there are none before it begins
pub byte_after-before : (p : ℕ) (bytes : List ℕ) (k : ℕ) → k < p → byte_after p bytes k ≡ 0
byte_after-before p bytes k below =
    get_or_append_left (replicate p 0) bytes 0 k (omega (arith, length-replicate {A = ℕ} p 0)) ∙ get_or-replicate p k 0 0 below

-- from there on they are its own
pub byte_after-from : (p : ℕ) (bytes : List ℕ) (k i : ℕ) → k ≡ p + i → byte_after p bytes k ≡ get_or bytes i 0
byte_after-from p bytes k i is =
    let here : k - p ≡ i = omega arith in
    get_or-append_right (replicate p 0) bytes p k 0 (length-replicate {A = ℕ} p 0) (omega arith) ∙ ap (λ (n : ℕ). get_or bytes n 0) here

-- lists that begin alike have the same bytes up to there
byte_after-same : (p at : ℕ) (old new : List ℕ) (k : ℕ) → ((i : ℕ) → i < at → get_or new i 0 ≡ get_or old i 0) → k < p + at → byte_after p old k ≡ byte_after p new k
byte_after-same p at old new k same below = by (cases_lt k p) where
  by : (k < p) ⊎ (p ≤ k) → byte_after p old k ≡ byte_after p new k
  by (inl before) = byte_after-before p old k before ∙ sym (byte_after-before p new k before)
  by (inr past) =
      let is : k ≡ p + (k - p) = omega arith in
      byte_after-from p old k (k - p) is ∙ sym (same (k - p) (omega arith)) ∙ sym (byte_after-from p new k (k - p) is)

-- ---- one chunk of a quotient more

-- what the terms of a byte are
abbrev terms : ℕ → List ℕ → List ℕ → ℕ → ℕ
terms w bytes quotient k = sum_of_four (get_or bytes k 0) (byte_after w quotient k) (byte_after (28 * w) quotient k) (byte_after (32 * w) quotient k)

-- a chunk that is written after the others, where it is the sum of its terms
quotients-grow : (w at : ℕ) (bytes old chunk new : List ℕ) → length chunk ≡ w → at + w ≤ length old → new ≡ put_chunk at old chunk
    → AreQuotients w bytes old at → ((j : ℕ) → j < w → get_or chunk j 0 ≡ terms w bytes old (at + j)) → AreQuotients w bytes new (at + w)
quotients-grow w at bytes old chunk new size within new_is done sums k below = by (cases_lt k at) where
  same : (i : ℕ) → i < at → get_or new i 0 ≡ get_or old i 0
  same i before = ap (λ (l : List ℕ). get_or l i 0) new_is ∙ get_or-put_chunk_below at old chunk i 0 before

  moved : terms w bytes old k ≡ terms w bytes new k
  moved =
      ap (λ (x : ℕ). sum_of_four (get_or bytes k 0) x (byte_after (28 * w) old k) (byte_after (32 * w) old k)) (byte_after-same w at old new k same (omega arith))
      ∙ ap (λ (x : ℕ). sum_of_four (get_or bytes k 0) (byte_after w new k) x (byte_after (32 * w) old k)) (byte_after-same (28 * w) at old new k same (omega arith))
      ∙ ap (sum_of_four (get_or bytes k 0) (byte_after w new k) (byte_after (28 * w) new k)) (byte_after-same (32 * w) at old new k same (omega arith))

  by : (k < at) ⊎ (at ≤ k) → get_or new k 0 ≡ terms w bytes new k
  by (inl before) = same k before ∙ done k before ∙ moved
  by (inr past) =
      let is : k ≡ at + (k - at) = omega arith in
      ap (λ (i : ℕ). get_or new i 0) is ∙ ap (λ (l : List ℕ). get_or l (at + (k - at)) 0) new_is
      ∙ get_or-put_chunk_at at old chunk (k - at) 0 (omega arith) (omega arith) ∙ sums (k - at) (omega arith)
      ∙ ap (terms w bytes old) (sym is) ∙ moved

-- Such a chunk, of which the one before is carried: `far` and `farther` are the bytes 28 and 32 chunks before it.
pub next_quotient : (w at : ℕ) (first others old carried chunk new : List ℕ) (far farther : ℕ → ℕ) → length first ≡ w → length chunk ≡ w → at + w + w ≤ length old
    → new ≡ put_chunk (at + w) old chunk → AreQuotients w (first ++ others) old (at + w) → ((j : ℕ) → j < w → get_or carried j 0 ≡ get_or old (at + j) 0)
    → ((j : ℕ) → j < w → get_or chunk j 0 ≡ sum_of_four (get_or others (at + j) 0) (get_or carried j 0) (far j) (farther j))
    → ((j : ℕ) → j < w → byte_after (28 * w) old (at + w + j) ≡ far j) → ((j : ℕ) → j < w → byte_after (32 * w) old (at + w + j) ≡ farther j)
    → AreQuotients w (first ++ others) new (at + w + w)
next_quotient w at first others old carried chunk new far farther first_size size within new_is done carried_is chunk_is far_is farther_is =
    quotients-grow w (at + w) (first ++ others) old chunk new size within new_is done
    (λ j below.
    let here : at + w + j - w ≡ at + j = omega arith in
    let other : get_or (first ++ others) (at + w + j) 0 ≡ get_or others (at + j) 0 =
    get_or-append_right first others w (at + w + j) 0 first_size (omega arith) ∙ ap (λ (i : ℕ). get_or others i 0) here in
    let before : byte_after w old (at + w + j) ≡ get_or carried j 0 = byte_after-from w old (at + w + j) (at + j) (omega arith) ∙ sym (carried_is j below) in
    chunk_is j below ∙ sym (rw (other, before, far_is j below, farther_is j below) refl))

-- a chunk of a list that is read as a vector
pub byte_read : (w at : ℕ) (bytes loaded : List ℕ) (j : ℕ) → loaded ≡ take w (drop at bytes) → j < w → get_or loaded j 0 ≡ get_or bytes (at + j) 0
byte_read w at bytes loaded j is below = ap (λ (l : List ℕ). get_or l j 0) is ∙ get_or-chunk at w bytes j 0 below

-- a byte of a sum of vectors
pub byte_summed : (w : ℕ) (a b : List ℕ) (j x y : ℕ) → length a ≡ w → length b ≡ w → j < w → get_or a j 0 ≡ x → get_or b j 0 ≡ y
    → get_or (zip2 bit_xor a b) j 0 ≡ bit_xor x y
byte_summed w a b j x y size_a size_b below x_is y_is =
    get_or-zip2 bit_xor a b j 0 0 0 (omega arith) (omega arith) ∙ ap (λ (n : ℕ). bit_xor n (get_or b j 0)) x_is ∙ ap (bit_xor x) y_is

-- so many chunks and one more end within any number of chunks that is greater
pub place_within : (w at i n : ℕ) → at ≡ w * i → i < n → at + w ≤ n * w
place_within w at i n is below = (let within : w * (i + 1) ≤ w * n = mul-le-mul_left w (omega arith) in omega (arith, within))

-- the chunk that was written is the one that is carried then
pub chunk_carried : (w at : ℕ) (old chunk new : List ℕ) → length chunk ≡ w → at + w ≤ length old → new ≡ put_chunk at old chunk
    → (j : ℕ) → j < w → get_or chunk j 0 ≡ get_or new (at + j) 0
chunk_carried w at old chunk new size within new_is j below =
    sym (ap (λ (l : List ℕ). get_or l (at + j) 0) new_is ∙ get_or-put_chunk_at at old chunk j 0 (omega arith) (omega arith))

-- the first chunk is its own quotient
pub first_quotient : (w : ℕ) (first others old new : List ℕ) → length first ≡ w → w ≤ length old → new ≡ put_chunk 0 old first → AreQuotients w (first ++ others) new (0 + w)
first_quotient w first others old new size within new_is k below =
    let here : 0 + k ≡ k = omega arith in
    ap (λ (i : ℕ). get_or new i 0) (sym here) ∙ ap (λ (l : List ℕ). get_or l (0 + k) 0) new_is ∙ get_or-put_chunk_at 0 old first k 0 (omega arith) (omega arith)
    ∙ sym (get_or_append_left first others 0 k (omega arith))
    ∙ sym (rw (byte_after-before w new k (omega arith), byte_after-before (28 * w) new k (omega arith), byte_after-before (32 * w) new k (omega arith), xor_zero_r (get_or (first ++ others) k 0), xor_zero_r (get_or (first ++ others) k 0), xor_zero_r (get_or (first ++ others) k 0)) refl)

-- ---- one byte of a rest more

-- what the terms of a byte of the rest are
abbrev rest_terms : ℕ → List ℕ → List ℕ → ℕ → ℕ
rest_terms w others quotient k =
    sum_of_four (get_or others (32 * w + k) 0) (get_or quotient (32 * w + k) 0) (get_or quotient (5 * w + k) 0) (get_or quotient (w + k) 0)

-- a byte that is set after the others, where it is the sum of its terms
rests-grow : (w : ℕ) (others quotient rest : List ℕ) (k byte : ℕ) → k < length rest → byte ≡ rest_terms w others quotient k → AreRests w others quotient rest k
    → AreRests w others quotient (slice_set rest k byte) (k + 1)
rests-grow w others quotient rest k byte within byte_is done i below = by (cases_lt i k) where
  by : (i < k) ⊎ (k ≤ i) → get_or (slice_set rest k byte) i 0 ≡ rest_terms w others quotient i
  by (inl before) = get_or-set_other rest k i byte 0 (λ (same : i ≡ k). absurd (omega (arith, same, before))) ∙ done i before
  by (inr past) = (let is : i ≡ k = omega arith in get_or-set_at rest k i byte 0 is within ∙ byte_is ∙ sym (ap (rest_terms w others quotient) is))

-- past the first chunk of the rest the quotient has no chunk just before it
pub rests-grow_past : (w : ℕ) (others quotient rest : List ℕ) (k byte : ℕ) → length quotient ≡ 33 * w → w ≤ k → k < length rest
    → byte ≡ bit_xor (bit_xor (get_or others (32 * w + k) 0) (get_or quotient (5 * w + k) 0)) (get_or quotient (w + k) 0) → AreRests w others quotient rest k
    → AreRests w others quotient (slice_set rest k byte) (k + 1)
rests-grow_past w others quotient rest k byte size past within byte_is done =
    rests-grow w others quotient rest k byte within
    (byte_is ∙ sym (rw (get_or-eq_default quotient 0 {n = 32 * w + k} (omega (arith, size)), xor_zero_r (get_or others (32 * w + k) 0)) refl)) done

-- and past its 28th chunk none 28 chunks before it
pub rests-grow_end : (w : ℕ) (others quotient rest : List ℕ) (k byte : ℕ) → length quotient ≡ 33 * w → 28 * w ≤ k → k < length rest
    → byte ≡ bit_xor (get_or others (32 * w + k) 0) (get_or quotient (w + k) 0) → AreRests w others quotient rest k
    → AreRests w others quotient (slice_set rest k byte) (k + 1)
rests-grow_end w others quotient rest k byte size past within byte_is done =
    rests-grow_past w others quotient rest k byte size (omega arith) within
    (byte_is ∙ sym (rw (get_or-eq_default quotient 0 {n = 5 * w + k} (omega (arith, size)), xor_zero_r (get_or others (32 * w + k) 0)) refl)) done

-- ---- the quotient times the multiple, and the rest

-- a byte of a sum
get_or-plus_prefix : (xs ys : List ℕ) (k : ℕ) → k < length xs → get_or (plus_prefix xs ys) k 0 ≡ bit_xor (get_or xs k 0) (get_or ys k 0)
unfolding plus_prefix
get_or-plus_prefix [] ys k within = absurd (omega arith)
get_or-plus_prefix (x ∷ xs) [] k within = sym (xor_zero_r (get_or (x ∷ xs) k 0))
get_or-plus_prefix (x ∷ xs) (y ∷ ys) zero within = refl
get_or-plus_prefix (x ∷ xs) (y ∷ ys) (suc k) within = get_or-plus_prefix xs ys k (omega arith)

-- what is added twice falls out
xor_back : (x a b c : ℕ) → x ≡ sum_of_four (sum_of_four x a b c) a b c
xor_back x a b c = same_from_bits _ _ (λ i. simp bit_at_xor (omega arith))

-- so the rest leaves what all leave
pub fold_divides : (k w : ℕ) (first others quotient rest : List ℕ) → w ≡ 2 ^ k → length first ≡ w → length others ≡ 64 * w → length quotient ≡ 33 * w → length rest ≡ 32 * w
    → AreQuotients w (first ++ others) quotient (33 * w) → AreRests w others quotient rest (32 * w)
    → divided_from 0 rest ≡ divided_from 0 (first ++ others)
fold_divides k w first others quotient rest power first_size others_size quotient_size rest_size quotients rests =
    rest_divided k w bytes quotient rest power quotient_size rest_size
    (same_number_lists bytes three (bytes_size ∙ sym long_three)
    (λ i within. sym (get_or-plus_prefix two (replicate (32 * w) 0 ++ quotient) i (omega (arith, long_two, bytes_size))
    ∙ ap (λ (x : ℕ). bit_xor x (byte_after (32 * w) quotient i))
    (get_or-plus_prefix one (replicate (28 * w) 0 ++ quotient) i (omega (arith, long_one, bytes_size))
    ∙ ap (λ (x : ℕ). bit_xor x (byte_after (28 * w) quotient i)) (get_or-plus_prefix none (replicate w 0 ++ quotient) i (omega (arith, long_none, bytes_size)))) ∙ sym (each i (omega (arith, bytes_size))))))
  where
    bytes : List ℕ
    bytes = first ++ others

    none : List ℕ
    none = quotient ++ rest

    one : List ℕ
    one = plus_prefix none (replicate w 0 ++ quotient)

    two : List ℕ
    two = plus_prefix one (replicate (28 * w) 0 ++ quotient)

    three : List ℕ
    three = plus_prefix two (replicate (32 * w) 0 ++ quotient)

    bytes_size : length bytes ≡ 65 * w
    bytes_size = omega (arith, length-append first others)

    long_none : length none ≡ 65 * w
    long_none = omega (arith, length-append quotient rest)

    long_one : length one ≡ 65 * w
    long_one = length-plus_prefix none (replicate w 0 ++ quotient) ∙ long_none

    long_two : length two ≡ 65 * w
    long_two = length-plus_prefix one (replicate (28 * w) 0 ++ quotient) ∙ long_one

    long_three : length three ≡ 65 * w
    long_three = length-plus_prefix two (replicate (32 * w) 0 ++ quotient) ∙ long_two

    each : (i : ℕ) → i < 65 * w → get_or bytes i 0 ≡ terms w none quotient i
    each i below = by (cases_lt i (33 * w)) where
      by : (i < 33 * w) ⊎ (33 * w ≤ i) → get_or bytes i 0 ≡ terms w none quotient i
      by (inl before) =
          xor_back (get_or bytes i 0) (byte_after w quotient i) (byte_after (28 * w) quotient i) (byte_after (32 * w) quotient i)
          ∙ ap (λ (x : ℕ). sum_of_four x (byte_after w quotient i) (byte_after (28 * w) quotient i) (byte_after (32 * w) quotient i))
          (sym (quotients i before) ∙ sym (get_or_append_left quotient rest 0 i (omega arith)))
      by (inr past) =
          let j : ℕ = i - 33 * w in
          let here : i - w ≡ 32 * w + j = omega arith in
          let other : get_or bytes i 0 ≡ get_or others (32 * w + j) 0 = get_or-append_right first others w i 0 first_size (omega arith) ∙ ap (λ (n : ℕ). get_or others n 0) here in
          let one_before : byte_after w quotient i ≡ get_or quotient (32 * w + j) 0 = byte_after-from w quotient i (32 * w + j) (omega arith) in
          let far : byte_after (28 * w) quotient i ≡ get_or quotient (5 * w + j) 0 = byte_after-from (28 * w) quotient i (5 * w + j) (omega arith) in
          let farther : byte_after (32 * w) quotient i ≡ get_or quotient (w + j) 0 = byte_after-from (32 * w) quotient i (w + j) (omega arith) in
          let left : get_or none i 0 ≡ get_or rest j 0 = get_or-append_right quotient rest (33 * w) i 0 quotient_size past in
          other
          ∙ xor_back (get_or others (32 * w + j) 0) (get_or quotient (32 * w + j) 0) (get_or quotient (5 * w + j) 0) (get_or quotient (w + j) 0)
          ∙ ap (λ (x : ℕ). sum_of_four x (get_or quotient (32 * w + j) 0) (get_or quotient (5 * w + j) 0) (get_or quotient (w + j) 0)) (sym (rests j (omega arith)))
          ∙ sym (rw (one_before, far, farther, left) refl)
