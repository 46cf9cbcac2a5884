-- The bytes of mark bits that are made of marks, and read back.
use Rattle.std.proofs.Common.{◌≡◌, ◌∙◌, ℕ, zero, suc, ◌+◌, ◌-◌, ◌*◌, ◌/◌, ◌%◌, ◌^◌, ◌<◌, ◌≤◌, ◌==◌, Bool, true, false, not, if◌then◌else◌, cond, eqb, List, [], ◌∷◌, ◌++◌, length, map, take, drop, get_or, set, replicate, w8, inl, inr, refl, sym, ap, arith, length-append}
use Rattle.std.specs.Int.{bit_at}
use Rattle.std.specs.Simd.Lanes.{mask_l, pick_l, top, zip2}
use Rattle.std.proofs.lemmas.Bool.{cases_lt}
use Rattle.std.proofs.lemmas.List.{drop-append-le, drop-map, get_or-append_right, get_or-drop, get_or-map, get_or-set_other, get_or-set_same, get_or-take, get_or_append_left, length-drop, length-map, length-take-le, take-append-le, take-map, take_all}
use Rattle.std.proofs.lemmas.List.FromFn.{get_or-map-range_with_len}
use Rattle.std.proofs.lemmas.List.Sums.{fold_more}
use Rattle.std.proofs.lemmas.Nat.Bits.{bit_at-suc, bit_at_lowest}
use Rattle.std.proofs.lemmas.Simd.{bitmask_splat, pick_l-range_with_len, pick_l_left}
use Rattle.dvd_capture.specs.MarkBits.{is_other, mark_at, mark_byte, mark_bytes, marks_of, number_of_marks, with_mark_bit}
use Rattle.dvd_capture.proofs.MarkLists.{all_marks}

-- the binary digit of a mark
digit : Bool → ℕ
digit mark = if mark then 1 else 0

-- it is 1 where the mark is set
digit_is : (mark : Bool) → (digit mark == 1) ≡ mark
unfolding digit
digit_is true = refl
digit_is false = refl

-- it is 0 or 1
digit-lt : (mark : Bool) → digit mark < 2
unfolding digit
digit-lt true = omega arith
digit-lt false = omega arith

-- the mask of eight lanes from the last to the first has the first for its highest bit
mask-reversed : (value : ℕ) (bytes : List ℕ) → length bytes ≡ 8
    → mask_l (map (λ x. not (eqb x value)) (pick_l 0 bytes (7 ∷ 6 ∷ 5 ∷ 4 ∷ 3 ∷ 2 ∷ 1 ∷ 0 ∷ []))) ≡ number_of_marks (map (is_other value) bytes)
unfolding number_of_marks
mask-reversed value (a ∷ b ∷ c ∷ d ∷ e ∷ f ∷ g ∷ h ∷ []) size = omega arith
mask-reversed value (a ∷ b ∷ c ∷ d ∷ e ∷ f ∷ g ∷ h ∷ i ∷ bytes) size = absurd (omega (arith, size))
mask-reversed value [] size = absurd (omega (arith, size))
mask-reversed value (a ∷ []) size = absurd (omega (arith, size))
mask-reversed value (a ∷ b ∷ []) size = absurd (omega (arith, size))
mask-reversed value (a ∷ b ∷ c ∷ []) size = absurd (omega (arith, size))
mask-reversed value (a ∷ b ∷ c ∷ d ∷ []) size = absurd (omega (arith, size))
mask-reversed value (a ∷ b ∷ c ∷ d ∷ e ∷ []) size = absurd (omega (arith, size))
mask-reversed value (a ∷ b ∷ c ∷ d ∷ e ∷ f ∷ []) size = absurd (omega (arith, size))
mask-reversed value (a ∷ b ∷ c ∷ d ∷ e ∷ f ∷ g ∷ []) size = absurd (omega (arith, size))

-- the same of lanes that are reversed before they are compared
pub reversed-mask : (value : ℕ) (bytes : List ℕ) → length bytes ≡ 8
    → mask_l (map (top 7) (zip2 (λ x y. cond (not (eqb x y)) 255 0) (pick_l 0 (bytes ++ bytes) (7 ∷ 6 ∷ 5 ∷ 4 ∷ 3 ∷ 2 ∷ 1 ∷ 0 ∷ [])) (replicate 8 value))) % 2 ^ 64 ≡ number_of_marks (map (is_other value) bytes)
reversed-mask value bytes size =
    bitmask_splat w8 (λ x y. not (eqb x y)) (pick_l 0 (bytes ++ bytes) (7 ∷ 6 ∷ 5 ∷ 4 ∷ 3 ∷ 2 ∷ 1 ∷ 0 ∷ [])) 8 value refl (omega arith)
    ∙ ap (λ l. mask_l (map (λ x. not (eqb x value)) l)) (pick_l_left 0 bytes bytes 8 (7 ∷ 6 ∷ 5 ∷ 4 ∷ 3 ∷ 2 ∷ 1 ∷ 0 ∷ []) size tt)
    ∙ mask-reversed value bytes size

-- the first of a list are the first of more of them
take-within : (n m : ℕ) (xs : List ℕ) → n ≤ m → take n (take m xs) ≡ take n xs
take-within zero m xs le = refl
take-within (suc n) zero xs le = absurd (omega (arith, le))
take-within (suc n) (suc m) [] le = refl
take-within (suc n) (suc m) (x ∷ xs) le = ap (λ l. x ∷ l) (take-within n m xs (omega (arith, le)))

-- one byte more
pub set-more : (is : ℕ → ℕ) (bits : List ℕ) (k x : ℕ) → k < length bits → ((q : ℕ) → q < k → get_or bits q 0 ≡ is q) → x ≡ is k
    → (q : ℕ) → q < k + 1 → get_or (set bits k x) q 0 ≡ is q
set-more is bits k x inside before here q below = elim (cases_lt q k) [
  | inl low ↦ get_or-set_other bits k q x 0 (λ e. omega (arith, low, e)) ∙ before q low
  | inr high ↦ (let last : q ≡ k = omega (arith, high, below) in ap (λ m. get_or (set bits k x) m 0) last ∙ get_or-set_same bits k x 0 inside ∙ here ∙ ap is (sym last))
]

-- the byte of eight places of a row
pub byte-inside : (value : ℕ) (bytes : List ℕ) (k : ℕ) → length bytes ≡ 182 → k < 22
    → number_of_marks (map (is_other value) (take 8 (take (182 - 8 * k) (drop (8 * k) bytes)))) ≡ mark_byte (map (is_other value) bytes) k
byte-inside value bytes k size inside =
    let marks : List Bool = map (is_other value) bytes in
    let long : length marks ≡ 182 = length-map bytes (is_other value) ∙ size in
    ap (λ l. number_of_marks (map (is_other value) l)) (take-within 8 (182 - 8 * k) (drop (8 * k) bytes) (omega (arith, inside)))
    ∙ ap number_of_marks (sym (take-map (is_other value) 8 (drop (8 * k) bytes)) ∙ ap (take 8) (sym (drop-map (is_other value) (8 * k) bytes))
    ∙ sym (ap (take 8) (drop-append-le (8 * k) marks (false ∷ false ∷ []) (omega (arith, long, inside)))
    ∙ take-append-le 8 (drop (8 * k) marks) (false ∷ false ∷ []) (omega (arith, length-drop (8 * k) marks, long, inside))))

-- six marks of eight, moved to the front
moved : (a b c d e f g h : Bool)
    → number_of_marks (a ∷ b ∷ c ∷ d ∷ e ∷ f ∷ g ∷ h ∷ []) * 4 % 256 ≡ number_of_marks (c ∷ d ∷ e ∷ f ∷ g ∷ h ∷ false ∷ false ∷ [])
unfolding number_of_marks digit
moved a b c d e f g h = omega (arith, digit-lt a, digit-lt b, digit-lt c, digit-lt d, digit-lt e, digit-lt f, digit-lt g, digit-lt h)

-- the byte of the last six places
pub byte-last : (value : ℕ) (bytes : List ℕ) → length bytes ≡ 182
    → number_of_marks (map (is_other value) (take 8 (take 8 (drop 174 bytes)))) * 4 % 256 ≡ mark_byte (map (is_other value) bytes) 22
byte-last value bytes size =
    ap (λ l. number_of_marks (map (is_other value) l) * 4 % 256) (take-within 8 8 (drop 174 bytes) (omega arith) ∙ sym (pick_l-range_with_len 0 bytes 174 8 (omega (arith, size))))
    ∙ moved (u 174) (u 175) (u 176) (u 177) (u 178) (u 179) (u 180) (u 181)
    ∙ (λ i. number_of_marks (is 176 (omega arith) i ∷ is 177 (omega arith) i ∷ is 178 (omega arith) i ∷ is 179 (omega arith) i ∷ is 180 (omega arith) i ∷ is 181 (omega arith) i ∷ spare 182 (omega arith) (omega arith) i ∷ spare 183 (omega arith) (omega arith) i ∷ []))
    ∙ ap number_of_marks (pick_l-range_with_len false padded 176 8 (omega (arith, long)))
  where
    padded : List Bool
    padded = map (is_other value) bytes ++ false ∷ false ∷ []

    marks_long : length (map (is_other value) bytes) ≡ 182
    marks_long = length-map bytes (is_other value) ∙ size

    long : length padded ≡ 184
    long = length-append (map (is_other value) bytes) (false ∷ false ∷ []) ∙ omega (arith, marks_long)

    u : ℕ → Bool
    u k = is_other value (get_or bytes k 0)

    is : (k : ℕ) → k < 182 → u k ≡ get_or padded k false
    is k below =
        sym (get_or_append_left (map (is_other value) bytes) (false ∷ false ∷ []) false k (omega (arith, marks_long, below))
        ∙ get_or-map (is_other value) bytes k 0 false (omega (arith, size, below)))

    rest : (k : ℕ) → get_or (false ∷ false ∷ []) k false ≡ false
    rest zero = refl
    rest (suc zero) = refl
    rest (suc (suc k)) = refl

    spare : (k : ℕ) → 182 ≤ k → k < 184 → false ≡ get_or padded k false
    spare k from to = sym (get_or-append_right (map (is_other value) bytes) (false ∷ false ∷ []) 182 k false marks_long from ∙ rest (k - 182))

-- the number of the first marks of a row of eight
abbrev first_number : List Bool → ℕ → ℕ
first_number marks k = number_of_marks (take k marks)

-- one mark more doubles the number, and adds 1 if it is set
first_number-more : (marks : List Bool) (k : ℕ) (mark : Bool) → k < length marks → get_or marks k false ≡ mark
    → first_number marks (k + 1) ≡ 2 * first_number marks k + (if mark then 1 else 0)
unfolding number_of_marks
first_number-more marks k mark within is =
    fold_more with_mark_bit 0 marks k false within ∙ ap (λ m. 2 * first_number marks k + (if m then 1 else 0)) is

-- a number with one digit more, and its bits
lowest : (n d : ℕ) → d < 2 → bit_at (2 * n + d) 0 ≡ d
lowest n d few = bit_at_lowest (2 * n + d) ∙ omega (arith, few)

-- the other bits are those of the number, one place higher
higher : (n d k : ℕ) → d < 2 → bit_at (2 * n + d) (suc k) ≡ bit_at n k
higher n d k few = let half : (2 * n + d) / 2 ≡ n = omega (arith, few) in bit_at-suc (2 * n + d) k ∙ ap (λ m. bit_at m k) half

-- mark i of n is bit n - 1 - i
number-bit : (marks : List Bool) (n i : ℕ) → i < n → n ≤ length marks → (bit_at (first_number marks n) (n - 1 - i) == 1) ≡ get_or marks i false
unfolding digit
number-bit marks zero i below within = absurd (omega (arith, below))
number-bit marks (suc n) i below within = elim (cases_lt i n) [
  | inl lt ↦
      let next : suc n - 1 - i ≡ suc (n - 1 - i) = omega (arith, lt) in
      ap (λ k. bit_at (first_number marks (suc n)) k == 1) next
      ∙ ap (λ m. bit_at m (suc (n - 1 - i)) == 1) more
      ∙ ap (λ b. b == 1) (higher (first_number marks n) (digit (get_or marks n false)) (n - 1 - i) (digit-lt (get_or marks n false)))
      ∙ number-bit marks n i lt (omega (arith, within))
  | inr le ↦
      let last : i ≡ n = omega (arith, le, below) in
      let first : suc n - 1 - i ≡ 0 = omega (arith, last) in
      ap (λ k. bit_at (first_number marks (suc n)) k == 1) first
      ∙ ap (λ m. bit_at m 0 == 1) more
      ∙ ap (λ b. b == 1) (lowest (first_number marks n) (digit (get_or marks n false)) (digit-lt (get_or marks n false)))
      ∙ digit_is (get_or marks n false)
      ∙ ap (λ k. get_or marks k false) (sym last)
]
  where
    more : first_number marks (suc n) ≡ 2 * first_number marks n + digit (get_or marks n false)
    more =
        let one : n + 1 ≡ suc n = omega arith in
        ap (first_number marks) (sym one) ∙ first_number-more marks n (get_or marks n false) (omega (arith, within)) refl

-- the marks of a row come back
mark-back : (marks : List Bool) (j : ℕ) → length marks ≡ 182 → j < 182 → mark_at (mark_bytes marks) j ≡ get_or marks j false
unfolding mark_bytes
mark-back marks j size below =
    ap (λ byte. bit_at byte (7 - j % 8) == 1) (get_or-map-range_with_len (mark_byte marks) 0 23 (j / 8) (j / 8) 0 (omega (arith, below)) (omega arith))
    ∙ ap (λ bits. bit_at (number_of_marks bits) (7 - j % 8) == 1) (sym (take_all 8 eight (omega (arith, long))))
    ∙ ap (λ k. bit_at (first_number eight 8) k == 1) place
    ∙ number-bit eight 8 (j % 8) (omega arith) (omega (arith, long))
    ∙ get_or-take 8 (drop (8 * (j / 8)) padded) (j % 8) false (omega arith)
    ∙ get_or-drop (8 * (j / 8)) padded (j % 8) false
    ∙ ap (λ k. get_or padded k false) whole
    ∙ get_or_append_left marks (false ∷ false ∷ []) false j (omega (arith, below, size))
  where
    padded : List Bool
    padded = marks ++ false ∷ false ∷ []

    eight : List Bool
    eight = take 8 (drop (8 * (j / 8)) padded)

    padded_size : length padded ≡ 184
    padded_size = length-append marks (false ∷ false ∷ []) ∙ omega (arith, size)

    long : length eight ≡ 8
    long = length-take-le 8 (drop (8 * (j / 8)) padded) (omega (arith, below, padded_size, length-drop (8 * (j / 8)) padded))

    place : 7 - j % 8 ≡ 8 - 1 - j % 8
    place = omega arith

    whole : 8 * (j / 8) + j % 8 ≡ j
    whole = omega arith

-- the mark bytes of a row are read back as its 182 marks
pub marks-back : (marks : List Bool) → length marks ≡ 182 → marks_of (mark_bytes marks) ≡ marks
marks-back marks size = sym (all_marks (mark_bytes marks) marks size (λ j below. sym (mark-back marks j size below)))
