-- Records of a marked block that lie in the rows' buffer, while rows are set there.
use Rattle.std.proofs.Common.{◌≡◌, ◌⊎◌, ◌∙◌, ℕ, ◌+◌, ◌-◌, ◌*◌, ◌<◌, ◌≤◌, List, ◌++◌, length, take, drop, inl, inr, sym, ap, subst, arith}
use Rattle.std.proofs.lemmas.Bool.Decides.{nat_tests}
use Rattle.std.proofs.lemmas.List.{drop-drop, drop-take, drop_at, length-take-le, take-take, take_at}
use Rattle.coding.specs.Recording.{row_at}
use Rattle.dvd_capture.specs.Captured.{record_of}
use Rattle.dvd_capture.specs.declared.form.Form.TheVariants.{Marked}
use Rattle.dvd_capture.proofs.Fetching.{part-append}

-- a row of a data frame ends before the next record begins, and a row of outer parity comes after these records
apart : (m k : ℕ) → m < k → k < 169 → (182 * row_at m + 182 ≤ 205 * k) ⊎ (205 * k + 205 ≤ 182 * row_at m)
apart m k more few = grind (arith, nat_tests)

-- part of the first bytes
part_take : (m a n : ℕ) (bytes : List ℕ) → a + n ≤ m → take n (drop a (take m bytes)) ≡ take n (drop a bytes)
part_take m a n bytes within =
    let parts : m ≡ a + (m - a) = omega (arith, within) in
    ap (λ (k : ℕ). take n (drop a (take k bytes))) parts
    ∙ ap (take n) (drop-take a (m - a) bytes)
    ∙ take-take n (m - a) (drop a bytes) (omega (arith, within))

-- part of the bytes after so many
part_drop : (m a n : ℕ) (bytes : List ℕ) → m ≤ a → take n (drop a bytes) ≡ take n (drop (a - m) (drop m bytes))
part_drop m a n bytes within =
    let parts : m + (a - m) ≡ a = omega (arith, within) in
    ap (λ (k : ℕ). take n (drop k bytes)) (sym parts) ∙ ap (take n) (sym (drop-drop (a - m) m bytes))

-- so a record that comes later stays where a row is set
pub later_kept : (old new : List ℕ) (m k i : ℕ) → m < k → k < 169 → i ≡ row_at m
    → take (182 * i) new ≡ take (182 * i) old → drop (182 * i + 182) new ≡ drop (182 * i + 182) old
    → record_of Marked new k ≡ record_of Marked old k
later_kept old new m k i more few is front rest = by_place (subst (λ (r : ℕ). (182 * r + 182 ≤ 205 * k) ⊎ (205 * k + 205 ≤ 182 * r)) (sym is) (apart m k more few))
  where
    by_place : (182 * i + 182 ≤ 205 * k) ⊎ (205 * k + 205 ≤ 182 * i) → take 205 (drop (205 * k) new) ≡ take 205 (drop (205 * k) old)
    by_place (inl after) =
        part_drop (182 * i + 182) (205 * k) 205 new after ∙ ap (λ (l : List ℕ). take 205 (drop (205 * k - (182 * i + 182)) l)) rest
        ∙ sym (part_drop (182 * i + 182) (205 * k) 205 old after)
    by_place (inr before) =
        sym (part_take (182 * i) (205 * k) 205 new before) ∙ ap (λ (l : List ℕ). take 205 (drop (205 * k) l)) front
        ∙ part_take (182 * i) (205 * k) 205 old before

-- a record in the first part of a block
pub first_record : (bytes last : List ℕ) (m : ℕ) → length bytes ≡ 37_856 → m < 169
    → record_of Marked bytes m ≡ record_of Marked (take 34_645 bytes ++ last) m
first_record bytes last m size few =
    sym (part-append (take 34_645 bytes) last (205 * m) 205 (omega (arith, few, length-take-le 34_645 bytes (omega (arith, size))))
    ∙ part_take 34_645 (205 * m) 205 bytes (omega (arith, few)))

-- and one in the last part
pub last_record : (first last : List ℕ) (m : ℕ) → length first ≡ 34_645 → 169 ≤ m
    → take (205 * (m - 169) + 205 - 205 * (m - 169)) (drop (205 * (m - 169)) last) ≡ record_of Marked (first ++ last) m
last_record first last m size from =
    let at : ℕ = 205 * (m - 169) in
    let width : at + 205 - at ≡ 205 = omega arith in
    let place : 34_645 + at ≡ 205 * m = omega (arith, from) in
    ap (λ (n : ℕ). take n (drop at last)) width
    ∙ ap (λ (l : List ℕ). take 205 (drop at l)) (sym (drop_at first last 34_645 size))
    ∙ ap (take 205) (drop-drop at 34_645 (first ++ last) ∙ ap (λ (k : ℕ). drop k (first ++ last)) place)

-- the first part of the rows' buffer, once it was filled and the rest stayed
pub front_filled : (first rest : List ℕ) → length first ≡ 34_645 → take 34_645 (first ++ rest) ≡ first
front_filled first rest size = take_at first rest 34_645 size

-- which has room for it
pub front_length : (bytes : List ℕ) → length bytes ≡ 37_856 → length (take 34_645 bytes) ≡ 34_645
front_length bytes size = length-take-le 34_645 bytes (omega (arith, size))
