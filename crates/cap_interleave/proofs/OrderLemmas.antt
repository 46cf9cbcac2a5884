-- Blocks found again among those that were written.
use Rattle.std.proofs.Common.{◌≡◌, ◌∙◌, inl, inr, ◌+◌, ◌*◌, ◌<◌, ◌≤◌, ℕ, zero, suc, Bool, true, false, List, ◌∷◌, ◌++◌, length, drop, map, replicate, refl, ap, sym, subst, arith, append-nil, length-append, length-drop}
use Rattle.std.proofs.Math.Nat.{mul-le-mul_left, mul-suc, mul-zero, mul_comm}
use Rattle.std.proofs.lemmas.Bool.{cases_lt}
use Rattle.std.proofs.lemmas.List.{drop_all, length-take-le}
use Rattle.std.specs.List.{range_with_len}
use Rattle.coding.specs.Recording.{record_at}
use Rattle.dvd_capture.proofs.Fetching.{record_at-lt}
use Rattle.dvd_capture.specs.Captured.{captured_marks, record_marks}
use Rattle.dvd_capture.specs.MarkBits.{marks_of}
use Rattle.dvd_capture.specs.declared.form.Form.TheVariants.{Marked}
use Rattle.cap_interleave.specs.Blocks.{CaptureBytes, Task, capture_block, block_written, lost_block, lost_row, lost_rows, unit_bytes, units_of}
use Rattle.cap_interleave.specs.Laws.{BlocksAreInMergeOrder, LostBlockIsMarkedWhole}
use Rattle.cap_interleave.proofs.BlockLemmas.{rows_length}
use Rattle.cap_interleave.proofs.StepLemmas.{block_before, block_now}

-- a whole block has its size, and is written as it came
block_size : (size n k : ℕ) (capture : List ℕ) → k < n → size * n ≤ length capture → length (capture_block size k capture) ≡ size
block_size size n k capture below whole =
    let next : suc k ≤ n = omega arith in
    length-take-le size (drop (size * k) capture) (omega (arith, length-drop (size * k) capture, mul-suc size k, mul-le-mul_left size next, whole))

filled_whole : (fill : Bool) (size : ℕ) (own : List ℕ) → (fill ≡ true → size ≡ length lost_block) → length own ≡ size → block_written fill own ≡ own
filled_whole true size own same whole = ap (λ l. own ++ l) (drop_all (length own) lost_block (omega (arith, whole, same refl))) ∙ append-nil own
filled_whole false size own same whole = refl

module _ (task : Task) (captures : CaptureBytes) (n : ℕ) (same : task.fill ≡ true → task.size ≡ length lost_block) (whole : (b : ℕ) → b < task.count → task.size * n ≤ length (captures b)) where
  -- what is written for a block is the block
  as_it_came : (k c : ℕ) → k < n → c < task.count → block_written task.fill (capture_block task.size k (captures c)) ≡ capture_block task.size k (captures c)
  as_it_came k c below inside = filled_whole task.fill task.size (capture_block task.size k (captures c)) same (block_size task.size n k (captures c) below (whole c inside))

  unit_size : (k m : ℕ) → k < n → m ≤ task.count → length (unit_bytes task captures k m) ≡ task.size * m
  unfolding unit_bytes
  unit_size k zero below few = sym (mul-zero task.size)
  unit_size k (suc m) below few =
      length-append (unit_bytes task captures k m) (block_written task.fill (capture_block task.size k (captures m)))
      ∙ omega (arith, unit_size k m below (omega (arith, few)), ap length (as_it_came k m below (omega (arith, few))), block_size task.size n k (captures m) below (whole m (omega (arith, few))), mul-suc task.size m)

  -- place c of unit k
  in_unit : (k c m : ℕ) → k < n → m ≤ task.count → c < m → capture_block task.size c (unit_bytes task captures k m) ≡ capture_block task.size k (captures c)
  unfolding unit_bytes
  in_unit k c zero below few inside = absurd (omega (arith, inside))
  in_unit k c (suc m) below few inside =
      let before = unit_bytes task captures k m in
      let block = capture_block task.size k (captures m) in
      let size : length before ≡ task.size * m = unit_size k m below (omega (arith, few)) in
      let own : block_written task.fill block ≡ block = as_it_came k m below (omega (arith, few)) in
      elim (cases_lt c m) [
        | inl earlier ↦ block_before task.size m c before (block_written task.fill block) earlier (omega (arith, size)) ∙ in_unit k c m below (omega (arith, few)) earlier
        | inr later ↦
            let is : m ≡ c = omega (arith, later, inside) in
            subst (λ x. capture_block task.size x (before ++ block_written task.fill block) ≡ capture_block task.size k (captures x)) is
            (block_now task.size m before (block_written task.fill block) size (omega (arith, ap length own, block_size task.size n k (captures m) below (whole m (omega (arith, few))))) ∙ own)
      ]

  one_unit : (k : ℕ) → k < n → length (unit_bytes task captures k task.count) ≡ task.count * task.size
  one_unit k below = unit_size k task.count below (omega arith) ∙ mul_comm task.size task.count

  units_size : (m : ℕ) → m ≤ n → length (units_of task captures m) ≡ task.count * task.size * m
  unfolding units_of
  units_size zero few = sym (mul-zero (task.count * task.size))
  units_size (suc m) few =
      length-append (units_of task captures m) (unit_bytes task captures m task.count)
      ∙ omega (arith, units_size m (omega (arith, few)), one_unit m (omega (arith, few)), mul-suc (task.count * task.size) m)

  -- unit k
  in_units : (k m : ℕ) → m ≤ n → k < m → capture_block (task.count * task.size) k (units_of task captures m) ≡ unit_bytes task captures k task.count
  unfolding units_of
  in_units k zero few inside = absurd (omega (arith, inside))
  in_units k (suc m) few inside =
      let size : length (units_of task captures m) ≡ task.count * task.size * m = units_size m (omega (arith, few)) in
      elim (cases_lt k m) [
        | inl earlier ↦ block_before (task.count * task.size) m k (units_of task captures m) (unit_bytes task captures m task.count) earlier (omega (arith, size)) ∙ in_units k m (omega (arith, few)) earlier
        | inr later ↦
            let is : m ≡ k = omega (arith, later, inside) in
            subst (λ x. capture_block (task.count * task.size) x (units_of task captures m ++ unit_bytes task captures m task.count) ≡ unit_bytes task captures x task.count) is
            (block_now (task.count * task.size) m (units_of task captures m) (unit_bytes task captures m task.count) size (omega (arith, one_unit m (omega (arith, few)))))
      ]

pub merge_order : BlocksAreInMergeOrder
merge_order task captures n k c same whole below inside =
    ap (capture_block task.size c) (in_units task captures n same whole k n (omega arith) below) ∙ in_unit task captures n same whole k c task.count below (omega arith) inside

-- each row of a block that is marked whole
row_of : (n m : ℕ) → m < n → capture_block 205 m (lost_rows n) ≡ lost_row
unfolding lost_rows
row_of zero m inside = absurd (omega (arith, inside))
row_of (suc n) m inside = elim (cases_lt m n) [
  | inl earlier ↦ block_before 205 n m (lost_rows n) lost_row earlier (omega (arith, rows_length n)) ∙ row_of n m earlier
  | inr later ↦
      let is : n ≡ m = omega (arith, later, inside) in
      subst (λ x. capture_block 205 x (lost_rows n ++ lost_row) ≡ lost_row) is (block_now 205 n (lost_rows n) lost_row (rows_length n) (omega arith))
]

-- has all its marks
row_marked : marks_of (drop 182 lost_row) ≡ replicate 182 true
unfolding marks_of
row_marked = refl

-- a list of things that are all the same
all_same : {X : Type 0} (f : ℕ → X) (x : X) (a n : ℕ) → ((i : ℕ) → i < a + n → f i ≡ x) → map f (range_with_len a n) ≡ replicate n x
all_same f x a zero same = refl
all_same f x a (suc n) same = ap (λ y. y ∷ map f (range_with_len (a + 1) n)) (same a (omega arith)) ∙ ap (λ l. x ∷ l) (all_same f x (a + 1) n (λ i below. same i (omega (arith, below))))

pub marked_whole : LostBlockIsMarkedWhole
unfolding captured_marks
marked_whole = all_same (λ i. record_marks Marked lost_block (record_at i)) (replicate 182 true) 0 208
    (λ i below. ap (λ l. marks_of (drop 182 l)) (row_of 208 (record_at i) (record_at-lt i (omega (arith, below)))) ∙ row_marked)
