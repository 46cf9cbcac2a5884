-- A block as it is fetched: where the record of each row comes in it, and what the bytes read say of the block.
use Rattle.std.proofs.Common.{◌≡◌, ◌≢◌, ◌⊎◌, ◌∙◌, ℕ, ◌+◌, ◌<◌, ◌≤◌, ◌==◌, Bool, true, false, List, [], ◌++◌, length, set, take, drop, inl, inr, refl, sym, ap, subst, arith, length-drop}
use Rattle.std.proofs.lemmas.Bool.Decides.{eqb_tells, nat_tests}
use Rattle.std.proofs.Math.Seq.{drop-append_seam}
use Rattle.std.proofs.lemmas.List.{take_all, take-append-le, drop-append-le, get_or-set_same, get_or-set_other}
use Rattle.dvd_ports.specs.Bytes.{Bytes, Consumes}
use Rattle.coding.specs.Product.{line}
use Rattle.coding.specs.Recording.{record_at, row_at}
use Rattle.dvd_capture.specs.Answers.{marks_line}
use Rattle.dvd_capture.specs.Captured.{Captures, HasSize, BreaksNoRule, block_size, captured_marks, captured_rows, marks_in, record_marks, record_of, unit_size}
use Rattle.dvd_capture.specs.Inner.Putting.{ArePut}
use Rattle.dvd_capture.specs.declared.form.Form.{Form}
use Rattle.dvd_capture.specs.declared.form.Form.TheVariants.{Plain, Marked, Listed}
use Rattle.dvd_capture.proofs.Mapped.{mapped}

-- the order of recording there and back
pub row_at-record_at : (i : ℕ) → i < 208 → row_at (record_at i) ≡ i
row_at-record_at i below = grind (arith, nat_tests)

-- a row of the block is recorded as one of the 208
pub record_at-lt : (i : ℕ) → i < 208 → record_at i < 208
record_at-lt i below = grind (arith, nat_tests)

-- and each of the 208 recorded rows is a row of the block
pub row_at-lt : (m : ℕ) → m < 208 → row_at m < 208
row_at-lt m below = grind (arith, nat_tests)

-- the row at recorded row m is recorded there
pub record_at-row_at : (m : ℕ) → m < 208 → record_at (row_at m) ≡ m
record_at-row_at m below = grind (arith, nat_tests)

-- a part of a list that is inside stays when the list grows
pub part-append : (xs ys : List ℕ) (a n : ℕ) → a + n ≤ length xs → take n (drop a (xs ++ ys)) ≡ take n (drop a xs)
part-append xs ys a n inside =
    ap (take n) (drop-append-le a xs ys (omega arith)) ∙ take-append-le n (drop a xs) ys (omega (arith, length-drop a xs))

-- what comes after so many bytes is the second of two lists
pub part-after : (xs ys : List ℕ) (a n : ℕ) → length xs ≡ a → length ys ≡ n → take n (drop a (xs ++ ys)) ≡ ys
part-after xs ys a n size more = subst (λ k. take n (drop k (xs ++ ys)) ≡ ys) size (ap (take n) (drop-append_seam xs ys) ∙ take_all n ys (omega arith))

-- nothing is put yet
pub none_put : (form : Form) (bytes : List ℕ) (rows : List (List ℕ)) (marks : List (List Bool)) → ArePut form bytes rows marks 0
none_put form bytes rows marks = record { rows_set = λ i below none. absurd (omega arith); marks_set = λ i below none. absurd (omega arith) }

-- one recorded row more
pub row_put : (form : Form) (bytes got : List ℕ) (rows : List (List ℕ)) (marks : List (List Bool)) (m : ℕ)
    → length rows ≡ 208 → length marks ≡ 208 → m < 208 → got ≡ record_of form bytes m → ArePut form bytes rows marks m
    → ArePut form bytes (set rows (row_at m) (take 182 got)) (set marks (row_at m) (marks_in form got)) (m + 1)
row_put form bytes got rows marks m height marks_height below got_is part = record {
  rows_set = λ i i_below i_read. at_row i i_below i_read (eqb_tells i r);
  marks_set = λ i i_below i_read. at_marks i i_below i_read (eqb_tells i r);
} where
  r : ℕ
  r = row_at m

  -- the recorded rows of two rows differ
  earlier : (i : ℕ) → i < 208 → record_at i < m + 1 → i ≢ r → record_at i < m
  earlier i i_below i_read apart = less (record_at i) i_read (λ same. apart (sym (row_at-record_at i i_below) ∙ ap row_at same)) where
    less : (n : ℕ) → n < m + 1 → n ≢ m → n < m
    less n n_read n_apart = omega (arith, n_apart)

  -- the recorded row that was put
  here : (i : ℕ) → i ≡ r → got ≡ record_of form bytes (record_at i)
  here i is = got_is ∙ ap (record_of form bytes) (sym (ap record_at is ∙ record_at-row_at m below))

  at_row : (i : ℕ) → i < 208 → record_at i < m + 1 → ((((i == r) ≡ true) × (i ≡ r)) ⊎ (((i == r) ≡ false) × (i ≢ r)))
      → line (set rows r (take 182 got)) i ≡ take 182 (record_of form bytes (record_at i))
  at_row i i_below i_read (inl is) =
      ap (line (set rows r (take 182 got))) is.1 ∙ get_or-set_same rows r (take 182 got) [] (omega (arith, height, row_at-lt m below)) ∙ ap (take 182) (here i is.1)
  at_row i i_below i_read (inr is) = get_or-set_other rows r i (take 182 got) [] is.1 ∙ part.rows_set i i_below (earlier i i_below i_read is.1)

  at_marks : (i : ℕ) → i < 208 → record_at i < m + 1 → ((((i == r) ≡ true) × (i ≡ r)) ⊎ (((i == r) ≡ false) × (i ≢ r)))
      → marks_line (set marks r (marks_in form got)) i ≡ marks_in form (record_of form bytes (record_at i))
  at_marks i i_below i_read (inl is) =
      ap (marks_line (set marks r (marks_in form got))) is.1
      ∙ get_or-set_same marks r (marks_in form got) [] (omega (arith, marks_height, row_at-lt m below)) ∙ ap (marks_in form) (here i is.1)
  at_marks i i_below i_read (inr is) = get_or-set_other marks r i (marks_in form got) [] is.1 ∙ part.marks_set i i_below (earlier i i_below i_read is.1)

-- where each block has as many bytes, a unit has these
pub sized-block : (form : Form) → HasSize form → (bytes : List ℕ) → unit_size form bytes ≡ block_size form
sized-block Plain sized bytes = refl
sized-block Marked sized bytes = refl
sized-block Listed sized bytes = absurd (sized refl)

-- and 42,640 at most
pub sized-most : (form : Form) → HasSize form → block_size form ≤ 42_640
sized-most Plain sized = omega arith
sized-most Marked sized = omega arith
sized-most Listed sized = absurd (sized refl)

-- no rule is broken in them
sized-valid : (form : Form) → HasSize form → (bytes : List ℕ) → BreaksNoRule form bytes
sized-valid Plain sized bytes = tt
sized-valid Marked sized bytes = tt
sized-valid Listed sized bytes = absurd (sized refl)

-- and the marks are in the recorded rows
sized-marks : (form : Form) → HasSize form → (bytes : List ℕ) (m : ℕ) → record_marks form bytes m ≡ marks_in form (record_of form bytes m)
sized-marks Plain sized bytes m = refl
sized-marks Marked sized bytes m = refl
sized-marks Listed sized bytes m = absurd (sized refl)

-- all bytes of a block came
pub all_fetched : (form : Form) → HasSize form → (old now : Bytes) (rows : List (List ℕ)) (marks : List (List Bool)) (count : ℕ) (bytes : List ℕ)
    → length bytes ≡ block_size form → block_size form ≤ count → Consumes old now (take count bytes)
    → (rows ≡ captured_rows form bytes) × (marks ≡ captured_marks form bytes) → Captures form old now rows marks
all_fetched form sized old now rows marks count bytes size all consumed are = record {
  bytes = bytes;
  size = size ∙ sym (sized-block form sized bytes);
  valid = sized-valid form sized bytes;
  taken = subst (Consumes old now) (take_all count bytes (omega (arith, size))) consumed;
  rows_are = are.0;
  marks_are = are.1;
}

-- the rows and marks of the 208 recorded rows that are put are those captured in the bytes
pub all_put : (form : Form) → HasSize form → (rows : List (List ℕ)) (marks : List (List Bool)) (bytes : List ℕ)
    → length rows ≡ 208 → length marks ≡ 208 → ArePut form bytes rows marks 208
    → (rows ≡ captured_rows form bytes) × (marks ≡ captured_marks form bytes)
unfolding captured_rows captured_marks
all_put form sized rows marks bytes height marks_height put = (
  mapped (λ i. take 182 (record_of form bytes (record_at i))) rows 208 [] height
      (λ i below. put.rows_set i below (record_at-lt i below)),
  mapped (λ i. record_marks form bytes (record_at i)) marks 208 [] marks_height
      (λ i below. put.marks_set i below (record_at-lt i below) ∙ sym (sized-marks form sized bytes (record_at i))),
)
