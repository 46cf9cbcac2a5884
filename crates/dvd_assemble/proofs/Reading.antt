-- A recording frame in its bytes, row by row.
use Rattle.std.proofs.Common.{◌≡◌, inl, inr, ◌∙◌, ℕ, ◌+◌, ◌-◌, ◌*◌, ◌<◌, Bool, List, [], length, length-take-le, take, drop, get_or, set, refl, ap, arith}
use Rattle.std.proofs.lemmas.Bool.Decides.{eqb_tells}
use Rattle.std.proofs.lemmas.List.{get_or-set_same, get_or-set_other, length-set}
use Rattle.coding.specs.Product.{line}
use Rattle.dvd_capture.specs.Answers.{marks_line}
use Rattle.dvd_capture.specs.Captured.{marks_in, record_of, record_size}
use Rattle.dvd_capture.specs.declared.form.Form.{Form}
use Rattle.dvd_capture.specs.declared.form.Form.TheVariants.{Plain, Marked, Listed}
use Rattle.dvd_capture.proofs.Mapped.{mapped}
use Rattle.dvd_merge.proofs.Places.{Tells}
use Rattle.dvd_assemble.specs.Frames.{frame_in}

-- a recorded row begins with its 182 bytes
pub record_begins : (form : Form) (bytes : List ℕ) → length bytes ≡ record_size form → length (take 182 bytes) ≡ 182
record_begins Plain bytes size = length-take-le 182 bytes (omega arith)
record_begins Marked bytes size = length-take-le 182 bytes (omega arith)
record_begins Listed bytes size = length-take-le 182 bytes (omega arith)

-- recorded row k, by the number of its bytes
pub record_cut : (form : Form) (bytes : List ℕ) (size k : ℕ) → size ≡ record_size form
    → take (size * k + size - size * k) (drop (size * k) bytes) ≡ record_of form bytes k
record_cut form bytes size k is =
    let same : size * k + size - size * k ≡ size = omega arith in
    rw same (ap (λ n. take n (drop (n * k) bytes)) is)

-- the first q rows of a frame are set to those in these bytes
pub record IsPartlyPut (form : Form) (bytes : List ℕ) (rows : List (List ℕ)) (marks : List (List Bool)) (q : ℕ) : Type 0 where
  pub rows_size : length rows ≡ 13
  pub marks_size : length marks ≡ 13
  pub rows_set : (k : ℕ) → k < q → line rows k ≡ take 182 (record_of form bytes k)
  pub marks_set : (k : ℕ) → k < q → marks_line marks k ≡ marks_in form (record_of form bytes k)

-- an element more of a list that is set from the front
set_more : {A : Type 0} (xs : List A) (q k : ℕ) (d x : A) (is : ℕ → A) → q < length xs → ((k : ℕ) → k < q → get_or xs k d ≡ is k) → x ≡ is q
    → k < q + 1 → get_or (set xs q x) k d ≡ is k
set_more xs q k d x is within before last below = by_place (eqb_tells k q)
  where
    by_place : Tells k q → get_or (set xs q x) k d ≡ is k
    by_place (inl same) = rw same.1 (get_or-set_same xs q x d within ∙ last)
    by_place (inr apart) = get_or-set_other xs q k x d apart.1 ∙ before k (omega (arith, below, apart.1))

-- one row and its marks more
pub row_put : (form : Form) (bytes row : List ℕ) (bits : List Bool) (rows : List (List ℕ)) (marks : List (List Bool)) (q : ℕ) → q < 13
    → IsPartlyPut form bytes rows marks q → row ≡ take 182 (record_of form bytes q) → bits ≡ marks_in form (record_of form bytes q)
    → IsPartlyPut form bytes (set rows q row) (set marks q bits) (q + 1)
row_put form bytes row bits rows marks q below part row_is bits_are = record {
  rows_size = length-set rows q row ∙ part.rows_size;
  marks_size = length-set marks q bits ∙ part.marks_size;
  rows_set = λ k less. set_more rows q k [] row (λ n. take 182 (record_of form bytes n)) (omega (arith, part.rows_size)) part.rows_set row_is less;
  marks_set = λ k less. set_more marks q k [] bits (λ n. marks_in form (record_of form bytes n)) (omega (arith, part.marks_size)) part.marks_set bits_are less;
}

-- with thirteen rows put it is the frame in these bytes
pub all_put : (form : Form) (bytes : List ℕ) (rows : List (List ℕ)) (marks : List (List Bool)) → IsPartlyPut form bytes rows marks 13
    → record { rows = rows; marks = marks } ≡ frame_in form bytes
unfolding frame_in
all_put form bytes rows marks part =
    rw (
      mapped (λ k. take 182 (record_of form bytes k)) rows 13 [] part.rows_size part.rows_set,
      mapped (λ k. marks_in form (record_of form bytes k)) marks 13 [] part.marks_size part.marks_set,
    ) refl
