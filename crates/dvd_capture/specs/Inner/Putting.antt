-- Ours: which rows of a block are in their places while its recorded rows are put one after the other.
use Rattle.std.specs.Prelude.{◌≡◌, ℕ, ◌<◌, Bool, List, take}
use Rattle.coding.specs.Product.{line}
use Rattle.coding.specs.Recording.{record_at}
use Rattle.dvd_capture.specs.Answers.{marks_line}
use Rattle.dvd_capture.specs.Captured.{marks_in, record_of}
use Rattle.dvd_capture.specs.declared.form.Form.{Form}

-- the rows in the first m recorded rows of these bytes are put in their places, and their marks
pub record ArePut (form : Form) (bytes : List ℕ) (rows : List (List ℕ)) (marks : List (List Bool)) (m : ℕ) : Type 0 where
  pub rows_set : (i : ℕ) → i < 208 → record_at i < m → line rows i ≡ take 182 (record_of form bytes (record_at i))
  pub marks_set : (i : ℕ) → i < 208 → record_at i < m → marks_line marks i ≡ marks_in form (record_of form bytes (record_at i))
