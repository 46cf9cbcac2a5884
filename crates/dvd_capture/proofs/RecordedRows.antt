-- The recording of a block has its rows at their recorded rows.
use Rattle.std.proofs.Common.{◌≡◌, ◌∙◌, ℕ, zero, suc, ◌+◌, ◌-◌, ◌*◌, ◌<◌, ◌≤◌, List, [], ◌++◌, length, take, drop, All, sym, ap, arith, length-append}
use Rattle.std.proofs.lemmas.List.{take_all}
use Rattle.coding.specs.Product.{line}
use Rattle.coding.specs.Recording.{record_at, recording, row_at}
use Rattle.dvd_block.proofs.Recorded.{recorded, recorded-add, recorded-more, recorded-none, recording-is}
use Rattle.dvd_capture.specs.Captured.{captured_rows, record_of, record_size}
use Rattle.dvd_capture.specs.declared.form.Form.{Form}
use Rattle.dvd_capture.specs.declared.form.Form.TheVariants.{Plain}
use Rattle.dvd_capture.proofs.Fetching.{part-append, part-after, record_at-lt, row_at-lt, row_at-record_at}
use Rattle.dvd_capture.proofs.Mapped.{mapped}

-- Rows of one width, that of the recorded rows of a form.
module _ (form : Form) (rows : List (List ℕ)) (width : (i : ℕ) → i < 208 → length (line rows i) ≡ record_size form) where
  -- n + 1 recorded rows are n of them and the row that is at recorded row n
  one_more : (n : ℕ) → recorded 0 (n + 1) rows ≡ recorded 0 n rows ++ line rows (row_at n)
  one_more n =
      let same : 0 + n ≡ n = omega arith in
      recorded-more 0 n rows ∙ ap (λ k. recorded 0 n rows ++ line rows (row_at k)) same

  -- n recorded rows have n times the bytes of one
  length-recorded : (n : ℕ) → n ≤ 208 → length (recorded 0 n rows) ≡ record_size form * n
  length-recorded zero within = ap length (recorded-none 0 rows) ∙ omega arith
  length-recorded (suc n) within =
      let more : n + 1 ≡ suc n = omega arith in
      ap (λ k. length (recorded 0 k rows)) (sym more) ∙ ap length (one_more n) ∙ length-append (recorded 0 n rows) (line rows (row_at n))
      ∙ omega (arith, length-recorded n (omega arith), width (row_at n) (row_at-lt n (omega arith)))

  -- recorded row m comes after m others
  split : (m : ℕ) → m < 208 → recording rows ≡ (recorded 0 m rows ++ line rows (row_at m)) ++ recorded (0 + (m + 1)) (207 - m) rows
  split m below =
      let all : m + 1 + (207 - m) ≡ 208 = omega arith in
      recording-is rows ∙ ap (λ k. recorded 0 k rows) (sym all) ∙ recorded-add 0 (m + 1) (207 - m) rows
      ∙ ap (λ prefix. prefix ++ recorded (0 + (m + 1)) (207 - m) rows) (one_more m)

  -- recorded row m is the row that is there
  pub record_row : (m : ℕ) → m < 208 → record_of form (recording rows) m ≡ line rows (row_at m)
  record_row m below =
      let size : ℕ = record_size form in
      let row : List ℕ = line rows (row_at m) in
      let row_width : length row ≡ size = width (row_at m) (row_at-lt m below) in
      let before : length (recorded 0 m rows) ≡ size * m = length-recorded m (omega arith) in
      ap (λ bytes. take size (drop (size * m) bytes)) (split m below)
      ∙ part-append (recorded 0 m rows ++ row) (recorded (0 + (m + 1)) (207 - m) rows) (size * m) size (omega (arith, length-append (recorded 0 m rows) row, before, row_width))
      ∙ part-after (recorded 0 m rows) row (size * m) size before row_width

module _ (block : List (List ℕ)) (height : length block ≡ 208) (widths : All (λ row. length row ≡ 182) block) where
  -- each of the 208 rows has 182 bytes
  width : (i : ℕ) → i < 208 → length (line block i) ≡ 182
  width i below = widths i [] (omega (arith, height))

  -- recorded they are 37,856 bytes
  pub length-recording : length (recording block) ≡ 37_856
  length-recording = ap length (recording-is block) ∙ length-recorded Plain block width 208 (omega arith)

  -- so the rows captured from a block's recording are the block
  pub recording_captured : captured_rows Plain (recording block) ≡ block
  unfolding captured_rows
  recording_captured = sym (mapped row block 208 [] height (λ i below. sym (row_is i below)))
    where
      row : ℕ → List ℕ
      row i = take 182 (record_of Plain (recording block) (record_at i))

      row_is : (i : ℕ) → i < 208 → row i ≡ line block i
      row_is i below =
          ap (take 182) (record_row Plain block width (record_at i) (record_at-lt i below) ∙ ap (line block) (row_at-record_at i below))
          ∙ take_all 182 (line block i) (omega (arith, width i below))
