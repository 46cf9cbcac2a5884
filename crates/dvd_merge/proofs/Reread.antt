-- A marked text is read back as the rows and the marks of its table.
use Rattle.std.proofs.Common.{◌≡◌, ◌∙◌, ℕ, ◌<◌, Bool, List, [], ◌++◌, length, map, take, drop, All, sym, ap, subst, arith, length-append}
use Rattle.std.proofs.Math.Seq.{drop-append_seam}
use Rattle.std.proofs.lemmas.List.{get_or-map, length-map, take_all}
use Rattle.std.proofs.lemmas.List.FromFn.{length-map-range_with_len}
use Rattle.coding.specs.Product.{line}
use Rattle.coding.specs.Recording.{record_at}
use Rattle.dvd_capture.specs.Captured.{captured_marks, captured_rows, marks_in, record_of}
use Rattle.dvd_capture.specs.MarkBits.{mark_byte, mark_bytes, marks_of}
use Rattle.dvd_capture.specs.declared.form.Form.TheVariants.{Marked}
use Rattle.dvd_capture.proofs.Fetching.{part-append, record_at-lt, row_at-record_at}
use Rattle.dvd_capture.proofs.Mapped.{mapped}
use Rattle.dvd_capture.proofs.PackedMarks.{marks-back}
use Rattle.dvd_capture.proofs.RecordedRows.{record_row}
use Rattle.dvd_merge.specs.Join.{Table, byte_of, joined_marks, joined_rows, joined_mark, known_row}
use Rattle.dvd_merge.specs.MarkedText.{marked_row, marked_text}
use Rattle.dvd_merge.proofs.Costs.{bytes-row, marks-row}

module _ (table : Table) (height : length table ≡ 208) (widths : All (λ row. length row ≡ 182) table) where
  -- each row of the table has 182 places
  wide : (i : ℕ) → i < 208 → length (known_row table i) ≡ 182
  wide i below = widths i [] (omega (arith, height, below))

  -- row i of the marked text has the bytes and the mark bits of row i of the table
  row_is : (i : ℕ) → i < 208 → line (map marked_row table) i ≡ marked_row (known_row table i)
  row_is i below = get_or-map marked_row table i [] [] (omega (arith, height, below))

  -- the marks of a row are 23 bytes
  length-bits : (marks : List Bool) → length (mark_bytes marks) ≡ 23
  unfolding mark_bytes
  length-bits marks = length-map-range_with_len (mark_byte marks) 0 23

  -- the bytes of a row are 182
  bytes_long : (i : ℕ) → i < 208 → length (map byte_of (known_row table i)) ≡ 182
  bytes_long i below = length-map (known_row table i) byte_of ∙ wide i below

  -- so a row of the marked text has 205 bytes
  width : (i : ℕ) → i < 208 → length (line (map marked_row table) i) ≡ 205
  unfolding marked_row
  width i below =
      let bits : List ℕ = mark_bytes (map joined_mark (known_row table i)) in
      ap length (row_is i below) ∙ length-append (map byte_of (known_row table i)) bits
      ∙ omega (arith, bytes_long i below, length-bits (map joined_mark (known_row table i)))

  -- the marked text has the bytes and marks of row i at its recorded row
  record_is : (i : ℕ) → i < 208 → record_of Marked (marked_text table) (record_at i) ≡ marked_row (known_row table i)
  record_is i below =
      record_row Marked (map marked_row table) width (record_at i) (record_at-lt i below)
      ∙ ap (line (map marked_row table)) (row_at-record_at i below) ∙ row_is i below

  -- its first 182 bytes are those of row i of the table
  prefix : (i : ℕ) → i < 208 → take 182 (marked_row (known_row table i)) ≡ map byte_of (known_row table i)
  unfolding marked_row
  prefix i below = part-append (map byte_of (known_row table i)) (mark_bytes (map joined_mark (known_row table i))) 0 182 (omega (arith, bytes_long i below)) ∙ take_all 182 (map byte_of (known_row table i)) (omega (arith, bytes_long i below))

  -- and the 23 after them are read as its marks
  past : (i : ℕ) → i < 208 → marks_in Marked (marked_row (known_row table i)) ≡ map joined_mark (known_row table i)
  unfolding marked_row
  past i below =
      let marks : List Bool = map joined_mark (known_row table i) in
      let bits : drop 182 (map byte_of (known_row table i) ++ mark_bytes marks) ≡ mark_bytes marks =
      subst (λ n. drop n (map byte_of (known_row table i) ++ mark_bytes marks) ≡ mark_bytes marks) (bytes_long i below) (drop-append_seam (map byte_of (known_row table i)) (mark_bytes marks)) in
      ap marks_of bits ∙ marks-back marks (length-map (known_row table i) joined_mark ∙ wide i below)

  -- so the rows that are read from the marked text are those of the table
  pub rows_read : captured_rows Marked (marked_text table) ≡ joined_rows table
  unfolding captured_rows joined_rows
  rows_read =
      sym (mapped row (joined_rows table) 208 [] joined_size
      (λ i below. bytes-row table i ∙ sym (ap (take 182) (record_is i below) ∙ prefix i below)))
    where
      row : ℕ → List ℕ
      row i = take 182 (record_of Marked (marked_text table) (record_at i))

      joined_size : length (joined_rows table) ≡ 208
      joined_size = length-map table (map byte_of) ∙ height

  -- and so are the marks
  pub marks_read : captured_marks Marked (marked_text table) ≡ joined_marks table
  unfolding captured_marks joined_marks
  marks_read =
      sym (mapped row (joined_marks table) 208 [] joined_size
      (λ i below. marks-row table i ∙ sym (ap (marks_in Marked) (record_is i below) ∙ past i below)))
    where
      row : ℕ → List Bool
      row i = marks_in Marked (record_of Marked (marked_text table) (record_at i))

      joined_size : length (joined_marks table) ≡ 208
      joined_size = length-map table (map joined_mark) ∙ height
