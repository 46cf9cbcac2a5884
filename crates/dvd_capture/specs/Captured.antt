-- Captured blocks in a stream of bytes. A block has 208 recorded rows (ECMA-267, 19), one after the other. The
-- definitions go by index; the code reads all rows of a block as one piece.
use Rattle.std.specs.Prelude.{◌≡◌, ◌≢◌, ℕ, ◌*◌, ◌<◌, ◌≤◌, Bool, false, List, length, map, take, drop, replicate, slice_index, ⊤}
use Rattle.std.specs.List.{range_with_len}
use Rattle.dvd_ports.specs.Bytes.{Bytes, Consumes, IsAtEnd}
use Rattle.coding.specs.Recording.{record_at}
use Rattle.dvd_capture.specs.Listed.{IsBrokenAt, IsUnbroken, listed_row, listed_size}
use Rattle.dvd_capture.specs.MarkBits.{marks_of}
use Rattle.dvd_capture.specs.declared.form.Form.{Form}
use Rattle.dvd_capture.specs.declared.form.Form.TheVariants.{Plain, Marked, Listed}

-- the bytes of a recorded row
abbrev pub record_size : Form → ℕ
record_size Plain = 182
record_size Marked = 205
record_size Listed = 182

-- each block has as many bytes as any other
abbrev pub HasSize : Form → Type 0
HasSize form = form ≢ Listed

-- the bytes of a block; a listed one has as many at least
abbrev pub block_size : Form → ℕ
block_size Plain = 37_856
block_size Marked = 42_640
block_size Listed = 37_858

-- the bytes of the block that begins so
abbrev pub unit_size : Form → List ℕ → ℕ
unit_size Plain bytes = 37_856
unit_size Marked bytes = 42_640
unit_size Listed bytes = listed_size bytes

-- no rule is broken in these bytes
abbrev pub BreaksNoRule : Form → List ℕ → Type 0
BreaksNoRule Plain bytes = ⊤
BreaksNoRule Marked bytes = ⊤
BreaksNoRule Listed bytes = IsUnbroken bytes

-- the bytes of recorded row m
abbrev pub record_of : Form → List ℕ → ℕ → List ℕ
record_of form bytes m = take (record_size form) (drop (record_size form * m) bytes)

-- the marks of recorded row m
abbrev pub record_marks : Form → List ℕ → ℕ → List Bool
record_marks Plain bytes m = replicate 182 false
record_marks Marked bytes m = marks_of (drop 182 (record_of Marked bytes m))
record_marks Listed bytes m = listed_row bytes m

-- the marks in a recorded row by itself; in the listed form they come after the rows
abbrev pub marks_in : Form → List ℕ → List Bool
marks_in Plain record_bytes = replicate 182 false
marks_in Marked record_bytes = marks_of (drop 182 record_bytes)
marks_in Listed record_bytes = replicate 182 false

-- the rows of a block in the order of the block; row i is recorded row `record_at i`
unfoldable pub captured_rows : Form → List ℕ → List (List ℕ)
captured_rows form bytes = map (λ i. take 182 (record_of form bytes (record_at i))) (range_with_len 0 208)

-- and their marks
unfoldable pub captured_marks : Form → List ℕ → List (List Bool)
captured_marks form bytes = map (λ i. record_marks form bytes (record_at i)) (range_with_len 0 208)

-- a source lost the bytes of one block, which break no rule, and these are its rows and marks
pub record Captures (form : Form) (old new : Bytes) (rows : List (List ℕ)) (marks : List (List Bool)) : Type 0 where
  pub bytes : List ℕ
  pub size : length bytes ≡ unit_size form bytes
  pub valid : BreaksNoRule form bytes
  pub taken : Consumes old new bytes
  pub rows_are : rows ≡ captured_rows form bytes
  pub marks_are : marks ≡ captured_marks form bytes

-- a source lost so many bytes, fewer than their block has, which break no rule, and has none left
pub record EndsAfter (form : Form) (old new : Bytes) (count : ℕ) : Type 0 where
  pub bytes : List ℕ
  pub size : length bytes ≡ count
  pub taken : Consumes old new bytes
  pub fewer : count < unit_size form bytes
  pub valid : BreaksNoRule form bytes
  pub at_end : IsAtEnd new

-- a source lost fewer bytes than their block has
pub record FailsWithin (form : Form) (old new : Bytes) : Type 0 where
  pub bytes : List ℕ
  pub taken : Consumes old new bytes
  pub fewer : length bytes < unit_size form bytes

-- a source lost bytes in which a rule is broken, first at that offset; only the listed form has rules
pub record BreaksAt (form : Form) (old new : Bytes) (at : ℕ) : Type 0 where
  pub listed : form ≡ Listed
  pub bytes : List ℕ
  pub taken : Consumes old new bytes
  pub broken : IsBrokenAt bytes at

-- These are the listed unit of a block with these rows and marks: one unit that breaks no rule, whose fields have
-- bytes. There is one such unit.
pub record IsUnitOf (rows : List (List ℕ)) (marks : List (List Bool)) (unit : List ℕ) : Type 0 where
  pub size : length unit ≡ listed_size unit
  pub valid : IsUnbroken unit
  pub rows_are : captured_rows Listed unit ≡ rows
  pub marks_are : captured_marks Listed unit ≡ marks
  pub fields : (offset : ℕ) → 37_856 ≤ offset → slice_index unit offset < 256
