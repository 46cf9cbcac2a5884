-- Ours: captured blocks in a stream, as units of a command: how the bytes of one begin, where each is, and what is done
-- for one by its entry of the plan.
use Rattle.std.specs.Prelude.{◌≡◌, ℕ, zero, suc, ◌+◌, ◌*◌, ◌-◌, ◌<◌, nat_le, nat_lt, ◌==◌, ◌&&◌, ◌||◌, if◌then◌else◌, Bool, List, [], length, take, drop, slice_get, Option, Some, None}
use Rattle.dvd_capture.specs.Captured.{block_size, captured_marks, captured_rows, unit_size}
use Rattle.dvd_capture.specs.Listed.{end_of, length_of, listed_size, run_count, start_of}
use Rattle.dvd_capture.specs.declared.form.Form.{Form}
use Rattle.dvd_capture.specs.declared.form.Form.TheVariants.{Plain, Marked, Listed}
use Rattle.dvd_layout.specs.Plan.{plan_of}
use Rattle.dvd_layout.specs.declared.entry.BlockPlan.{BlockPlan}
use Rattle.dvd_layout.specs.declared.entry.Content.{Content}
use Rattle.dvd_layout.specs.declared.entry.Content.TheVariants.{Zero, Reference, Control, Image}
use Rattle.dvd_layout.specs.declared.layout.Layout.{Layout}
use Rattle.dvd_layout.specs.declared.layout.Zones.{Zones}
use Rattle.dvd_loop.specs.Machine.{Prefix, Step, Units, sized}
use Rattle.dvd_loop.specs.Machine.Prefix.{Whole, Broken}
use Rattle.dvd_loop.specs.declared.ends.AfterLast.TheVariants.{EndOfInput}
use Rattle.dvd_loop.specs.Laws.{IsDamageEnd, IsSearchEnd}
use Rattle.dvd_loop.specs.declared.ends.LoopEnd.{LoopEnd}
use Rattle.dvd_loop.specs.declared.ends.LoopEnd.TheVariants.{BadMarks}
use Rattle.dvd_loop.specs.declared.ends.UnitKind.{UnitKind}
use Rattle.dvd_loop.specs.declared.ends.UnitKind.TheVariants.{Good}

-- the first of two offsets, where there are such
abbrev pub or_later : Option ℕ → Option ℕ → Option ℕ
or_later (Some at) later = Some at
or_later None later = later

-- the field of run i that is wholly in these bytes and breaks a rule: its start, or else its length
abbrev pub broken_in_run : List ℕ → ℕ → Option ℕ
broken_in_run bytes i =
    if nat_le (37_860 + 4 * i) (length bytes) && (nat_le 37_856 (start_of bytes i) || (nat_lt 0 i && nat_le (start_of bytes i) (end_of bytes (i - 1))))
    then Some (37_858 + 4 * i)
    else if nat_le (37_862 + 4 * i) (length bytes) && (length_of bytes i == 0 || nat_lt 37_856 (end_of bytes i)) then Some (37_860 + 4 * i) else None

-- the first such field of the number and of the first n runs
unfoldable pub broken_among : List ℕ → ℕ → Option ℕ
broken_among bytes zero = if nat_le 37_858 (length bytes) && nat_lt 18_928 (run_count bytes) then Some 37_856 else None
broken_among bytes (suc n) = or_later (broken_among bytes n) (broken_in_run bytes n)

-- The offset at which the bytes of a listed block break a rule. By a law it is that of `IsBrokenAt`, the least, and
-- there is none exactly where they are `IsUnbroken`.
abbrev pub broken_at : List ℕ → Option ℕ
broken_at bytes = broken_among bytes (run_count bytes)

-- how the bytes of a listed block begin, by where they break a rule
abbrev pub listed_part : Option ℕ → List ℕ → Prefix
listed_part (Some at) bytes = Broken at
listed_part None bytes = sized (listed_size bytes) bytes

-- how the bytes of a captured block begin: a whole block, too few bytes, or a rule that a listed block breaks
abbrev pub captured_part : Form → List ℕ → Prefix
captured_part Plain bytes = sized (block_size Plain) bytes
captured_part Marked bytes = sized (block_size Marked) bytes
captured_part Listed bytes = listed_part (broken_at bytes) bytes

-- a number of captured blocks; what may be done for each depends on its number and its bytes; nothing opens or closes
-- them, and the input has to end after the last
abbrev pub captured_units : ℕ → Form → (ℕ → List ℕ → List Step → UnitKind → Type 0) → Units
captured_units count form does = record {
  count = count;
  begins = λ k. captured_part form;
  opens = [];
  does = λ k before. does k;
  closes = λ before steps. steps ≡ [];
  after_last = EndOfInput;
}

-- where captured block k begins
unfoldable pub block_start : Form → List ℕ → ℕ → ℕ
block_start form bytes zero = 0
block_start form bytes (suc k) = block_start form bytes k + unit_size form (drop (block_start form bytes k) bytes)

-- all bytes from the first of captured block k on
abbrev pub from_block : Form → List ℕ → ℕ → List ℕ
from_block form bytes k = drop (block_start form bytes k) bytes

-- the bytes of captured block k
abbrev pub block_bytes : Form → List ℕ → ℕ → List ℕ
block_bytes form bytes k = take (unit_size form (from_block form bytes k)) (from_block form bytes k)

-- the bytes have the first n captured blocks, each whole and breaking no rule
abbrev pub HasBlocks : Form → List ℕ → ℕ → Type 0
HasBlocks form bytes n = (j : ℕ) → j < n → captured_part form (from_block form bytes j) ≡ Whole (unit_size form (from_block form bytes j))

-- the ends of a loop over a number of captured blocks of this form: a listed block may break a rule
abbrev pub IsCaptureEnd : Form → ℕ → LoopEnd → Type 0
IsCaptureEnd form count (BadMarks block at) = (form ≡ Listed) × (block < count)
IsCaptureEnd form count end = IsDamageEnd count end

-- those of a loop that looks for a first block
abbrev pub IsSoughtEnd : Form → ℕ → LoopEnd → Type 0
IsSoughtEnd form count (BadMarks block at) = (form ≡ Listed) × (block < count)
IsSoughtEnd form count end = IsSearchEnd count end

-- What is done for captured block k, whose bytes are its own: what this relation says, by its entry and by the rows and
-- marks of the block.
pub record IsDoneByEntry (entries : List BlockPlan) (Performs : BlockPlan → List (List ℕ) → List (List Bool) → List Step → UnitKind → Type 0) (form : Form) (k : ℕ) (own : List ℕ) (steps : List Step) (kind : UnitKind) : Type 0 where
  pub entry : BlockPlan
  pub is_there : slice_get entries k ≡ Some entry
  pub does : Performs entry (captured_rows form own) (captured_marks form own) steps kind

-- nothing is done for a block that is passed over
abbrev pub IsPassedOver : List Step → UnitKind → Type 0
IsPassedOver steps kind = (steps ≡ []) × (kind ≡ Good)

-- this is done for a block that holds image; any other is passed over
abbrev pub IfImage : (List Step → UnitKind → Type 0) → Content → List Step → UnitKind → Type 0
IfImage Performs (Image sector) steps kind = Performs steps kind
IfImage Performs Zero steps kind = IsPassedOver steps kind
IfImage Performs Reference steps kind = IsPassedOver steps kind
IfImage Performs Control steps kind = IsPassedOver steps kind

-- the same by the entry of a block, and by its rows and marks
abbrev pub ForImage : (BlockPlan → List (List ℕ) → List (List Bool) → List Step → UnitKind → Type 0) → BlockPlan → List (List ℕ) → List (List Bool) → List Step → UnitKind → Type 0
ForImage Performs entry rows marks = IfImage (Performs entry rows marks) entry.content

-- the captured blocks of a plan, where this is done for each that holds image, by its layout and its number
abbrev pub image_units : (Layout → ℕ → BlockPlan → List (List ℕ) → List (List Bool) → List Step → UnitKind → Type 0) → Layout → Zones → Form → Units
image_units Performs layout zones form =
    captured_units (length (plan_of layout zones)) form (λ k. IsDoneByEntry (plan_of layout zones) (ForImage (Performs layout k)) form k)
