-- What holds of blocks in turn.
use Rattle.std.specs.Prelude.{◌≡◌, ℕ, ◌*◌, ◌<◌, ◌≤◌, ◌^◌, ◌-◌, true, List, length, replicate, slice_index_or, Some}
use Rattle.dvd_ports.specs.Bytes.{Appends}
use Rattle.cap_interleave.specs.Blocks.{CaptureBytes, Task, capture_block, lost_block, units_of}
use Rattle.cap_interleave.specs.Interleaved.{IsInterleaved}
use Rattle.cap_interleave.specs.declared.ends.InterleaveEnd.{InterleaveEnd}
use Rattle.cap_interleave.specs.declared.ends.InterleaveEnd.TheVariants.{Done, ReadFault, WriteFault}
use Rattle.dvd_capture.specs.Captured.{captured_marks}
use Rattle.dvd_capture.specs.declared.form.Form.TheVariants.{Marked}
use Rattle.dvd_ports.specs.Seen.{Seen}

-- A block that is marked whole has a mark at each byte of its 208 rows.
abbrev pub LostBlockIsMarkedWhole : Type 0
LostBlockIsMarkedWhole = captured_marks Marked lost_block ≡ replicate 208 (replicate 182 true)

-- Where each capture has n blocks, the bytes are in the order in which `dvdecc merge` reads them: the output is cut
-- into units of one block of each capture, and place c of unit k is block k of capture c.
abbrev pub BlocksAreInMergeOrder : Type 0
BlocksAreInMergeOrder =
    (task : Task) (captures : CaptureBytes) (n k c : ℕ) → (task.fill ≡ true → task.size ≡ length lost_block)
    → ((b : ℕ) → b < task.count → task.size * n ≤ length (captures b)) → k < n → c < task.count
    → capture_block task.size c (capture_block (task.count * task.size) k (units_of task captures n)) ≡ capture_block task.size k (captures c)

-- no fault ended it
abbrev pub IsFaultless : InterleaveEnd → Type 0
IsFaultless (ReadFault c) = ⊥
IsFaultless WriteFault = ⊥
IsFaultless end = Unit {0}

-- Captures of the same number of whole blocks, fewer than 2 ^ 32 - 1, are written whole where no stream failed.
abbrev pub WholeCapturesComeWhole : {S : Type 0} → (S → Seen) → Type 0
WholeCapturesComeWhole {S} seen =
    (task : Task) (olds news : List S) (old new : Seen) (end : InterleaveEnd) (captures : CaptureBytes) (n : ℕ)
    → ((c : ℕ) (d : S) → c < task.count → (seen (slice_index_or olds c d)).bytes.left ≡ Some (captures c))
    → ((c : ℕ) → c < task.count → length (captures c) ≡ task.size * n) → 0 < task.size → 0 < task.count → task.count ≤ length olds → n < 2 ^ 32 - 1
    → IsInterleaved seen task olds news old new end → IsFaultless end → (end ≡ Done) × Appends old.bytes new.bytes (units_of task captures n)
