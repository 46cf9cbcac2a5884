-- What the contracts see of a captured frame.
use Rattle.std.specs.Prelude.{ℕ, Bool, List, map}
use Rattle.dvd_capture.specs.Parts.{marks_of_row}
use Rattle.dvd_assemble.specs.Frames.{Frame}
use Rattle.dvd_assemble.specs.declared.frame.FrameWork.{FrameWork}

-- its thirteen rows of 182 bytes
abbrev pub frame_rows : FrameWork → List (List ℕ)
frame_rows work = work.rows

-- their marks
abbrev pub frame_marks : FrameWork → List (List Bool)
frame_marks work = map marks_of_row work.marks

-- both
abbrev pub captured : FrameWork → Frame
captured work = record { rows = frame_rows work; marks = frame_marks work }
