-- Recording frames (ECMA-267, 19) as they were captured. A frame has thirteen recorded rows, one after the other.
use Rattle.std.specs.Prelude.{◌≡◌, ℕ, ◌*◌, ◌<◌, Bool, List, length, map, take}
use Rattle.std.specs.List.{range_with_len}
use Rattle.dvd_ports.specs.Bytes.{Bytes, Consumes, IsAtEnd}
use Rattle.dvd_capture.specs.Captured.{marks_in, record_of, record_size}
use Rattle.dvd_capture.specs.declared.form.Form.{Form}

-- Ours: a captured frame: its thirteen rows, and the marks of each
pub record Frame : Type 0 where
  pub rows : List (List ℕ)
  pub marks : List (List Bool)

-- Ours: the bytes of a frame
abbrev pub frame_size : Form → ℕ
frame_size form = 13 * record_size form

-- Ours: the frame in these bytes
unfoldable pub frame_in : Form → List ℕ → Frame
frame_in form bytes = record {
  rows = map (λ q. take 182 (record_of form bytes q)) (range_with_len 0 13);
  marks = map (λ q. marks_in form (record_of form bytes q)) (range_with_len 0 13);
}

-- Ours: a source lost the bytes of one frame, and this is the frame
pub record CapturesFrame (form : Form) (old new : Bytes) (frame : Frame) : Type 0 where
  pub bytes : List ℕ
  pub size : length bytes ≡ frame_size form
  pub taken : Consumes old new bytes
  pub frame_is : frame ≡ frame_in form bytes

-- Ours: a source lost so many bytes, fewer than a frame has, and has none left
pub record FrameEndsAfter (form : Form) (old new : Bytes) (count : ℕ) : Type 0 where
  pub bytes : List ℕ
  pub size : length bytes ≡ count
  pub taken : Consumes old new bytes
  pub fewer : count < frame_size form
  pub at_end : IsAtEnd new
