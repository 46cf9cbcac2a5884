-- Data frames (ECMA-267, 16) of 2,064 bytes, with their Main Data scrambled (17).
use Rattle.std.specs.Prelude.{◌≡◌, ℕ, List, ◌++◌, take, drop, not, if◌then◌else◌, Some, None, Result, IfErr, OnErr, OnOk}
use Rattle.std.specs.Int.{from_be_bytes, w32}
use Rattle.std.specs.Str.{bytes_eq}
use Rattle.std.specs.declared.option.Option.{Option}
use Rattle.dvd_frame.specs.Id.{word_bytes, ied_of, has_check, is_same_place}
use Rattle.dvd_frame.specs.Edc.{edc_of}
use Rattle.dvd_frame.specs.Scrambling.{masked}
use Rattle.dvd_frame.specs.declared.scrambling.Rule.{Rule}
use Rattle.dvd_frame.specs.declared.reading.FrameCause.{FrameCause}
use Rattle.dvd_frame.specs.declared.reading.FrameCause.TheVariants.{Ied, Address, Edc}

-- ID, IED and CPR_MAI, the first twelve bytes
abbrev pub frame_head : ℕ → List ℕ → List ℕ
frame_head word cpr = word_bytes word ++ ied_of word ++ cpr

-- The frame of an ID word, six bytes CPR_MAI and 2,048 bytes Main Data. Its EDC is that of the bytes before scrambling.
abbrev pub data_frame : ℕ → List ℕ → Rule → List ℕ → List ℕ
data_frame word cpr rule main = frame_head word cpr ++ masked word rule main ++ edc_of (frame_head word cpr ++ main)

-- the ID word of a frame as it was read
abbrev pub found_word : List ℕ → ℕ
found_word frame = from_be_bytes w32 (take 4 frame)

-- its Main Data, unscrambled: masked twice they are as they were
abbrev pub main_in : List ℕ → Rule → List ℕ
main_in frame rule = masked (found_word frame) rule (take 2048 (drop 12 frame))

-- Why a frame isn't the one that is wanted: a wrong IED, another place, or a wrong EDC, the first that applies.
unfoldable pub frame_cause : List ℕ → ℕ → Rule → Option FrameCause
frame_cause frame want rule =
    if not (has_check (take 6 frame)) then Some Ied
    else if not (is_same_place (found_word frame) want) then Some (Address (found_word frame))
    else if not (bytes_eq (drop 2060 frame) (edc_of (take 12 frame ++ main_in frame rule))) then Some Edc
    else None

-- A frame was read as one that is wanted: its Main Data are there, or it has a first cause and nothing changed.
pub record IsFrameRead (frame : List ℕ) (want : ℕ) (rule : Rule) (old new : List ℕ) (answer : Result (Unit {0}) FrameCause) : Type 0 where
  pub refused : IfErr answer (λ cause. frame_cause frame want rule ≡ Some cause)
  pub right : OnOk answer (frame_cause frame want rule ≡ None)
  pub main : OnOk answer (new ≡ main_in frame rule)
  pub same : OnErr answer (new ≡ old)
