-- What is answered to a rule's number and of a data frame.
use Rattle.std.specs.Prelude.{ℕ, List, ◌==◌, if◌then◌else◌}
use Rattle.std.specs.declared.option.Option.{Option}
use Rattle.std.specs.declared.option.Option.TheVariants.{Some, None}
use Rattle.dvd_frame.specs.Frame.{data_frame, frame_cause, main_in}
use Rattle.dvd_frame.specs.Scrambling.{masked}
use Rattle.dvd_frame.specs.declared.reading.FrameCause.{FrameCause}
use Rattle.dvd_frame.specs.declared.reading.FrameCause.TheVariants.{Ied, Address, Edc}
use Rattle.dvd_frame.specs.declared.scrambling.Rule.{Rule}
use Rattle.dvd_frame.specs.declared.scrambling.Rule.TheVariants.{Whole, Off, First160}
use Rattle.dvdecc_c.specs.declared.status.TheConstants.{OK, BAD_RULE, IED, ID, EDC}

-- the rule of a number
abbrev pub rule_numbered : ℕ → Option Rule
rule_numbered number =
    if number == 0 then Some Whole else if number == 1 then Some Off else if number == 2 then Some First160 else None

-- the status by the rule alone
abbrev pub rule_status : Option Rule → ℕ
rule_status None = BAD_RULE
rule_status (Some rule) = OK

-- Main Data scrambled by a rule, if there is one
abbrev pub with_scrambling : Option Rule → ℕ → List ℕ → List ℕ
with_scrambling None id main = main
with_scrambling (Some rule) id main = masked id rule main

-- the frame of a rule, if there is one, or what was in its place
abbrev pub frame_or : Option Rule → ℕ → List ℕ → List ℕ → List ℕ → List ℕ
frame_or None id cpr main before = before
frame_or (Some rule) id cpr main before = data_frame id cpr rule main

-- the status of a cause
abbrev pub cause_status : Option FrameCause → ℕ
cause_status None = OK
cause_status (Some Ied) = IED
cause_status (Some (Address found)) = ID
cause_status (Some Edc) = EDC

-- the status of a frame that was read by a rule, if there is one
abbrev pub reading_status : Option Rule → List ℕ → ℕ → ℕ
reading_status None frame id = BAD_RULE
reading_status (Some rule) frame id = cause_status (frame_cause frame id rule)

-- what is in place of Main Data: those of the frame, if it has no cause
abbrev pub main_or : Option FrameCause → List ℕ → List ℕ → List ℕ
main_or None main before = main
main_or (Some cause) main before = before

-- the same of a frame that was read by a rule, if there is one
abbrev pub with_main : Option Rule → List ℕ → ℕ → List ℕ → List ℕ
with_main None frame id before = before
with_main (Some rule) frame id before = main_or (frame_cause frame id rule) (main_in frame rule) before

-- the ID word that is reported: that of another place
abbrev pub found_or : Option FrameCause → ℕ → ℕ
found_or None before = before
found_or (Some Ied) before = before
found_or (Some (Address found)) before = found
found_or (Some Edc) before = before

-- the same of a frame that was read by a rule, if there is one
abbrev pub with_found : Option Rule → List ℕ → ℕ → ℕ → ℕ
with_found None frame id before = before
with_found (Some rule) frame id before = found_or (frame_cause frame id rule) before
