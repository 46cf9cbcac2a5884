-- The reading of a survey, and the writing of its picture.
use Rattle.std.specs.Prelude.{◌≡◌, ℕ, true, false, List, Ok, Err}
use Rattle.dvd_ports.specs.Bytes.{Appends, Consumes, IsAtEnd}
use Rattle.cap_survey.specs.Survey.{Ended, next_line, survey_of}
use Rattle.cap_survey.specs.declared.fault.Fault.{Fault}
use Rattle.cap_draw.specs.Picture.{picture}
use Rattle.cap_draw.specs.declared.drawing.DrawEnd.{DrawEnd}
use Rattle.cap_draw.specs.declared.drawing.DrawEnd.TheVariants.{Done, NoMemory, ReadFault, Rule, Short, WriteFault}
use Rattle.dvd_ports.specs.Causes.{HasFailed, HasGoneOn, HasMetEnd}
use Rattle.dvd_ports.specs.Seen.{Seen}
use Rattle.dvd_ports.specs.Whole.{AppendsPrefix}

-- These are all bytes of a source, where they are known, and the survey in them is this. No read failed, and none came
-- after the end.
pub record HasRead (old new : Seen) (ended : Ended) : Type 0 where
  pub text : List ℕ
  pub reads : Consumes old.bytes new.bytes text
  pub at_end : IsAtEnd new.bytes
  pub met : HasMetEnd old new
  pub says : survey_of text ≡ Ok ended

-- what was read of the survey breaks a rule
pub record BreaksSurvey (old new : Seen) (fault : Fault) : Type 0 where
  pub text : List ℕ
  pub reads : Consumes old.bytes new.bytes text
  pub says : survey_of text ≡ Err fault

-- why a survey isn't read to its end
abbrev pub IsSurveyStop : Seen → Seen → DrawEnd → Type 0
IsSurveyStop old new ReadFault = HasFailed old new
IsSurveyStop old new (Rule fault) = BreaksSurvey old new fault
IsSurveyStop old new other = ⊥

-- the picture is written as a whole
pub record HasAll (most : ℕ) (ended : Ended) (old new : Seen) : Type 0 where
  pub written : Appends old.bytes new.bytes (picture ended.read.cells ended.read.closed most)
  pub on : HasGoneOn old new

-- what was written of the picture, by the end: it is Done where the line of totals came, and else Short
abbrev pub HasWritten : ℕ → Ended → Seen → Seen → DrawEnd → Type 0
HasWritten most ended old new Done = HasAll most ended old new × (ended.read.closed ≡ true)
HasWritten most ended old new (Short line bytes) =
    HasAll most ended old new × (ended.read.closed ≡ false) × (line ≡ next_line ended.read) × (bytes ≡ ended.left)
HasWritten most ended old new WriteFault =
    AppendsPrefix old.bytes new.bytes (picture ended.read.cells ended.read.closed most) × HasFailed old new
HasWritten most ended old new other = ⊥

-- a survey is read to its end, and its picture written
pub record HasBoth (most : ℕ) (source new_source out new_out : Seen) (end : DrawEnd) : Type 0 where
  pub ended : Ended
  pub read : HasRead source new_source ended
  pub wrote : HasWritten most ended out new_out end

-- THE DRAWING, by its end.
abbrev pub HasDrawn : ℕ → Seen → Seen → Seen → Seen → Type 0 → Type 0 → DrawEnd → Type 0
HasDrawn most source new_source out new_out SourceSame OutSame NoMemory = SourceSame × OutSame
HasDrawn most source new_source out new_out SourceSame OutSame ReadFault = HasFailed source new_source × OutSame
HasDrawn most source new_source out new_out SourceSame OutSame (Rule fault) = BreaksSurvey source new_source fault × OutSame
HasDrawn most source new_source out new_out SourceSame OutSame end = HasBoth most source new_source out new_out end
