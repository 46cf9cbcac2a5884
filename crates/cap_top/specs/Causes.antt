-- Why lines of the inputs aren't accepted, and the words that reports have for it.
use Rattle.std.specs.Prelude.{ℕ, List, ◌++◌, codes, decimal}
use Rattle.cap_lost.specs.declared.fault.ReportCause.TheVariants as report_causes
use Rattle.cap_map.specs.declared.fault.MapCause.TheVariants as map_causes
use Rattle.cap_survey.specs.declared.fault.SurveyCause.TheVariants as survey_causes
use Rattle.cap_top.specs.declared.causes.LineCause.{LineCause}
use Rattle.cap_top.specs.declared.causes.LineCause.TheVariants as causes

-- what the input is called
abbrev pub input_name : LineCause → List ℕ
input_name (causes.Map cause) = codes "map"
input_name (causes.Report cause) = codes "report"
input_name (causes.Survey cause) = codes "survey"

-- the words of the rule that the line breaks
abbrev pub cause_text : LineCause → List ℕ
cause_text (causes.Map map_causes.State) = codes "no state"
cause_text (causes.Map map_causes.Fields) = codes "fields"
cause_text (causes.Map map_causes.Number) = codes "number"
cause_text (causes.Map map_causes.Status) = codes "status"
cause_text (causes.Map map_causes.Empty) = codes "empty"
cause_text (causes.Map map_causes.TooLong) = codes "too long"
cause_text (causes.Map map_causes.Gap) = codes "gap"
cause_text (causes.Map map_causes.Overlap) = codes "overlap"
cause_text (causes.Report report_causes.Line) = codes "not a report line"
cause_text (causes.Report report_causes.Block) = codes "no such block"
cause_text (causes.Report report_causes.Place) = codes "other place"
cause_text (causes.Report report_causes.NoImage) = codes "no image sectors"
cause_text (causes.Report report_causes.Order) = codes "out of order"
cause_text (causes.Report report_causes.Count) = codes "wrong count"
cause_text (causes.Report report_causes.Fault) = codes "ended by a fault"
cause_text (causes.Report report_causes.AfterEnd) = codes "after the end"
cause_text (causes.Report report_causes.NoEnd) = codes "no closing line"
cause_text (causes.Survey survey_causes.Form) = codes "form"
cause_text (causes.Survey survey_causes.Order) = codes "order"
cause_text (causes.Survey survey_causes.Range) = codes "range"
cause_text (causes.Survey survey_causes.Sum8) = codes "sum8"
cause_text (causes.Survey survey_causes.TooMany) = codes "too many"
cause_text (causes.Survey survey_causes.Totals) = codes "totals"
cause_text (causes.Survey survey_causes.After) = codes "after"

-- the line of a run with an input, a line of which breaks a rule
abbrev pub rule_line : LineCause → ℕ → List ℕ
rule_line cause number = input_name cause ++ codes ": line " ++ decimal number ++ codes ": " ++ cause_text cause ++ codes "\n"
