-- What the private calls of the commands promise: what is read and written for one block.
use Rattle.std.specs.Prelude.{◌≡◌, ◌⊎◌, ◌<◌, ℕ, ◌+◌, ◌*◌, Bool, true, is_some, List, [], ◌∷◌, ◌++◌, length, take, None, Result, Ok, Err}
use Rattle.std.specs.List.{flat_map}
use Rattle.dvd_ports.specs.Bytes.{Bytes, Consumes, IsAtEnd}
use Rattle.coding.specs.Product.{line}
use Rattle.dvd_capture.specs.Captured.{block_size}
use Rattle.dvd_capture.specs.declared.capture.FetchAnswer.{FetchAnswer}
use Rattle.dvd_capture.specs.declared.capture.FetchAnswer.TheVariants as answers
use Rattle.dvd_capture.specs.declared.capture.FetchAnswer.TheVariants.{End, Full}
use Rattle.dvd_capture.specs.declared.form.Form.{Form}
use Rattle.dvd_control.specs.Format.{Fields, control_fault, fields_in}
use Rattle.dvd_layout.specs.declared.entry.BlockPlan.{BlockPlan}
use Rattle.dvd_layout.specs.declared.layout.Layout.{Layout}
use Rattle.dvd_loop.specs.Machine.{EndsWithin, Step}
use Rattle.dvd_loop.specs.Machine.Step.{Report, Write}
use Rattle.dvd_loop.specs.declared.ends.UnitKind.{UnitKind}
use Rattle.dvd_loop.specs.declared.ends.UnitKind.TheVariants.{Bad, Good}
use Rattle.dvd_commands.specs.Info.{GivesNoFormat}
use Rattle.dvd_loop.specs.Streams.{AreKnown}
use Rattle.dvd_loop.specs.declared.ends.LoopEnd.{LoopEnd}
use Rattle.dvd_loop.specs.declared.ends.LoopEnd.TheVariants.{BadMarks, ReadFault, Short}
use Rattle.dvd_merge.specs.Join.{Table, joined}
use Rattle.dvd_ports.specs.Seen.{Seen}
use Rattle.dvd_decoding.specs.Reading.{IsReadAs, block_cause}
use Rattle.dvd_report.specs.Survey.{survey_line, surveyed}
use Rattle.dvd_report.specs.declared.counts.Surveyed.{Surveyed}
use Rattle.dvd_commands.specs.Merge.{tables_in}
use Rattle.coding.specs.TwoPass.{answers_of}
use Rattle.dvd_deep.specs.Reading.{IsDeep}
use Rattle.dvd_layout.specs.Place.{image_sectors}
use Rattle.dvd_decoding.specs.Causes.{two_pass_cause}
use Rattle.dvd_decoding.specs.Salvage.{block_out, saved_in}
use Rattle.dvd_decoding.specs.declared.cause.Cause.{Cause}
use Rattle.dvd_report.specs.Lines.{damage_line}
use Rattle.dvd_commands.specs.Survey.{kind_by}
use Rattle.dvd_commands.specs.Captured.{captured_part}

-- A source gave a part of captured block k, and the loop ends there; these bytes are left, where they are known.
pub record EndsCaptured (form : Form) (k : ℕ) (old new : Seen) (end : LoopEnd) : Type 0 where
  pub own : List ℕ
  pub left : List ℕ
  pub reads : Consumes old.bytes new.bytes own
  pub known : AreKnown new.bytes left
  pub ends : EndsWithin (captured_part form own) k (length own) left end

-- how the loop goes on where this was answered of unit k
abbrev pub fetched : FetchAnswer → ℕ → Result (Unit {0}) LoopEnd
fetched Full k = Ok tt
fetched End k = Err (Short k 0)
fetched (answers.Short bytes) k = Err (Short k bytes)
fetched answers.ReadFault k = Err ReadFault
fetched (answers.BadMarks at) k = Err (BadMarks k at)

-- the first sectors, this many, one after the other
abbrev pub sectors_out : ℕ → List (List ℕ) → List ℕ
sectors_out count sectors = flat_map (λ sector. sector) (take count sectors)

-- these bytes are written, and the unit is of this kind
abbrev pub WritesAlone : List ℕ → UnitKind → List Step → UnitKind → Type 0
WritesAlone bytes is steps kind = (steps ≡ Write bytes ∷ []) × (kind ≡ is)

-- a line is reported, these bytes are written, and the unit is of this kind
abbrev pub ReportsAndWrites : List ℕ → List ℕ → UnitKind → List Step → UnitKind → Type 0
ReportsAndWrites line bytes is steps kind = (steps ≡ Report line ∷ Write bytes ∷ []) × (kind ≡ is)

-- what is done for a block that is refused for this cause
abbrev pub IsRefusedFor : Layout → ℕ → BlockPlan → List (List ℕ) → List (List Bool) → Cause → List Step → UnitKind → Type 0
IsRefusedFor layout k entry rows marks cause =
    ReportsAndWrites (damage_line k entry cause (saved_in rows marks entry)) (sectors_out (image_sectors layout entry.content) (block_out rows marks entry)) Bad

-- what rounds give of a block that two passes refused: these bytes begin with its image sectors, and its frames are
-- right
pub record IsFoundBy (layout : Layout) (entry : BlockPlan) (rows : List (List ℕ)) (marks : List (List Bool)) (bytes : List ℕ) (round : ℕ) : Type 0 where
  pub sectors : List (List ℕ)
  pub read : IsDeep rows marks entry round sectors
  pub refused : is_some (two_pass_cause (answers_of rows marks)) ≡ true
  pub first : take (2048 * image_sectors layout entry.content) bytes ≡ sectors_out (image_sectors layout entry.content) sectors

-- a block of control data has this physical format
pub record GivesFormat (entry : BlockPlan) (rows : List (List ℕ)) (marks : List (List Bool)) (format : Fields) : Type 0 where
  pub sectors : List (List ℕ)
  pub read : IsReadAs rows marks entry sectors
  pub valid : control_fault (line sectors 0) ≡ None
  pub fields : format ≡ fields_in (line sectors 0)

-- or it has none
abbrev pub AnswersNothing : BlockPlan → List (List ℕ) → List (List Bool) → Type 0
AnswersNothing entry rows marks = GivesNoFormat entry rows marks [] Good

-- what is done for a block that is surveyed after those
pub record IsLineDone (entry : BlockPlan) (blocks : List Surveyed) (rows : List (List ℕ)) (marks : List (List Bool)) (steps : List Step) (kind : UnitKind) : Type 0 where
  pub writes : steps ≡ Write (survey_line (length blocks) entry (blocks ++ surveyed rows marks entry ∷ [])) ∷ []
  pub answers : kind ≡ kind_by (block_cause rows marks entry)

-- A source gave the captures of a block, and this is the join of what they know of it.
pub record AreTaken (captures : ℕ) (form : Form) (old new : Bytes) (table : Table) : Type 0 where
  pub bytes : List ℕ
  pub size : length bytes ≡ captures * block_size form
  pub taken : Consumes old new bytes
  pub joins : table ≡ joined (tables_in captures form bytes)

-- A source gave a part of a captured block, which begins after `held` bytes of unit k, and the loop ends there.
pub record EndsInCapture (k held size : ℕ) (old new : Seen) (end : LoopEnd) : Type 0 where
  pub own : List ℕ
  pub reads : Consumes old.bytes new.bytes own
  pub fewer : length own < size
  pub ends : ((end ≡ Short k (held + length own)) × IsAtEnd new.bytes) ⊎ (end ≡ ReadFault)
