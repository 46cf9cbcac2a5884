-- The command `assemble` (ours): unit k is a recording frame (ECMA-267, 19). Frames come in any order, with repeats and
-- gaps. Nothing is written before all have come. Then each data block is written in the marked form, as the join of all
-- frames whose first rows name it. A line reports how many frames have a home and how many are strays.
use Rattle.std.specs.Prelude.{◌≡◌, ℕ, ◌-◌, List, [], ◌∷◌, ◌++◌, codes, decimal, length, map}
use Rattle.std.specs.List.{flat_map, sum_by}
use Rattle.std.specs.Option.{option_map_or}
use Rattle.dvd_assemble.specs.Assembled.{assembled}
use Rattle.dvd_assemble.specs.Frames.{Frame, frame_in, frame_size}
use Rattle.dvd_assemble.specs.Home.{home}
use Rattle.dvd_capture.specs.declared.form.Form.{Form}
use Rattle.dvd_layout.specs.declared.layout.Layout.{Layout}
use Rattle.dvd_loop.specs.Laws.{IsPlainEnd}
use Rattle.dvd_loop.specs.Machine.{Step, Units, sized}
use Rattle.dvd_loop.specs.Machine.Step.{Report, Write}
use Rattle.dvd_loop.specs.declared.ends.AfterLast.TheVariants.{EndOfInput}
use Rattle.dvd_loop.specs.declared.ends.LoopEnd.{LoopEnd}
use Rattle.dvd_loop.specs.declared.ends.LoopEnd.TheVariants.{ReportFault}
use Rattle.dvd_loop.specs.declared.ends.UnitKind.TheVariants.{Good}
use Rattle.dvd_merge.specs.Join.{Table}
use Rattle.dvd_merge.specs.MarkedText.{marked_text}
use Rattle.dvd_commands.specs.Meaning.{Meaning, by_layout}

-- the captured frames of these bytes
unfoldable pub frames_in : Form → List (List ℕ) → List Frame
frames_in form units = map (frame_in form) units

-- how many of them have a home: a block that their first row names
unfoldable pub placed_of : Layout → List Frame → ℕ
placed_of layout frames = sum_by (λ frame. option_map_or (λ n. 1) (home layout frame) 0) frames

-- all blocks in the marked form
unfoldable pub text_of : List Table → List ℕ
text_of tables = flat_map marked_text tables

-- the line; the frames that have no home are strays
unfoldable pub placed_line : ℕ → ℕ → List ℕ
placed_line placed strays = codes "placed " ++ decimal placed ++ codes " strays " ++ decimal strays ++ codes "\n"

-- After the last frame, and before one more byte is requested, the blocks are written, and then the line is reported.
abbrev pub assembled_steps : Layout → List Frame → List Step
assembled_steps layout frames =
    Write (text_of (assembled layout frames))
    ∷ Report (placed_line (placed_of layout frames) (length frames - placed_of layout frames)) ∷ []

-- the units are the frames; nothing is done for one before the last of them
abbrev pub assemble_units : Layout → Form → ℕ → Units
assemble_units layout form frames = record {
  count = frames;
  begins = λ k. sized (frame_size form);
  opens = [];
  does = λ k before own steps kind. (steps ≡ []) × (kind ≡ Good);
  closes = λ before steps. steps ≡ assembled_steps layout (frames_in form before);
  after_last = EndOfInput;
}

-- the meaning of `assemble`: its layout has to break no rule
abbrev pub assemble_meaning : Meaning
assemble_meaning = by_layout (λ settings layout. assemble_units layout settings.form settings.frames)

-- A shelf and a count of frames are those of these captured frames, which may be read in any pieces.
pub record IsShelfOf (layout : Layout) (form : Form) (units : List (List ℕ)) (tables : List Table) (placed : ℕ) : Type 0 where
  pub blocks : tables ≡ assembled layout (frames_in form units)
  pub count : placed ≡ placed_of layout (frames_in form units)

-- the ends of a loop over a number of frames: a Short names one of them, none of them is bad, and their line is
-- reported
abbrev pub IsAssembleEnd : ℕ → LoopEnd → Type 0
IsAssembleEnd frames ReportFault = Unit {0}
IsAssembleEnd frames end = IsPlainEnd frames end
