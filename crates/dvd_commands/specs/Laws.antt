-- What holds of what each command does: the laws about the units of commands, and not about whole runs.
use Rattle.std.specs.Prelude.{◌≡◌, ◌↔◌, ℕ, ◌*◌, ◌<◌, List, [], ◌∷◌, ◌++◌, length, replicate, All, Some, None, slice_get, ◌⊎◌, ◌+◌, take, drop, slice_index_or}
use Rattle.dvd_assemble.specs.Assembled.{assembled}
use Rattle.dvd_assemble.specs.Frames.{Frame}
use Rattle.dvd_assemble.specs.Home.{home}
use Rattle.dvd_assemble.specs.Mastered.{IsCaptureOf, IsCaptured}
use Rattle.coding.specs.Product.{IsBlockOf}
use Rattle.dvd_capture.specs.Captured.{captured_rows, captured_marks}
use Rattle.dvd_capture.specs.Listed.{IsBrokenAt, IsUnbroken}
use Rattle.coding.specs.TwoPass.{answers_of}
use Rattle.coding.specs.Within.{IsWithin}
use Rattle.dvd_capture.specs.declared.form.Form.{Form}
use Rattle.dvd_control.specs.Format.{Fields}
use Rattle.dvd_layout.specs.Content.{IsImage, image_from}
use Rattle.dvd_layout.specs.Place.{image_sectors, total_sectors}
use Rattle.dvd_layout.specs.Plan.{plan_of}
use Rattle.dvd_layout.specs.declared.entry.BlockPlan.{BlockPlan}
use Rattle.dvd_layout.specs.declared.layout.Layout.{Layout}
use Rattle.dvd_layout.specs.declared.layout.Shape.TheVariants.{Single}
use Rattle.dvd_layout.specs.declared.layout.Zones.{Zones}
use Rattle.dvd_layout.specs.declared.layout.Zones.TheVariants.{DataOnly}
use Rattle.dvd_loop.specs.Laws.{IsFaultless, IsPrefixOf, first}
use Rattle.dvd_loop.specs.Machine.{IsOutcome, Outcome, Step}
use Rattle.dvd_loop.specs.Machine.Prefix.{Whole, Cut, Broken}
use Rattle.dvd_loop.specs.Machine.Step.{Write}
use Rattle.dvd_loop.specs.UnitCommand.{written}
use Rattle.dvd_loop.specs.declared.ends.LoopEnd.TheVariants.{BadMarks, Done, NoControl, Short}
use Rattle.dvd_loop.specs.declared.ends.UnitKind.{UnitKind}
use Rattle.dvd_loop.specs.declared.ends.UnitKind.TheVariants.{Good, Last}
use Rattle.dvd_merge.specs.Agreeing.{IsTableOf}
use Rattle.dvd_merge.specs.Join.{unseen}
use Rattle.dvd_decoding.specs.Causes.{two_pass_cause}
use Rattle.dvd_decoding.specs.declared.cause.Cause.{Cause}
use Rattle.dvd_commands.specs.Recover.{HasGoodRows, IsRecovered}
use Rattle.dvd_commands.specs.Captured.{HasBlocks, block_bytes, block_start, broken_at, captured_part, from_block}
use Rattle.dvd_commands.specs.CdBound.{KeepsSectors}
use Rattle.dvd_commands.specs.Exercise.{drawn_frames}
use Rattle.dvd_commands.specs.Info.{IsSought, format_lines, info_units}
use Rattle.dvd_commands.specs.Master.{filled_block, frames_of, image_bytes, master_units}
use Rattle.dvd_commands.specs.Commands.{GoesOver}
use Rattle.dvd_words.specs.declared.table.Command.TheVariants.{CdRead}
use Rattle.dvd_words.specs.declared.settings.Settings.{Settings}

-- The blocks before a data block read all bytes that the image has before its first sector.
abbrev pub ImageIsTakenInOrder : Type 0
ImageIsTakenInOrder =
    (layout : Layout) (zones : Zones) (cpr image : List ℕ) (k : ℕ) (entry : BlockPlan) (a : Outcome) → slice_get (plan_of layout zones) k ≡ Some entry → IsImage entry.content
    → IsOutcome (first k (master_units layout zones cpr)) image a → a.end ≡ Done → length a.taken ≡ 2048 * image_from entry.content

-- An image is mastered to its end exactly where it has 2,048 bytes for each sector of the layout.
abbrev pub ImageIsTakenWhole : Type 0
ImageIsTakenWhole =
    (layout : Layout) (zones : Zones) (cpr image : List ℕ) (a : Outcome) → IsOutcome (master_units layout zones cpr) image a → IsFaultless a.end
    → (a.end ≡ Done → length image ≡ 2048 * total_sectors layout) × (length image ≡ 2048 * total_sectors layout → a.end ≡ Done)

-- A data block whose damage is within the bound: twice the bad rows plus the lost rows is at most 16 against the block
-- that was mastered at that place, of any image and any CPR_MAI. Exactly its image sectors are written, and no line
-- names it.
abbrev pub DamageWithinTheBoundIsRepaired : Type 0
DamageWithinTheBoundIsRepaired =
    (layout : Layout) (zones : Zones) (form : Form) (cpr : List ℕ) (k : ℕ) (entry : BlockPlan) (image own : List ℕ) (block : List (List ℕ)) (steps : List Step) (kind : UnitKind)
    → slice_get (plan_of layout zones) k ≡ Some entry → IsImage entry.content → length cpr ≡ 6 → length image ≡ image_bytes layout entry
    → IsBlockOf (frames_of layout entry cpr (filled_block image)) block
    → captured_part form own ≡ Whole (length own) → IsWithin block (captured_rows form own) (captured_marks form own)
    → IsRecovered layout zones form k own steps kind → (steps ≡ Write image ∷ []) × (kind ≡ Good)

-- A data block that two passes refuse, and an image sector there whose twelve rows are good against the block that was
-- mastered at that place, of any image and any CPR_MAI: what is written has the mastered sector at its place.
abbrev pub GoodFramesOfARefusedBlockAreGiven : Type 0
GoodFramesOfARefusedBlockAreGiven =
    (layout : Layout) (zones : Zones) (form : Form) (cpr : List ℕ) (k f : ℕ) (entry : BlockPlan) (image own : List ℕ) (block : List (List ℕ)) (cause : Cause) (steps : List Step) (kind : UnitKind)
    → slice_get (plan_of layout zones) k ≡ Some entry → IsImage entry.content → length cpr ≡ 6 → length image ≡ image_bytes layout entry
    → IsBlockOf (frames_of layout entry cpr (filled_block image)) block → captured_part form own ≡ Whole (length own)
    → two_pass_cause (answers_of (captured_rows form own) (captured_marks form own)) ≡ Some cause
    → f < image_sectors layout entry.content → HasGoodRows block (captured_rows form own) (captured_marks form own) f
    → IsRecovered layout zones form k own steps kind → take 2048 (drop (2048 * f) (written steps)) ≡ take 2048 (drop (2048 * f) image)

-- The data frames of the blocks that `exercise` draws are those that `master` makes of the same sectors, on a disk with
-- one layer.
abbrev pub DrawnFramesAreMastered : Type 0
DrawnFramesAreMastered =
    (layout : Layout) (k : ℕ) (entry : BlockPlan) (image : List ℕ) → layout.shape ≡ Single → slice_get (plan_of layout DataOnly) k ≡ Some entry
    → frames_of layout entry (replicate 6 0) image ≡ drawn_frames k image

-- Block k of the lead-in is the first that answers: the lines of its format are written, and nothing after it is read.
pub record FindsTheFirst (initial : ℕ) (form : Form) (bytes : List ℕ) (a : Outcome) : Type 0 where
  pub k : ℕ
  pub format : Fields
  pub sought : k < initial + 224
  pub whole : HasBlocks form bytes (k + 1)
  pub answers : IsSought initial form k (block_bytes form bytes k) (Write (format_lines format) ∷ []) Last
  pub none_before : (j : ℕ) → j < k → IsSought initial form j (block_bytes form bytes j) [] Good
  pub is : a ≡ record { taken = take (block_start form bytes (k + 1)) bytes; out = format_lines format; lines = []; end = Done }

-- the input has all blocks that are sought, and these are read
pub record PassesAll (initial : ℕ) (form : Form) (bytes : List ℕ) (a : Outcome) : Type 0 where
  pub whole : HasBlocks form bytes (initial + 224)
  pub is : a ≡ record { taken = take (block_start form bytes (initial + 224)) bytes; out = []; lines = []; end = NoControl }

-- the input ends within block k, of which it has `held` bytes
pub record RunsOut (initial : ℕ) (form : Form) (bytes : List ℕ) (a : Outcome) : Type 0 where
  pub k : ℕ
  pub held : ℕ
  pub sought : k < initial + 224
  pub whole : HasBlocks form bytes k
  pub cut : captured_part form (from_block form bytes k) ≡ Cut
  pub size : length bytes ≡ block_start form bytes k + held
  pub is : a ≡ record { taken = bytes; out = []; lines = []; end = Short k held }

-- block k breaks a rule of its form, and a prefix of it with that field is read
pub record BreaksOff (initial : ℕ) (form : Form) (bytes : List ℕ) (a : Outcome) : Type 0 where
  pub k : ℕ
  pub at : ℕ
  pub sought : k < initial + 224
  pub whole : HasBlocks form bytes k
  pub broken : captured_part form (from_block form bytes k) ≡ Broken at
  pub own : List ℕ
  pub prefix : IsPrefixOf own (from_block form bytes k)
  pub taken : captured_part form own ≡ Broken at
  pub is : a ≡ record { taken = take (block_start form bytes k) bytes ++ own; out = []; lines = []; end = BadMarks k at }

-- No block of the lead-in that is whole in the input answers: nothing is written.
pub record FindsNone (initial : ℕ) (form : Form) (bytes : List ℕ) (a : Outcome) : Type 0 where
  pub none : (j : ℕ) → j < initial + 224 → HasBlocks form bytes (j + 1) → IsSought initial form j (block_bytes form bytes j) [] Good
  pub ends : PassesAll initial form bytes a ⊎ (RunsOut initial form bytes a ⊎ BreaksOff initial form bytes a)

-- What `info` writes and reads of an input, where no fault ends it, depends on the first control block that answers.
abbrev pub InfoFindsTheFirstAnswer : Type 0
InfoFindsTheFirstAnswer =
    (initial : ℕ) (form : Form) (bytes : List ℕ) (a : Outcome) → IsOutcome (info_units initial form) bytes a → IsFaultless a.end
    → FindsTheFirst initial form bytes a ⊎ FindsNone initial form bytes a

-- A loop of `cdread` gives the user data of every sector whose damage is within the bound, whatever ended it.
abbrev pub CorrectableSectorsAreKept : Type 0
CorrectableSectorsAreKept =
    (settings : Settings) (bytes : List ℕ) (outcome : Outcome) → settings.command ≡ CdRead → GoesOver settings bytes outcome → KeepsSectors settings bytes outcome

-- The blocks of the Data Zones as they were mastered, each of its part of an image.
abbrev pub AreMastered : Layout → List ℕ → (ℕ → List ℕ) → (ℕ → List (List ℕ)) → Type 0
AreMastered layout cpr parts blocks =
    (k : ℕ) (entry : BlockPlan) → slice_get (plan_of layout DataOnly) k ≡ Some entry → IsBlockOf (frames_of layout entry cpr (filled_block (parts k))) (blocks k)

-- Captured frames of mastered ones, of any image and any CPR_MAI: whatever is lost, their unmarked bytes are right, and
-- at most ten bytes of the first row are marked. Each has its home where it was mastered. No byte of the blocks that
-- `assemble` makes of them is in conflict, and each that is known is the mastered byte.
abbrev pub CapturedFramesAreAssembled : Type 0
CapturedFramesAreAssembled =
    (layout : Layout) (cpr : List ℕ) (parts : ℕ → List ℕ) (blocks : ℕ → List (List ℕ)) → AreMastered layout cpr parts blocks
    → ((k f : ℕ) (frame : Frame) → k < length (plan_of layout DataOnly) → f < 16 → IsCaptureOf f (blocks k) frame → home layout frame ≡ Some (16 * k + f))
    × ((frames : List Frame) → All (IsCaptured layout blocks) frames
    → (k : ℕ) → k < length (plan_of layout DataOnly) → IsTableOf (blocks k) (slice_index_or (assembled layout frames) k unseen))

-- The offset that `broken_at` finds is the least field of a listed block that is wholly in the bytes and breaks a rule.
-- It finds none exactly where none does.
abbrev pub BrokenFieldIsFound : Type 0
BrokenFieldIsFound =
    (bytes : List ℕ) → ((at : ℕ) → (broken_at bytes ≡ Some at) ↔ IsBrokenAt bytes at) × ((broken_at bytes ≡ None) ↔ IsUnbroken bytes)
