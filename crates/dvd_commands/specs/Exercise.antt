-- The command `exercise` (ours): nothing is read. Blocks are drawn from a number, damaged within the bound and read
-- back, and one line is written to the output: how many there were, how many came back whole, how many of their bytes
-- were corrected, and how many of their rows failed. By this definition all come back whole.
use Rattle.std.specs.Prelude.{◌≡◌, ℕ, zero, suc, ◌+◌, ◌*◌, ◌%◌, ◌^◌, ◌<◌, Bool, false, List, [], ◌∷◌, ◌++◌, codes, decimal, length, map, replicate, take, drop, slice_index_or}
use Rattle.std.specs.List.{range_with_len, sum_by}
use Rattle.coding.specs.Filling.{marked}
use Rattle.coding.specs.Product.{IsBlockOf}
use Rattle.coding.specs.TwoPass.{answers_of, failed_of}
use Rattle.dvd_capture.specs.Works.{marks_of_work, rows_of, sectors_of, stage_of}
use Rattle.dvd_capture.specs.declared.stage.Stage.TheVariants.{Fixed}
use Rattle.dvd_capture.specs.declared.work.Work.{Work}
use Rattle.dvd_exercise.specs.Damage.{IsHurt, hurt_state}
use Rattle.dvd_exercise.specs.Generator.{bytes_from, state_after}
use Rattle.dvd_frame.specs.Frame.{data_frame}
use Rattle.dvd_frame.specs.Id.{id_word}
use Rattle.dvd_frame.specs.declared.id.Area.TheVariants.{DataZone}
use Rattle.dvd_frame.specs.declared.scrambling.Rule.TheVariants.{Whole}
use Rattle.dvd_layout.specs.Lengths.{data_first}
use Rattle.dvd_loop.specs.Machine.{Step, Units, sized}
use Rattle.dvd_loop.specs.Machine.Step.{Write}
use Rattle.dvd_loop.specs.declared.ends.AfterLast.TheVariants.{Done}
use Rattle.dvd_loop.specs.declared.ends.UnitKind.TheVariants.{Good}
use Rattle.coding.specs.Found.{block_differences}
use Rattle.dvd_commands.specs.Meaning.{Meaning, by_settings}

-- sector f of the sixteen in these bytes
abbrev pub drawn_sector : List ℕ → ℕ → List ℕ
drawn_sector image f = take 2048 (drop (2048 * f) image)

-- all sixteen, in order
unfoldable pub drawn_sectors : List ℕ → List (List ℕ)
drawn_sectors image = map (drawn_sector image) (range_with_len 0 16)

-- The data frames of block k of the Data Zone of a disk with one layer, with CPR_MAI zeros: those that `master` makes.
abbrev pub drawn_frame : ℕ → List ℕ → ℕ → List ℕ
drawn_frame k image f = data_frame (id_word DataZone 0 false (data_first + 16 * k + f)) (replicate 6 0) Whole (drawn_sector image f)

-- the sixteen frames of block k
unfoldable pub drawn_frames : ℕ → List ℕ → List (List ℕ)
drawn_frames k image = map (drawn_frame k image) (range_with_len 0 16)

-- the marks of a block without erasures
abbrev pub no_marks : List (List Bool)
no_marks = replicate 208 (replicate 182 false)

-- Block k as it was made, and as it is received after damage. The bytes drawn first, from state x on, are its sectors.
pub record IsHurtBlock (k x : ℕ) (block rows : List (List ℕ)) (marks : List (List Bool)) : Type 0 where
  pub made : IsBlockOf (drawn_frames k (bytes_from x 32768)) block
  pub hurt : IsHurt (state_after x 32768) block no_marks rows marks

-- The state from which block k is drawn, a number of 64 bits. The first is the seed plus 1, and each other is what the
-- damage of the block before leaves.
unfoldable pub state_at : ℕ → ℕ → ℕ
state_at seed zero = (seed + 1) % 2 ^ 64
state_at seed (suc k) = hurt_state (state_after (state_at seed k) 32768)

-- a block as it was made, and the rows and marks that are received
pub record Trial : Type 0 where
  pub block : List (List ℕ)
  pub rows : List (List ℕ)
  pub marks : List (List Bool)

-- it is block k of those drawn from a seed
abbrev pub IsTrial : ℕ → ℕ → Trial → Type 0
IsTrial seed k trial = IsHurtBlock k (state_at seed k) trial.block trial.rows trial.marks

-- they are the first blocks drawn from a seed
abbrev pub AreTrials : ℕ → List Trial → Type 0
AreTrials seed trials = (k : ℕ) (default : Trial) → k < length trials → IsTrial seed k (slice_index_or trials k default)

-- the number of bytes, in all of them, in which what was received differs from what was made
abbrev pub fixed_in : List Trial → ℕ
fixed_in trials = sum_by (λ trial. block_differences trial.rows trial.block) trials

-- the number of received rows that are uncorrectable
abbrev pub failed_in : List Trial → ℕ
failed_in trials = sum_by (λ trial. marked (failed_of (answers_of trial.rows trial.marks))) trials

-- the line, which also says how many of the blocks were read back whole
unfoldable pub exercise_line : ℕ → ℕ → ℕ → ℕ → ℕ → List ℕ
exercise_line seed blocks whole fixed failed =
    codes "exercise seed " ++ decimal seed
    ++ codes " blocks " ++ decimal blocks
    ++ codes " whole " ++ decimal whole
    ++ codes " fixed " ++ decimal fixed
    ++ codes " failed " ++ decimal failed
    ++ codes "\n"

-- After the last block the line is written. Every block was read back whole, since its damage is within the bound.
pub record IsExercised (seed blocks : ℕ) (steps : List Step) : Type 0 where
  pub trials : List Trial
  pub count : length trials ≡ blocks
  pub are : AreTrials seed trials
  pub writes : steps ≡ Write (exercise_line seed blocks blocks (fixed_in trials) (failed_in trials)) ∷ []

-- the units are the blocks; nothing is read or written for them
abbrev pub exercise_units : ℕ → ℕ → Units
exercise_units seed blocks = record {
  count = blocks;
  begins = λ k. sized 0;
  opens = [];
  does = λ k before own steps kind. (steps ≡ []) × (kind ≡ Good);
  closes = λ before. IsExercised seed blocks;
  after_last = Done;
}

-- the meaning of `exercise`: it has no layout
abbrev pub exercise_meaning : Meaning
exercise_meaning = by_settings (λ settings. exercise_units settings.seed settings.blocks)

-- What block k leaves in the memory of a captured block: its received rows and marks, and its sectors as they were
-- drawn.
pub record IsLeft (seed k : ℕ) (work : Work) : Type 0 where
  pub stage : stage_of work ≡ Fixed
  pub block : List (List ℕ)
  pub hurt : IsHurtBlock k (state_at seed k) block (rows_of work) (marks_of_work work)
  pub sectors : sectors_of work ≡ drawn_sectors (bytes_from (state_at seed k) 32768)
