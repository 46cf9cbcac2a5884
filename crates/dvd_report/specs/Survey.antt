-- The survey of a disk's surface: the PI errors of each block and the totals over all blocks. PI is the inner parity of
-- ECMA-267, clause 18; the counts, their window of eight blocks and the lines are ours.
use Rattle.std.specs.Prelude.{◌≡◌, ℕ, ◌+◌, ◌-◌, ◌==◌, ◌||◌, Bool, not, nat_lt, max, List, [], ◌∷◌, ◌++◌, length, map, take, drop, slice_get, slice_index_or, sum_by, count_by, codes, decimal, Some, None, is_some}
use Rattle.std.specs.List.{list_any, position_or_len, range_with_len}
use Rattle.std.specs.declared.option.Option.{Option}
use Rattle.coding.specs.Filling.{marked}
use Rattle.coding.specs.Nearest.{vanishes_at_all}
use Rattle.coding.specs.Product.{line}
use Rattle.dvd_capture.specs.Answers.{marks_line}
use Rattle.coding.specs.TwoPass.{answers_of, failed_of}
use Rattle.dvd_layout.specs.declared.entry.BlockPlan.{BlockPlan}
use Rattle.dvd_decoding.specs.Reading.{block_cause}
use Rattle.dvd_decoding.specs.declared.cause.Cause.{Cause}
use Rattle.dvd_report.specs.Lines.{block_text, cause_text}
use Rattle.dvd_report.specs.declared.counts.Surveyed.{Surveyed}
use Rattle.dvd_report.specs.declared.counts.Totals.{Totals}

-- A received row has a PI error: a byte of it is marked, or it isn't a codeword of its inner parity. It counts as it
-- was received, before any correction.
abbrev pub has_pi_error : List ℕ → List Bool → Bool
has_pi_error row marks = list_any (λ mark. mark) marks || not (vanishes_at_all 10 row)

-- how many rows of a received block have one
unfoldable pub pi_rows : List (List ℕ) → List (List Bool) → ℕ
pi_rows rows marks = count_by (λ i. has_pi_error (line rows i) (marks_line marks i)) (range_with_len 0 208)

-- how many rows are uncorrectable
abbrev pub failed_rows : List (List ℕ) → List (List Bool) → ℕ
failed_rows rows marks = marked (failed_of (answers_of rows marks))

-- what a survey keeps of a received block with a cause or none
abbrev pub surveyed_with : List (List ℕ) → List (List Bool) → Option Cause → Surveyed
surveyed_with rows marks cause = record { pi = pi_rows rows marks; failed = failed_rows rows marks; cause = cause }

-- what it keeps of a block that is read as an entry of a plan
unfoldable pub surveyed : List (List ℕ) → List (List Bool) → BlockPlan → Surveyed
surveyed rows marks entry = surveyed_with rows marks (block_cause rows marks entry)

-- its PI error rows
abbrev pub pi_of : Surveyed → ℕ
pi_of block = block.pi

-- the PI error rows of block k and the seven before it, or of all where there are fewer
unfoldable pub sum8 : List Surveyed → ℕ → ℕ
sum8 blocks k = sum_by pi_of (drop (k - 7) (take (k + 1) blocks))

-- these sums for all blocks
abbrev pub sums8 : List Surveyed → List ℕ
sums8 blocks = map (sum8 blocks) (range_with_len 0 (length blocks))

-- the greatest of several numbers, and 0 of none
abbrev pub greatest : List ℕ → ℕ
greatest [] = 0
greatest (x ∷ xs) = max x (greatest xs)

-- The totals over blocks. The peak is the greatest sum of eight, with the first block that has it; `over` is how many
-- blocks have a sum above 280.
unfoldable pub totals_of : List Surveyed → Totals
totals_of blocks = record {
  blocks = length blocks;
  pi = sum_by pi_of blocks;
  failed = sum_by (λ (block : Surveyed). block.failed) blocks;
  damaged = count_by (λ (block : Surveyed). is_some block.cause) blocks;
  peak = greatest (sums8 blocks);
  peak_at = position_or_len (λ s. s == greatest (sums8 blocks)) (sums8 blocks);
  over = count_by (nat_lt 280) (sums8 blocks);
}

-- the last eight blocks, or all where there are fewer
abbrev pub last_eight : List Surveyed → List Surveyed
last_eight blocks = drop (length blocks - 8) blocks

-- what the contracts see of a survey: its totals, the PI error rows of the last blocks, and the last block
pub record SurveyState : Type 0 where
  pub totals : Totals
  pub window : List ℕ
  pub last : Option Surveyed

-- a survey is that of these blocks
pub record Represents (survey : SurveyState) (blocks : List Surveyed) : Type 0 where
  pub totals : survey.totals ≡ totals_of blocks
  pub window : survey.window ≡ map pi_of (last_eight blocks)
  pub last : survey.last ≡ slice_get blocks (length blocks - 1)

-- the cause of a block, or that it is whole
abbrev pub answer_text : Option Cause → List ℕ
answer_text None = codes "whole"
answer_text (Some cause) = cause_text cause

-- the line of block k of a plan by what is kept of it and its sum of eight
unfoldable pub surveyed_line : ℕ → BlockPlan → Surveyed → ℕ → List ℕ
surveyed_line k entry block sum =
    block_text k entry ++ codes " pi " ++ decimal block.pi ++ codes " failed " ++ decimal block.failed ++ codes " sum8 " ++ decimal sum
    ++ codes ": " ++ answer_text block.cause ++ codes "\n"

-- a block without errors
abbrev pub clean : Surveyed
clean = record { pi = 0; failed = 0; cause = None }

-- the line of block k of these
unfoldable pub survey_line : ℕ → BlockPlan → List Surveyed → List ℕ
survey_line k entry blocks = surveyed_line k entry (slice_index_or blocks k clean) (sum8 blocks k)

-- the line of some totals
unfoldable pub line_of_totals : Totals → List ℕ
line_of_totals totals =
    codes "blocks " ++ decimal totals.blocks ++ codes " pi " ++ decimal totals.pi ++ codes " failed " ++ decimal totals.failed
    ++ codes " damaged " ++ decimal totals.damaged ++ codes " peak " ++ decimal totals.peak ++ codes " at " ++ decimal totals.peak_at
    ++ codes " over " ++ decimal totals.over ++ codes "\n"

-- the line of totals of these blocks
abbrev pub totals_line : List Surveyed → List ℕ
totals_line blocks = line_of_totals (totals_of blocks)
