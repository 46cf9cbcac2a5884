-- The result of the lines of a survey: the counts of its blocks, or the first line that breaks a rule.
use Rattle.std.specs.Prelude.{ℕ, ◌+◌, ◌-◌, ◌*◌, ◌&&◌, ◌||◌, ◌==◌, nat_lt, Bool, true, false, not, if◌then◌else◌, List, [], ◌∷◌, ◌++◌, length, drop, sum_by, Option, Some, None, Result, Ok, Err}
use Rattle.cap_survey.specs.Lines.{block_line, totals_in}
use Rattle.cap_survey.specs.Totals.{pi_of, totals_of}
use Rattle.cap_survey.specs.declared.block.BlockLine.{BlockLine}
use Rattle.cap_survey.specs.declared.cell.Cell.{Cell}
use Rattle.cap_survey.specs.declared.fault.SurveyCause.{SurveyCause}
use Rattle.cap_survey.specs.declared.fault.SurveyCause.TheVariants.{After, Form, Order, Range, Sum8, TooMany, Totals as WrongTotals}
use Rattle.cap_survey.specs.declared.fault.Fault.{Fault}
use Rattle.cap_survey.specs.declared.totals.Totals.{Totals}

-- What was read so far: the counts of the blocks, and whether the line of totals came.
pub record SurveyRead : Type 0 where
  pub cells : List Cell
  pub closed : Bool

-- the number of the line that comes next, from 1
abbrev pub next_line : SurveyRead → ℕ
next_line read = length read.cells + (if read.closed then 2 else 1)

-- the last seven blocks, or all where there are fewer
abbrev pub last_seven : List Cell → List Cell
last_seven cells = drop (length cells - 7) cells

-- Blocks come in their order from 0. A block has 208 rows, and each failed row has a PI error. `sum8` is the sum of
-- `pi` over the block and the seven before it.
abbrev pub cell_of : List Cell → BlockLine → Result Cell SurveyCause
cell_of cells block =
    if not (block.block == length cells) then Err Order
    else (if nat_lt 1 block.layer || (nat_lt 208 block.pi || nat_lt block.pi block.failed) then Err Range
    else (if not (block.sum8 == block.pi + sum_by pi_of (last_seven cells)) then Err Sum8
    else (if length cells == 2097152 then Err TooMany
    else Ok (record { sum8 = block.sum8; pi = block.pi; failed = block.failed; layer = block.layer; refused = block.refused }))))

abbrev pub with_cell : SurveyRead → Result Cell SurveyCause → Result SurveyRead SurveyCause
with_cell read (Ok cell) = Ok (record { cells = read.cells ++ cell ∷ []; closed = read.closed })
with_cell read (Err cause) = Err cause

-- one more block
abbrev pub with_block : SurveyRead → BlockLine → Result SurveyRead SurveyCause
with_block read block = with_cell read (cell_of read.cells block)

-- the same totals
abbrev pub are_same : Totals → Totals → Bool
are_same a b =
    a.blocks == b.blocks && (a.pi == b.pi && (a.failed == b.failed && (a.damaged == b.damaged
    && (a.peak == b.peak && (a.peak_at == b.peak_at && a.over == b.over)))))

-- the totals, which are those of the blocks that came
abbrev pub with_totals : SurveyRead → Totals → Result SurveyRead SurveyCause
with_totals read totals =
    if are_same totals (totals_of read.cells) then Ok (record { cells = read.cells; closed = true }) else Err WrongTotals

abbrev pub block_or_totals : SurveyRead → Option BlockLine → Option Totals → Result SurveyRead SurveyCause
block_or_totals read (Some block) totals = with_block read block
block_or_totals read None (Some totals) = with_totals read totals
block_or_totals read None None = Err Form

-- The result of one line: it is that of the next block or that of the totals, and nothing comes after the totals. It
-- has at most 255 bytes.
abbrev pub line_read : SurveyRead → List ℕ → Result SurveyRead SurveyCause
line_read read line =
    if nat_lt 255 (length line) then Err Form
    else (if read.closed then Err After
    else block_or_totals read (block_line line) (totals_in line))

-- What a whole survey says, or one that is cut. The last line of it may be cut too, after a number of bytes.
pub record Ended : Type 0 where
  pub read : SurveyRead
  pub left : ℕ

-- the fault of the line that comes next
abbrev pub fault_of_next : SurveyRead → SurveyCause → Fault
fault_of_next read cause = record { line = next_line read; cause = cause }

-- the result of the bytes after the last line feed
abbrev pub rest_read : SurveyRead → List ℕ → Result Ended Fault
rest_read read rest =
    if nat_lt 255 (length rest) then Err (fault_of_next read Form)
    else (if read.closed && not (length rest == 0) then Err (fault_of_next read After)
    else Ok (record { read = read; left = length rest }))

-- what comes after a line with this result
abbrev pub after_line : SurveyRead → Result SurveyRead SurveyCause → (SurveyRead → Result Ended Fault) → Result Ended Fault
after_line read (Ok next) rest = rest next
after_line read (Err cause) rest = Err (fault_of_next read cause)

-- A text between its line feeds: the bytes before the first, and those after each.
pub record Pieces : Type 0 where
  pub first : List ℕ
  pub others : List (List ℕ)

abbrev pub with_byte : ℕ → Pieces → Pieces
with_byte c pieces =
    if c == 10 then record { first = []; others = pieces.first ∷ pieces.others }
    else record { first = c ∷ pieces.first; others = pieces.others }

abbrev pub pieces_of : List ℕ → Pieces
pieces_of [] = record { first = []; others = [] }
pieces_of (c ∷ cs) = with_byte c (pieces_of cs)

-- Each piece is a line but the last, which no line feed ends.
abbrev pub pieces_read : SurveyRead → List ℕ → List (List ℕ) → Result Ended Fault
pieces_read read piece [] = rest_read read piece
pieces_read read piece (next ∷ others) = after_line read (line_read read piece) (λ after. pieces_read after next others)

-- nothing was read
abbrev pub nothing_read : SurveyRead
nothing_read = record { cells = []; closed = false }

-- What a text says, or the first line that breaks a rule.
abbrev pub survey_of : List ℕ → Result Ended Fault
survey_of text = let pieces = pieces_of text in pieces_read nothing_read pieces.first pieces.others

-- what was read, and the bytes of the line that has begun
pub record Begun : Type 0 where
  pub read : SurveyRead
  pub line : List ℕ

-- the result of a text of which this was read, with these further bytes
abbrev pub reading_on : Begun → List ℕ → Result Ended Fault
reading_on begun more = let pieces = pieces_of more in pieces_read begun.read (begun.line ++ pieces.first) pieces.others

-- how far a text was read: it grows with each byte, since a line has at most 255
abbrev pub progress : Begun → ℕ
progress begun = 256 * next_line begun.read + length begun.line
