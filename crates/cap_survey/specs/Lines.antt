-- What one line of a survey says.
use Rattle.std.specs.Prelude.{ℕ, ◌&&◌, ◌||◌, ◌==◌, nat_le, Bool, true, false, if◌then◌else◌, List, codes, length, take, drop, Option, Some, None, option_and_then}
use Rattle.cap_survey.specs.Numbers.{NumberAt, after_text, are_hexadecimal, number_after}
use Rattle.cap_survey.specs.declared.block.BlockLine.{BlockLine}
use Rattle.cap_survey.specs.declared.totals.Totals.{Totals}

-- what follows from a value, where there is one
infixl 10 ◌>>=◌
abbrev pub ◌>>=◌ : {A B : Type 0} → Option A → (A → Option B) → Option B
o >>= f = option_and_then f o

-- there is a text, and nothing in it
abbrev pub is_empty_text : Option (List ℕ) → Bool
is_empty_text None = false
is_empty_text (Some text) = length text == 0

-- there is a number, and nothing after it
abbrev pub ends : Option NumberAt → Bool
ends None = false
ends (Some number) = length number.rest == 0

-- a name and a number alone
abbrev pub is_alone : List ℕ → List ℕ → Bool
is_alone name text = ends (number_after name text)

-- the eight digits of an ID
abbrev pub is_word : Option (List ℕ) → Bool
is_word None = false
is_word (Some word) = length word == 8 && are_hexadecimal word

abbrev pub is_found : List ℕ → Bool
is_found text = is_word (after_text (codes " found ") text)

abbrev pub has_found_id : Option NumberAt → Bool
has_found_id None = false
has_found_id (Some frame) = is_found frame.rest

-- the number of a frame, and the ID that was found there
abbrev pub is_address : List ℕ → Bool
is_address text = has_found_id (number_after (codes "address ") text)

-- why a block is refused
abbrev pub is_cause : List ℕ → Bool
is_cause text =
    is_alone (codes "rows ") text || (is_alone (codes "column ") text || (is_alone (codes "row ") text
    || (is_alone (codes "ied ") text || (is_alone (codes "edc ") text || is_address text))))

-- whether a block is refused, by what its line says after the colon
abbrev pub refused_by : List ℕ → Option Bool
refused_by answer =
    if is_empty_text (after_text (codes "whole") answer) then Some false else (if is_cause answer then Some true else None)

-- a text after six hexadecimal digits
abbrev pub after_six : List ℕ → Option (List ℕ)
after_six text = if nat_le 6 (length text) && are_hexadecimal (take 6 text) then Some (drop 6 text) else None

abbrev pub after_sector : List ℕ → Option (List ℕ)
after_sector text = option_and_then after_six (after_text (codes " sector ") text)

-- The line of a block, `block K sector H6 layer L pi P failed F sum8 S: ANSWER`, where ANSWER is `whole` or a cause.
abbrev pub block_line : List ℕ → Option BlockLine
block_line line = do
  block ← number_after (codes "block ") line
  place ← after_sector block.rest
  layer ← number_after (codes " layer ") place
  pi ← number_after (codes " pi ") layer.rest
  failed ← number_after (codes " failed ") pi.rest
  sum8 ← number_after (codes " sum8 ") failed.rest
  answer ← after_text (codes ": ") sum8.rest
  refused ← refused_by answer
  Some (record {
    block = block.value;
    layer = layer.value;
    pi = pi.value;
    failed = failed.value;
    sum8 = sum8.value;
    refused = refused;
  })

-- The line of totals, `blocks B pi P failed F damaged D peak S at K over O`.
abbrev pub totals_in : List ℕ → Option Totals
totals_in line = do
  blocks ← number_after (codes "blocks ") line
  pi ← number_after (codes " pi ") blocks.rest
  failed ← number_after (codes " failed ") pi.rest
  damaged ← number_after (codes " damaged ") failed.rest
  peak ← number_after (codes " peak ") damaged.rest
  at ← number_after (codes " at ") peak.rest
  over ← number_after (codes " over ") at.rest
  if length over.rest == 0 then Some (record {
    blocks = blocks.value;
    pi = pi.value;
    failed = failed.value;
    damaged = damaged.value;
    peak = peak.value;
    peak_at = at.value;
    over = over.value;
  }) else None
