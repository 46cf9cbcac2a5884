-- The lines of a report that name damaged ECC blocks, and those that were given back. Each ends with one line feed.
-- Numbers are decimal, except where a comment says otherwise.
use Rattle.std.specs.Prelude.{ℕ, zero, suc, ◌/◌, ◌%◌, List, [], ◌∷◌, ◌++◌, true, codes, decimal}
use Rattle.std.specs.Fmt.{digit_glyph}
use Rattle.dvd_layout.specs.declared.entry.BlockPlan.{BlockPlan}
use Rattle.dvd_decoding.specs.declared.cause.Cause.{Cause}
use Rattle.dvd_decoding.specs.declared.cause.Cause.TheVariants.{Rows, Column, Row, Ied, Address, Edc}

-- The last `width` hexadecimal digits of a number, in capitals, the highest first. The code makes the highest first;
-- this peels off the lowest.
unfoldable pub hexadecimal : ℕ → ℕ → List ℕ
hexadecimal zero number = []
hexadecimal (suc width) number = hexadecimal width (number / 16) ++ digit_glyph true (number % 16) ∷ []

-- what a line says of the first rule that a block breaks
unfoldable pub cause_text : Cause → List ℕ
cause_text (Rows failed) = codes "rows " ++ decimal failed
cause_text (Column j) = codes "column " ++ decimal j
cause_text (Row i) = codes "row " ++ decimal i
cause_text (Ied f) = codes "ied " ++ decimal f
cause_text (Address f found) = codes "address " ++ decimal f ++ codes " found " ++ hexadecimal 8 found
cause_text (Edc f) = codes "edc " ++ decimal f

-- block k of a plan, with the six digits of its first sector number and its layer
unfoldable pub block_text : ℕ → BlockPlan → List ℕ
block_text k plan = codes "block " ++ decimal k ++ codes " sector " ++ hexadecimal 6 plan.first ++ codes " layer " ++ decimal plan.layer

-- such a block, its cause, and how many of its sixteen frames were salvaged
unfoldable pub damage_line : ℕ → BlockPlan → Cause → ℕ → List ℕ
damage_line k plan cause saved = block_text k plan ++ codes ": " ++ cause_text cause ++ codes " saved " ++ decimal saved ++ codes "\n"

-- such a block that two passes refuse, and the round that gave it back
unfoldable pub round_line : ℕ → BlockPlan → ℕ → List ℕ
round_line k plan round = block_text k plan ++ codes ": round " ++ decimal round ++ codes "\n"
