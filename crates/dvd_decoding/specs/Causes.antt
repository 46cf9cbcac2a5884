-- Why two passes refuse a block: the first cause that applies.
use Rattle.std.specs.Prelude.{ℕ, List, not, nat_lt, position, if◌then◌else◌, Some, is_none}
use Rattle.std.specs.Option.{option_map, option_or}
use Rattle.std.specs.declared.option.Option.{Option}
use Rattle.coding.specs.Filling.{marked}
use Rattle.coding.specs.Nearest.{vanishes_at_all}
use Rattle.coding.specs.TwoPass.{failed_of}
use Rattle.coding.specs.Found.{block_found, columns_of}
use Rattle.dvd_decoding.specs.declared.cause.Cause.{Cause}
use Rattle.dvd_decoding.specs.declared.cause.Cause.TheVariants.{Rows, Column, Row}

-- Too many failed rows, the first column without an answer, or the first row of the block found that isn't a codeword.
-- There is no cause exactly where some block agrees with the answers, and it is the block found.
unfoldable pub two_pass_cause : List (Option (List ℕ)) → Option Cause
two_pass_cause answers =
    if nat_lt 16 (marked (failed_of answers)) then Some (Rows (marked (failed_of answers)))
    else
    option_or
    (option_map Column (position is_none (columns_of answers)))
    (option_map Row (position (λ row. not (vanishes_at_all 10 row)) (block_found answers)))
