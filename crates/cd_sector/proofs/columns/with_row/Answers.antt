-- The proof of `with_row` in src/columns.rt.
use Rattle.coding.specs.Field.{plus}
use Rattle.rs_lanes.proofs.LaneLemmas.{HoldsLanes-zip2, byte_lane}
use Rattle.cd_sector.proofs.columns.with_row.Goals as goal

pub returns-clause-bytes : goal.returns-clause-bytes
returns-clause-bytes c = byte_lane 32 c.args.row c.fits-row

pub returns-clause-sums : goal.returns-clause-sums
returns-clause-sums c = HoldsLanes-zip2 32 plus c.args.sum c.args.row c.fits-sum.0 c.fits-row.0

pub returns-clause-values : goal.returns-clause-values
returns-clause-values c = record { size = c.with_multiple.ensures.size; each = c.with_multiple.ensures.each }
