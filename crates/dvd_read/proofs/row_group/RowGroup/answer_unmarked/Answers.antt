-- The proof of `answer_unmarked` in src/row_group.rt.
use Rattle.std.proofs.Common.{false, replicate, arith}
use Rattle.rs_decode.proofs.NearSearch.{near_of-some}
use Rattle.dvd_read.proofs.row_group.RowGroup.answer_unmarked.Goals as goal

pub returns-in-Some : goal.returns-in-Some
returns-in-Some c = (
  near_of-some 182 10 c.args.row.now c.believe.new.row (replicate 182 false) (omega arith) c.in-Some.ensures.near,
  c.in-Some.ensures.errors,
  c.in-Some.ensures.erased,
)
