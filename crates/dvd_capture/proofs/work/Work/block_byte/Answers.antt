-- The proof of `Work::block_byte` in src/work.rt.
use Rattle.std.proofs.Common.{◌∙◌, ℕ, List, ap}
use Rattle.coding.specs.Product.{place}
use Rattle.dvd_capture.proofs.Columns.{two_pass_once}
use Rattle.dvd_capture.proofs.WorkParts.{block-place, marks-height, rows-height}
use Rattle.dvd_capture.proofs.work.Work.block_byte.Goals as goal

pub returns-clause-column : goal.returns-clause-column
returns-clause-column c =
    rw c.all.ensures.columns (block-place c.args.self.now.columns c.args.i c.args.j c.requires.row c.requires.place)

pub returns-clause-fixed : goal.returns-clause-fixed
returns-clause-fixed c = λ block agrees.
    returns-clause-column c
    ∙ ap (λ (rows : List (List ℕ)). place rows c.args.i c.args.j)
    (two_pass_once _ _ _ block (rows-height c.args.self.now.received) (marks-height c.args.self.now.marks) (c.args.self.now.fixed c.requires.stage) agrees)
