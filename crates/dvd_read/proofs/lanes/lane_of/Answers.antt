-- The proof of `lane_of` in src/lanes.rt.
use Rattle.std.proofs.Common.{◌≡◌, ◌∙◌, length, take, ap, arith}
use Rattle.std.proofs.Math.Seq.{take-length}
use Rattle.rs_lanes.proofs.ColumnLemmas.{length-column}
use Rattle.coding.specs.Product.{column}
use Rattle.dvd_read.proofs.LaneValues.{lane-syndromes}
use Rattle.dvd_read.proofs.lanes.lane_of.Goals as goal

pub returns-clause-syndromes : goal.returns-clause-syndromes
returns-clause-syndromes g c = λ word same.
    let values = c.args.values.now in
    let all : c.loop-k.k ≡ length (column values c.args.n) = omega (arith, length-column values c.args.n, c.told-values) in
    c.loop-k.invariant ∙ ap (λ m. take m (column values c.args.n)) all ∙ take-length (column values c.args.n)
    ∙ lane-syndromes g.row.R c.args.n values word c.told-values same
