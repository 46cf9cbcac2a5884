-- The proof of `joined` in src/lanes.rt.
use Rattle.std.proofs.Common.{get_or}
use Rattle.dvd_merge.proofs.PlaceLanes.{lane-marked, splat-lane}
use Rattle.dvd_merge.proofs.lanes.joined.Goals as goal

pub returns : goal.returns
returns c = record {
  values_size = c.pick.ensures.size;
  codes_size = c.pick-2.ensures.size;
  each = λ k below.
      lane-marked (get_or c.args.marks k 0) _ _ _ (get_or c.args.values k 0) (get_or c.args.codes k 0) (get_or c.args.bytes k 0) _ _ (splat-lane 0 k below)
      (c.pick.ensures.each k below) (c.pick-2.ensures.each k below) (c.joined_bytes.ensures.each k below);
}
