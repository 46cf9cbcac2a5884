-- The proof of `joined_bytes` in src/lanes.rt.
use Rattle.std.proofs.Common.{get_or}
use Rattle.dvd_merge.proofs.PlaceLanes.{lane-joined, splat-lane}
use Rattle.dvd_merge.proofs.lanes.joined_bytes.Goals as goal

pub returns : goal.returns
returns c = record {
  values_size = c.pick-new_values.ensures.size;
  codes_size = c.pick-new_codes.ensures.size;
  each = λ k below.
      lane-joined (get_or c.args.values k 0) (get_or c.args.codes k 0) (get_or c.args.bytes k 0) _ _ _ (splat-lane 0 k below) (splat-lane 1 k below) (splat-lane 2 k below)
      _ _ _ (c.pick-new_values.ensures.each k below) (c.pick-seen_codes.ensures.each k below) (c.pick-new_codes.ensures.each k below);
}
