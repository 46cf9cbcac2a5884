-- The proof of `known_bytes` in src/lanes.rt.
use Rattle.std.proofs.Common.{◌∙◌, ◌==◌, get_or, if◌then◌else◌}
use Rattle.dvd_merge.proofs.PlaceLanes.{place-byte, splat-lane}
use Rattle.dvd_merge.proofs.lanes.known_bytes.Goals as goal

pub returns : goal.returns
returns c = record {
  size = c.pick.ensures.size;
  each = λ k below.
      c.pick.ensures.each k below
      ∙ (λ i. if get_or c.args.codes k 0 == splat-lane 1 k below i then get_or c.args.values k 0 else splat-lane 0 k below i)
      ∙ place-byte (get_or c.args.values k 0) (get_or c.args.codes k 0);
}
