-- The proof of `run_lost` in src/lost.rt.
use Rattle.std.proofs.Common.{inl}
use Rattle.cap_top.proofs.lost.run_lost.Goals as goal

pub returns-in-Ok : goal.returns-in-Ok
returns-in-Ok g c = inl (record { layout = c.in-Ok.layout; is_layout = c.in-Ok.ensures.lengths; ended = c.map_image.ensures })
