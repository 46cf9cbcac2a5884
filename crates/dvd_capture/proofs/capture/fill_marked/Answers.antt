-- The proof of `fill_marked` in src/capture.rt.
use Rattle.std.proofs.Common.{sym}
use Rattle.dvd_capture.proofs.MarkedPlaces.{front_filled, front_length}
use Rattle.dvd_capture.proofs.capture.fill_marked.Goals as goal

pub slice_bounds-fill_both-end-2 : goal.slice_bounds-fill_both-end-2
slice_bounds-fill_both-end-2 g c = sym (front_length c.args.rows.now c.requires)

pub fill_both-requires-clause-first : goal.fill_both-requires-clause-first
fill_both-requires-clause-first g c = front_length c.args.rows.now c.requires

pub returns-clause-fetches : goal.returns-clause-fetches
returns-clause-fetches g c =
    rw (front_filled c.fill_both.new.first _ c.fill_both.ensures.first) c.fill_both.ensures.fetches
