-- The proof of `read_frame` in src/assemble.rt.
use Rattle.dvd_commands.proofs.Fetched.{fetched_causes, fetched_full, frame_short}
use Rattle.dvd_commands.proofs.assemble.read_frame.Goals as goal

pub returns-clause-full : goal.returns-clause-full
returns-clause-full g c = fetched_full c.fetch_frame.result c.args.k c.fetched.result c.fetched.ensures _ c.fetch_frame.ensures.full

pub returns-clause-short : goal.returns-clause-short
returns-clause-short g c =
    let e = c.fetch_frame.ensures in
    let old = g.S.Source.seen c.args.src.now in
    frame_short c.fetch_frame.result c.args.k c.fetched.result c.fetched.ensures c.args.form old (g.S.Source.seen c.fetch_frame.new.src) e.end e.short e.fault e.no_rule

pub returns-clause-causes : goal.returns-clause-causes
returns-clause-causes g c = fetched_causes c.fetch_frame.result c.args.k c.fetched.result c.fetched.ensures _ _ c.fetch_frame.ensures.counts
