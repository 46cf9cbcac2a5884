-- The proof of `fetch_block` in src/captured.rt.
use Rattle.std.proofs.Common.{subst, sym}
use Rattle.dvd_capture.specs.Rule.{HasBlock}
use Rattle.dvd_commands.proofs.Fetched.{fetched_causes, fetched_ended, fetched_full}
use Rattle.dvd_commands.proofs.captured.fetch_block.Goals as goal

pub returns-clause-full : goal.returns-clause-full
returns-clause-full g c = fetched_full c.fetch.result c.args.k c.fetched.result c.fetched.ensures _ c.fetch.ensures.fetches.full

pub returns-clause-stage : goal.returns-clause-stage
returns-clause-stage g c =
    fetched_full c.fetch.result c.args.k c.fetched.result c.fetched.ensures _ (λ is. subst HasBlock (sym (c.fetch.ensures.fetched is)) tt)

pub returns-clause-ended : goal.returns-clause-ended
returns-clause-ended g c = fetched_ended c.fetch.result c.args.k c.fetched.result c.fetched.ensures c.args.form _ _ _ _ c.fetch.ensures.fetches

pub returns-clause-causes : goal.returns-clause-causes
returns-clause-causes g c = fetched_causes c.fetch.result c.args.k c.fetched.result c.fetched.ensures _ _ c.fetch.ensures.fetches.counts
