-- The proof of `fetch_capture` in src/merge.rt.
use Rattle.std.proofs.Common.{◌<◌, refl, subst, arith}
use Rattle.dvd_capture.proofs.Fetching.{sized-block}
use Rattle.dvd_loop.specs.declared.ends.LoopEnd.TheVariants.{BadMarks, ReadFault, Short}
use Rattle.dvd_loop.proofs.StreamLemmas.{reads_end, reads_on}
use Rattle.dvd_commands.proofs.SourceCounts.{counts_of}
use Rattle.dvd_commands.proofs.merge.Captures.{capture_failed, capture_none, capture_short, held-few}
use Rattle.dvd_commands.proofs.merge.fetch_capture.Goals as goal

pub overflow_add-result : goal.overflow_add-result
overflow_add-result g c =
    let ended = (c.fetch.ensures.fetches.short c.in-Short.bytes c.in-Short.is).1 in
    omega (arith, held-few c.args.form c.args.c c.size.result c.in-Short.bytes c.requires.capture c.size.ensures (subst (λ n. c.in-Short.bytes < n) (sized-block c.args.form c.requires.form ended.bytes) ended.fewer))

pub returns-in-Short-clause-short : goal.returns-in-Short-clause-short
returns-in-Short-clause-short g c =
    let ended = (c.fetch.ensures.fetches.short c.in-Short.bytes c.in-Short.is).1 in
    capture_short c.args.form c.args.k c.args.c c.size.result c.in-Short.bytes (g.S.Source.seen c.args.src.now) (g.S.Source.seen c.fetch.new.src) c.requires.form c.size.ensures ended

pub returns-in-End-clause-short : goal.returns-in-End-clause-short
returns-in-End-clause-short g c =
    capture_none c.args.form c.args.k c.args.c c.size.result (g.S.Source.seen c.args.src.now) (g.S.Source.seen c.fetch.new.src) c.requires.form c.size.ensures (c.fetch.ensures.fetches.end c.in-End.is)

pub returns-in-ReadFault-clause-short : goal.returns-in-ReadFault-clause-short
returns-in-ReadFault-clause-short g c =
    capture_failed c.args.form c.args.k _ (g.S.Source.seen c.args.src.now) (g.S.Source.seen c.fetch.new.src) c.requires.form (c.fetch.ensures.fetches.fault c.in-ReadFault.is)

pub returns-in-BadMarks-clause-short : goal.returns-in-BadMarks-clause-short
returns-in-BadMarks-clause-short g c = absurd (c.requires.form (c.fetch.ensures.fetches.broken c.in-BadMarks.at c.in-BadMarks.is).listed)

pub returns-in-Full-clause-causes : goal.returns-in-Full-clause-causes
returns-in-Full-clause-causes g c = λ output report. reads_on _ _ output report (counts_of _ _ _ _ c.in-Full.is c.fetch.ensures.fetches.counts)

pub returns-in-End-clause-causes : goal.returns-in-End-clause-causes
returns-in-End-clause-causes g c = λ output report. reads_end (Short c.args.k _) _ _ output report refl refl (counts_of _ _ _ _ c.in-End.is c.fetch.ensures.fetches.counts)

pub returns-in-Short-clause-causes : goal.returns-in-Short-clause-causes
returns-in-Short-clause-causes g c = λ output report. reads_end (Short c.args.k _) _ _ output report refl refl (counts_of _ _ _ _ c.in-Short.is c.fetch.ensures.fetches.counts)

pub returns-in-ReadFault-clause-causes : goal.returns-in-ReadFault-clause-causes
returns-in-ReadFault-clause-causes g c = λ output report. reads_end ReadFault _ _ output report refl refl (counts_of _ _ _ _ c.in-ReadFault.is c.fetch.ensures.fetches.counts)

pub returns-in-BadMarks-clause-causes : goal.returns-in-BadMarks-clause-causes
returns-in-BadMarks-clause-causes g c = λ output report. reads_end (BadMarks c.args.k c.in-BadMarks.at) _ _ output report refl refl (counts_of _ _ _ _ c.in-BadMarks.is c.fetch.ensures.fetches.counts)
