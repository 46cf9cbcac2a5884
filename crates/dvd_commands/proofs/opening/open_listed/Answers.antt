-- The proof of `open_listed` in src/opening.rt.
use Rattle.std.proofs.Common.{◌≡◌, inl, inr, refl, subst}
use Rattle.dvd_ports.specs.Seen.{Seen}
use Rattle.dvd_loop.specs.declared.ends.LoopEnd.TheVariants.{BadHeader, ReadFault, ShortHeader}
use Rattle.dvd_loop.proofs.StreamLemmas.{reads_end, reads_on}
use Rattle.dvd_commands.specs.HeaderEnds.{HeaderCounts, ReadsHeader}
use Rattle.dvd_commands.specs.declared.opening.HeaderEnd.{HeaderEnd}
use Rattle.dvd_commands.proofs.opening.open_listed.Goals as goal

pub returns-in-Found-clause-opened : goal.returns-in-Found-clause-opened
returns-in-Found-clause-opened g c =
    let header = subst (λ end. ReadsHeader end (g.S.Source.seen c.args.src.now) (g.S.Source.seen c.listed_layout.new.src)) c.in-Found.is c.listed_layout.ensures.header in record {
      own = header.own;
      reads = header.reads;
      whole = header.answers.0;
      header = (header.answers.1 c.args.settings.now).0;
      valid = (header.answers.1 c.args.settings.now).1;
      lengths = record { shape = refl; sectors0 = refl; sectors1 = refl; initial = refl; tail = refl };
    }

pub returns-in-BadHeader-clause-ended : goal.returns-in-BadHeader-clause-ended
returns-in-BadHeader-clause-ended g c =
    let header = subst (λ end. ReadsHeader end (g.S.Source.seen c.args.src.now) (g.S.Source.seen c.listed_layout.new.src)) c.in-BadHeader.is c.listed_layout.ensures.header in record {
      own = header.own;
      left = header.left;
      reads = header.reads;
      known = header.known;
      ends = inr (header.answers.0, inl (c.in-BadHeader.at, header.answers.1 c.args.settings.now, refl));
    }

-- the counts of the source by what was answered of its header
counts_as : (found end : HeaderEnd) (old new : Seen) → found ≡ end → HeaderCounts found old new → HeaderCounts end old new
counts_as found end old new is = subst (λ e. HeaderCounts e old new) is

pub returns-in-Found-clause-causes : goal.returns-in-Found-clause-causes
returns-in-Found-clause-causes g c = λ output report. reads_on _ _ output report (counts_as _ _ _ _ c.in-Found.is c.listed_layout.ensures.counts)

pub returns-in-Short-clause-causes : goal.returns-in-Short-clause-causes
returns-in-Short-clause-causes g c = λ output report. reads_end (ShortHeader c.in-Short.bytes) _ _ output report refl refl (counts_as _ _ _ _ c.in-Short.is c.listed_layout.ensures.counts)

pub returns-in-BadHeader-clause-causes : goal.returns-in-BadHeader-clause-causes
returns-in-BadHeader-clause-causes g c = λ output report. reads_end (BadHeader c.in-BadHeader.at) _ _ output report refl refl (counts_as _ _ _ _ c.in-BadHeader.is c.listed_layout.ensures.counts)

pub returns-in-ReadFault-clause-causes : goal.returns-in-ReadFault-clause-causes
returns-in-ReadFault-clause-causes g c = λ output report. reads_end ReadFault _ _ output report refl refl (counts_as _ _ _ _ c.in-ReadFault.is c.listed_layout.ensures.counts)
