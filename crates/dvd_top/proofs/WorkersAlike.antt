-- Settings that differ in the number of workers alone have the same loops and the same runs.
use Rattle.std.proofs.Common.{inl, inr, ℕ, List}
use Rattle.dvd_capture.specs.declared.form.Form.{Form}
use Rattle.dvd_capture.specs.declared.form.Form.TheVariants.{Plain, Marked, Listed}
use Rattle.dvd_loop.specs.Machine.{Outcome}
use Rattle.dvd_loop.specs.Streams.{Streams}
use Rattle.dvd_commands.specs.CdBound.{IsCorrectableSector, KeepsSectors}
use Rattle.dvd_commands.specs.Commands.{GoesOver}
use Rattle.dvd_top.specs.Headline.{IsLoop, IsPrescribed, IsRun}
use Rattle.dvd_top.specs.Laws.{WorkersChangeNothing}
use Rattle.dvd_commands.specs.Opening.{BreaksHeader, ComesAfterHeader, Opens}
use Rattle.dvd_commands.proofs.EachCommand.{facts_of}
use Rattle.dvd_commands.proofs.OtherWorkers.{header_with, set_workers}
use Rattle.dvd_words.specs.declared.settings.Settings.{Settings}
use Rattle.dvd_top.specs.declared.status.Status.{Status}
use Rattle.dvd_top.proofs.BoundKept.{kept, kept_good}

module _ (workers : ℕ) where
  -- a header breaks the same rules
  breaks_with : (settings : Settings) (own : List ℕ) (at : ℕ) → BreaksHeader settings own at → BreaksHeader (set_workers workers settings) own at
  breaks_with settings own at breaks = elim breaks [
    | inl wrong ↦ inl wrong
    | inr (stated, fault, header, broken, is) ↦ inr (set_workers workers stated, fault, header_with workers settings stated own header, broken, is)
  ]

  -- a loop over the units of their command goes over those of the other
  goes_with : (settings : Settings) (bytes : List ℕ) (outcome : Outcome) → GoesOver settings bytes outcome
      → GoesOver (set_workers workers settings) bytes outcome
  goes_with settings = (facts_of settings.command).alike workers settings

  -- so the same comes after a header
  comes_with : (settings : Settings) (own left : List ℕ) (after : Outcome) → ComesAfterHeader GoesOver settings own left after
      → ComesAfterHeader GoesOver (set_workers workers settings) own left after
  comes_with settings own left after comes = elim comes [
    | inl fewer ↦ inl fewer
    | inr (full, inl (at, breaks, is)) ↦ inr (full, inl (at, breaks_with settings own at breaks, is))
    | inr (full, inr (stated, header, valid, goes)) ↦
        inr (full, inr (set_workers workers stated, header_with workers settings stated own header, valid, goes_with stated left after goes))
  ]

  -- a loop over a capture of any form is one of theirs
  opens_with : (form : Form) (settings : Settings) (bytes : List ℕ) (outcome : Outcome) → Opens form GoesOver settings bytes outcome
      → Opens form GoesOver (set_workers workers settings) bytes outcome
  opens_with Plain settings bytes outcome goes = goes_with settings bytes outcome goes
  opens_with Marked settings bytes outcome goes = goes_with settings bytes outcome goes
  opens_with Listed settings bytes outcome o = record {
    own = o.own;
    left = o.left;
    prefix = o.prefix;
    after = o.after;
    comes = comes_with settings o.own o.left o.after o.comes;
    takes = o.takes;
  }

  -- so is each loop
  loop_with : (settings : Settings) (bytes : List ℕ) (outcome : Outcome) → IsLoop settings bytes outcome → IsLoop (set_workers workers settings) bytes outcome
  loop_with settings = opens_with settings.form settings

  -- a CD-ROM sector whose damage can be corrected is one of theirs
  sector_back : {settings : Settings} {bytes user : List ℕ} {k : ℕ} → IsCorrectableSector (set_workers workers settings) bytes user k → IsCorrectableSector settings bytes user k
  sector_back b = record {
    asked = b.asked;
    whole = b.whole;
    user_size = b.user_size;
    sector = b.sector;
    is_sector = b.is_sector;
    low = b.low;
    high = b.high;
  }

  -- what is kept of CD-ROM sectors
  sectors_with : {settings : Settings} {bytes : List ℕ} {loop : Outcome} → KeepsSectors settings bytes loop → KeepsSectors (set_workers workers settings) bytes loop
  sectors_with keeps = record {
    given = record {
      at_place = λ none user k b. keeps.given.at_place none user k (sector_back b);
      received = λ failed user k b. keeps.given.received failed user k (sector_back b);
    };
    begun = λ user k b. keeps.begun user k (sector_back b);
    alone = λ user k b. keeps.alone user k (sector_back b);
  }

  -- what is prescribed
  prescribed_with : {settings : Settings} {bytes : List ℕ} {loop : Outcome} → IsPrescribed settings bytes loop → IsPrescribed (set_workers workers settings) bytes loop
  prescribed_with {settings = settings} {bytes = bytes} {loop = loop} is =
      let runs = loop_with settings bytes loop is.is_loop in record {
        is_loop = runs;
        all = is.all;
        bound = λ rescues. kept (set_workers workers settings) bytes loop rescues runs;
        good_frames = λ recovers. kept_good (set_workers workers settings) bytes loop recovers runs;
        sectors = λ reads. sectors_with (is.sectors reads);
      }

  -- and each run
  run_with : (settings : Settings) (old new : Streams) (result : Status) → IsRun settings old new result → IsRun (set_workers workers settings) old new result
  run_with settings old new result run = record {
    loop = run.loop;
    line = run.line;
    closes = run.closes;
    moved = run.moved;
    returned = prescribed_with run.returned;
    known = λ bytes told. prescribed_with (run.known bytes told);
    is_status = run.is_status;
    memory = run.memory;
    causes = run.causes;
    complete = run.complete;
    read_fault = λ failed. let (end, none, loop) = run.read_fault failed in (end, none, loop_with settings run.loop.taken (record run.loop { end = end }) loop);
  }

-- the law: what goes for one number of workers goes for the other, and back
pub workers_alike : WorkersChangeNothing
workers_alike settings workers bytes outcome = (
  (loop_with workers settings bytes outcome, loop_with settings.workers (set_workers workers settings) bytes outcome),
  λ old new result. (run_with workers settings old new result, run_with settings.workers (set_workers workers settings) old new result),
)
