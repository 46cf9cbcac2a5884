-- The proof of `fetch_listed` in src/listed.rt.
use Rattle.std.proofs.Common.{subst}
use Rattle.dvd_capture.specs.Parts.{marks_rows}
use Rattle.dvd_capture.specs.Fetching.{FetchCounts}
use Rattle.dvd_capture.proofs.FetchedCounts.{fetched_after}
use Rattle.dvd_capture.proofs.ListedUnit.{rows-ended, rows-failed, rows-unmarked, unit-broken, unit-end, unit-fault, unit-full, unit-short}
use Rattle.dvd_capture.proofs.WorkParts.{marks-height, marks-width}
use Rattle.dvd_capture.proofs.listed.fetch_listed.Goals as goal

pub returns-in-Full : goal.returns-in-Full
returns-in-Full g c =
    let captured = c.fetch_plain.ensures.fetches.full c.in-Full.is in
    let marks = c.fetch_marks.new.marks in
    let answer = c.fetch_marks.result in
    let high = marks-height marks in
    let wide = marks-width marks in
    let fetched = c.fetch_marks.ensures.fetched captured.bytes (rows-unmarked _ _ _ _ captured) in
    let first = subst (λ a. FetchCounts a (g.S.Source.seen c.args.src.now) (g.S.Source.seen c.fetch_plain.new.src)) c.in-Full.is c.fetch_plain.ensures.fetches.counts in record {
      full = unit-full _ _ _ _ _ (marks_rows marks) captured high wide answer fetched;
      end = λ is. absurd (unit-end _ _ _ _ _ (marks_rows marks) captured high wide answer fetched is);
      short = λ count. unit-short _ _ _ _ _ (marks_rows marks) captured high wide answer count fetched;
      fault = unit-fault _ _ _ _ _ (marks_rows marks) captured high wide answer fetched;
      broken = λ at. unit-broken _ _ _ _ _ (marks_rows marks) captured high wide answer at fetched;
      counts = fetched_after answer _ _ _ first c.fetch_marks.ensures.counts;
    }

pub returns-in_default : goal.returns-in_default
returns-in_default g c =
    let rows = c.fetch_plain.ensures.fetches in record {
      full = λ is. absurd (c.in_default.not-Full is);
      end = λ is. rows-ended _ _ 0 (rows.end is);
      short = λ count is. let ends = rows.short count is in (ends.0, rows-ended _ _ count ends.1);
      fault = λ is. rows-failed _ _ (rows.fault is);
      broken = λ at is. absurd (c.fetch_plain.ensures.never at is);
      counts = rows.counts;
    }
