-- The proof of `fetch_runs` in src/listed.rt.
use Rattle.std.proofs.Common.{◌∙◌, ◌++◌, length, ap, subst, arith, length-append}
use Rattle.dvd_ports.proofs.StopLemmas.{goes_on}
use Rattle.dvd_capture.specs.Listed.{mark_of}
use Rattle.dvd_capture.specs.Inner.Listing.{IsStopped}
use Rattle.dvd_capture.specs.Parts.{marks_rows}
use Rattle.dvd_ports.proofs.KnownLemmas.{Consumes-none}
use Rattle.dvd_capture.proofs.ListedPieces.{TakesFields, bad-counts, err-cause, fields-after, fields-begun, fields-whole, stopped-at-field, stopped-in-fields}
use Rattle.dvd_capture.proofs.ListedTaken.{if_err, stopped-at-number, stopped-in-number}
use Rattle.dvd_capture.proofs.listed.fetch_runs.Goals as goal

pub returns-in_err-number-clause-stopped : goal.returns-in_err-number-clause-stopped
returns-in_err-number-clause-stopped g c = λ before are.
    if_err c.from_residual.result c.in_err-number.field-0.0 (IsStopped before _ _) c.from_residual.ensures.1
    (stopped-in-number before (mark_of (marks_rows c.args.marks.now)) are _ _ c.in_err-number.field-0.0 c.in_err-number.ensures.stopped)

pub returns-then-number-gt-MOST_RUNS-clause-stopped : goal.returns-then-number-gt-MOST_RUNS-clause-stopped
returns-then-number-gt-MOST_RUNS-clause-stopped g c = λ before are.
    stopped-at-number before (mark_of (marks_rows c.args.marks.now)) are _ _ c.in_ok-number.number c.in_ok-number.ensures.field c.if-number-gt-MOST_RUNS.true

pub loop-fields-init : goal.loop-fields-init
loop-fields-init g c =
    let none = ap length c.new-fields.ensures in record {
      within = omega (arith, none);
      taken = omega arith;
      fields = λ before are.
          fields-begun before (mark_of (marks_rows c.args.marks.now)) are _ _ c.in_ok-number.number c.in_ok-number.ensures.field c.if-number-gt-MOST_RUNS.false
          c.new-fields.result.items c.new-fields.ensures;
      steady = c.in_ok-number.ensures.cause;
    }

pub returns-in_err-read_fields-clause-stopped : goal.returns-in_err-read_fields-clause-stopped
returns-in_err-read_fields-clause-stopped g c = λ before are.
    if_err c.from_residual-in_err-read_fields.result c.in_err-read_fields.field-0.0 (IsStopped before _ _) c.from_residual-in_err-read_fields.ensures.1
    (stopped-in-fields before c.in_ok-number.number c.loop-fields.fields.items (mark_of (marks_rows c.loop-fields.marks)) c.loop-fields.taken _ _ (c.loop-fields.invariant.fields before are) _
    (omega (arith, c.loop-fields-test.true, c.len.ensures.value)) c.in_err-read_fields.field-0.0 c.in_err-read_fields.ensures.none)

pub returns-in_err-taken-clause-stopped : goal.returns-in_err-taken-clause-stopped
returns-in_err-taken-clause-stopped g c = λ before are.
    let more = c.in_ok-read_fields.ensures.more in
    let is = c.as_slice.ensures.value ∙ more.puts in
    let after = fields-after before c.in_ok-number.number c.loop-fields.fields.items _ c.loop-fields.taken _ _ (c.loop-fields.invariant.fields before are) _
    c.as_slice.result.now more.own is more.within more.taken in
    if_err c.from_residual-in_err-taken.result c.in_err-taken.field-0.0 (IsStopped before _ _) c.from_residual-in_err-taken.ensures.1
    (stopped-at-field before after.number _ _ _ after.came c.in_err-taken.field-0.0 (c.in_err-taken.ensures.broken (before ++ after.number) c.in_ok-number.number after.few after.first))

pub returns-in_err-taken-clause-cause : goal.returns-in_err-taken-clause-cause
returns-in_err-taken-clause-cause g c =
    err-cause c.from_residual-in_err-taken.result c.in_err-taken.field-0.0 _ _ c.from_residual-in_err-taken.ensures.1
    (bad-counts c.in_err-taken.field-0.0 _ _ c.in_err-taken.ensures.bad (goes_on _ _ _ c.loop-fields.invariant.steady c.in_ok-read_fields.ensures.cause))

pub loop-fields-preserved : goal.loop-fields-preserved
loop-fields-preserved g c =
    let more = c.in_ok-read_fields.ensures.more in record {
      within = omega (arith, ap length more.puts, length-append c.loop-fields.fields.items more.own, more.within);
      taken = let w = c.in_ok-taken.ensures.within in omega (arith, w, ap length c.as_slice.ensures.value);
      fields = λ before are.
          let is = c.as_slice.ensures.value ∙ more.puts in
          let after = fields-after before c.in_ok-number.number c.loop-fields.fields.items _ c.loop-fields.taken _ _ (c.loop-fields.invariant.fields before are) _
          c.as_slice.result.now more.own is more.within more.taken in
          subst (λ l. TakesFields before c.in_ok-number.number l (mark_of (marks_rows c.take_runs.new.marks)) c.in_ok-taken.taken
          (g.S.Source.seen c.args.src.now).bytes (g.S.Source.seen c.read_fields.new.src).bytes) c.as_slice.ensures.value
          (record { number = after.number; consumed = after.came; has = c.in_ok-taken.ensures.taken (before ++ after.number) c.in_ok-number.number after.few after.first });
      steady = goes_on _ _ _ c.loop-fields.invariant.steady c.in_ok-read_fields.ensures.cause;
    }

pub returns-clause-all : goal.returns-clause-all
returns-clause-all g c = λ before are.
    fields-whole before c.in_ok-number.number c.loop-fields.fields.items (mark_of (marks_rows c.loop-fields.marks)) c.loop-fields.taken _ _ (c.loop-fields.invariant.fields before are) _
    (omega (arith, c.loop-fields-test.false, c.len.ensures.value, c.loop-fields.invariant.within)) (Consumes-none _)
