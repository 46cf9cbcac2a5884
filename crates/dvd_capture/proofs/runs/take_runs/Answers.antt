-- The proof of `take_runs` in src/runs.rt.
use Rattle.std.proofs.Common.{◌<◌, ◌++◌, refl, sym, subst, arith}
use Rattle.dvd_capture.specs.Listed.{mark_of}
use Rattle.dvd_capture.specs.Inner.Listing.{BreaksIn, IsBadMarks}
use Rattle.dvd_capture.specs.Parts.{marks_rows}
use Rattle.dvd_capture.proofs.ListedPieces.{broken-length-in, broken-start-in, run-in, runs-same}
use Rattle.dvd_capture.proofs.ListedTaken.{if_err}
use Rattle.dvd_capture.proofs.runs.take_runs.Goals as goal

pub loop-i-init : goal.loop-i-init
loop-i-init c = record { count = refl; runs = λ head count size first. first }

pub returns-in_err-check_start-clause-broken : goal.returns-in_err-check_start-clause-broken
returns-in_err-check_start-clause-broken c = λ head count size first.
    let breaks = c.in_err-check_start.ensures.breaks in
    let inside = c.loop-i-test.true in
    if_err c.from_residual.result c.in_err-check_start.field-0.0 (BreaksIn (head ++ c.args.fields.now)) c.from_residual.ensures.1
    (subst (BreaksIn (head ++ c.args.fields.now)) (sym breaks.0)
    (broken-start-in head c.args.fields.now count c.loop-i.i c.loop-i.taken.end (mark_of (marks_rows c.loop-i.marks)) (c.loop-i.invariant.runs head count size first)
    (omega (arith, inside, size)) c.field-start.result c.field-start.ensures.value (omega (arith, inside)) breaks.1))

pub returns-in_err-check_length-clause-broken : goal.returns-in_err-check_length-clause-broken
returns-in_err-check_length-clause-broken c = λ head count size first.
    let breaks = c.in_err-check_length.ensures.breaks in
    let inside = c.loop-i-test.true in
    if_err c.from_residual-in_err-check_length.result c.in_err-check_length.field-0.0 (BreaksIn (head ++ c.args.fields.now)) c.from_residual-in_err-check_length.ensures.1
    (subst (BreaksIn (head ++ c.args.fields.now)) (sym breaks.0)
    (broken-length-in head c.args.fields.now count c.loop-i.i c.loop-i.taken.end (mark_of (marks_rows c.loop-i.marks)) (c.loop-i.invariant.runs head count size first)
    (omega (arith, inside, size)) c.field-start.result c.field-start.ensures.value c.field-length.result c.field-length.ensures.value (omega (arith, inside))
    c.in_ok-check_start.ensures.valid breaks.1))

pub loop-i-preserved : goal.loop-i-preserved
loop-i-preserved c = record {
  count = refl;
  runs = λ head count size first.
      let inside = c.loop-i-test.true in
      let valid = c.in_ok-check_length.ensures.valid in
      run-in head c.args.fields.now count c.loop-i.i c.loop-i.taken.end (mark_of (marks_rows c.loop-i.marks)) (c.loop-i.invariant.runs head count size first)
      (omega (arith, inside, size)) c.field-start.result c.field-start.ensures.value c.field-length.result c.field-length.ensures.value (omega (arith, inside))
      c.in_ok-check_start.ensures.valid (mark_of (marks_rows c.mark_places.new.marks)) valid.0 valid.1 c.mark_places.ensures;
}

pub returns-in_err-check_start-2-clause-broken : goal.returns-in_err-check_start-2-clause-broken
returns-in_err-check_start-2-clause-broken c = λ head count size first.
    let breaks = c.in_err-check_start-2.ensures.breaks in
    let over = c.loop-i-test.false in let most = c.loop-i.auto.i-end in let some = c.if-fields-ge2.true in let same = c.loop-i.invariant.count in
    if_err c.from_residual-in_err-check_start-2.result c.in_err-check_start-2.field-0.0 (BreaksIn (head ++ c.args.fields.now)) c.from_residual-in_err-check_start-2.ensures.1
    (subst (BreaksIn (head ++ c.args.fields.now)) (sym breaks.0)
    (broken-start-in head c.args.fields.now count c.loop-i.taken.runs c.loop-i.taken.end (mark_of (marks_rows c.loop-i.marks))
    (runs-same head c.args.fields.now count c.loop-i.taken.runs c.loop-i.i c.loop-i.taken.end (mark_of (marks_rows c.loop-i.marks)) c.loop-i.invariant.count (c.loop-i.invariant.runs head count size first))
    (omega (arith, over, most, some, size, same)) c.field.result c.field.ensures.value (omega (arith, over, most, some, same)) breaks.1))

pub returns-in_ok-check_start-2-clause-taken : goal.returns-in_ok-check_start-2-clause-taken
returns-in_ok-check_start-2-clause-taken c = λ head count size first.
    let over = c.loop-i-test.false in let most = c.loop-i.auto.i-end in let same = c.loop-i.invariant.count in record {
      runs = runs-same head c.args.fields.now count c.loop-i.taken.runs c.loop-i.i c.loop-i.taken.end (mark_of (marks_rows c.loop-i.marks)) c.loop-i.invariant.count (c.loop-i.invariant.runs head count size first);
      whole = omega (arith, over, most, same);
      few = omega (arith, over, most, same);
      start = λ is_there. subst (λ v. (v < 37_856) × (0 < c.loop-i.taken.runs → c.loop-i.taken.end < v)) c.field.ensures.value c.in_ok-check_start-2.ensures.valid;
    }

pub returns-else-fields-ge2-clause-taken : goal.returns-else-fields-ge2-clause-taken
returns-else-fields-ge2-clause-taken c = λ head count size first.
    let over = c.loop-i-test.false in let most = c.loop-i.auto.i-end in let same = c.loop-i.invariant.count in let none = c.if-fields-ge2.false in record {
      runs = runs-same head c.args.fields.now count c.loop-i.taken.runs c.loop-i.i c.loop-i.taken.end (mark_of (marks_rows c.loop-i.marks)) c.loop-i.invariant.count (c.loop-i.invariant.runs head count size first);
      whole = omega (arith, over, most, same);
      few = omega (arith, over, most, same);
      start = λ is_there. absurd (omega (arith, over, most, same, none, is_there));
    }

pub returns-in_err-check_start-clause-bad : goal.returns-in_err-check_start-clause-bad
returns-in_err-check_start-clause-bad c =
    if_err c.from_residual.result c.in_err-check_start.field-0.0 IsBadMarks c.from_residual.ensures.1 (subst IsBadMarks (sym c.in_err-check_start.ensures.breaks.0) tt)

pub returns-in_err-check_length-clause-bad : goal.returns-in_err-check_length-clause-bad
returns-in_err-check_length-clause-bad c =
    if_err c.from_residual-in_err-check_length.result c.in_err-check_length.field-0.0 IsBadMarks c.from_residual-in_err-check_length.ensures.1 (subst IsBadMarks (sym c.in_err-check_length.ensures.breaks.0) tt)

pub returns-in_err-check_start-2-clause-bad : goal.returns-in_err-check_start-2-clause-bad
returns-in_err-check_start-2-clause-bad c =
    if_err c.from_residual-in_err-check_start-2.result c.in_err-check_start-2.field-0.0 IsBadMarks c.from_residual-in_err-check_start-2.ensures.1 (subst IsBadMarks (sym c.in_err-check_start-2.ensures.breaks.0) tt)

pub returns-in_ok-check_start-2-clause-within : goal.returns-in_ok-check_start-2-clause-within
returns-in_ok-check_start-2-clause-within c = omega (arith, c.loop-i-test.false, c.loop-i.auto.i-end, c.loop-i.invariant.count)

pub returns-else-fields-ge2-clause-within : goal.returns-else-fields-ge2-clause-within
returns-else-fields-ge2-clause-within c = omega (arith, c.loop-i-test.false, c.loop-i.auto.i-end, c.loop-i.invariant.count)
