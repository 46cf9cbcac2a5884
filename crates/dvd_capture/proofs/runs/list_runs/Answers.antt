-- The proof of `list_runs` in src/runs.rt.
use Rattle.std.proofs.Common.{◌≡◌, ◌∙◌, ◌-◌, ◌++◌, ℕ, List, length, ap, subst, sym, arith, append_assoc}
use Rattle.std.specs.Int.{to_be_bytes, w16}
use Rattle.arrayvec.specs.ArrayVec.{array_vec_len}
use Rattle.dvd_capture.specs.Listed.{mark_of}
use Rattle.dvd_capture.specs.Parts.{marks_rows}
use Rattle.dvd_capture.proofs.RunStarts.{starts-few}
use Rattle.dvd_capture.proofs.ListedWritten.{ArePut, all-put, number-put, one-more-put}
use Rattle.dvd_capture.proofs.runs.list_runs.Goals as goal

pub put_field-requires : goal.put_field-requires
put_field-requires c =
    let few = starts-few (mark_of (marks_rows c.args.marks.now)) in
    let none : array_vec_len c.args.fields.now ≡ 0 = ap length c.requires in record {
      value = omega (arith, few, c.count_runs-number.ensures);
      room = omega (arith, none);
    }

pub loop-run-init : goal.loop-run-init
loop-run-init c =
    let none : array_vec_len c.args.fields.now ≡ 0 = ap length c.requires in record {
      put = λ before size.
          subst (ArePut before (mark_of (marks_rows c.args.marks.now)) 0 0) (sym (c.put_field.ensures.items ∙ ap (λ l. l ++ to_be_bytes w16 c.count_runs-number.result) c.requires))
          (number-put before (mark_of (marks_rows c.args.marks.now)) size c.count_runs-number.result c.count_runs-number.ensures);
      len = omega (arith, none, c.put_field.ensures.len);
      within = omega arith;
    }

pub put_field-requires-in-loop-run-clause-room : goal.put_field-requires-in-loop-run-clause-room
put_field-requires-in-loop-run-clause-room c =
    let few = starts-few (mark_of (marks_rows c.args.marks.now)) in
    omega (arith, few, c.count_runs-number.ensures, c.loop-run-test.true, c.loop-run.invariant.len)

pub put_field-requires-in-loop-run-2-clause-room : goal.put_field-requires-in-loop-run-2-clause-room
put_field-requires-in-loop-run-2-clause-room c =
    let few = starts-few (mark_of (marks_rows c.args.marks.now)) in
    omega (arith, few, c.count_runs-number.ensures, c.loop-run-test.true, c.loop-run.invariant.len, c.put_field-in-loop-run.ensures.len)

-- the field of the run's length
abbrev length_field : goal.After-put_field-in-loop-run-2 → List ℕ
length_field c = to_be_bytes w16 (c.next_place-end.result - c.next_place-start.result)

pub loop-run-preserved : goal.loop-run-preserved
loop-run-preserved c = record {
  put = λ before size.
      subst (ArePut before (mark_of (marks_rows c.args.marks.now)) _ _)
      (sym (c.put_field-in-loop-run-2.ensures.items ∙ ap (λ l. l ++ length_field c) c.put_field-in-loop-run.ensures.items
      ∙ append_assoc c.loop-run.fields.items (to_be_bytes w16 c.next_place-start.result) (length_field c)))
      (one-more-put before (mark_of (marks_rows c.args.marks.now)) size c.loop-run._run c.loop-run.end c.next_place-start.result c.next_place-end.result c.loop-run.fields.items
      (c.loop-run.invariant.put before size)
      (record { starts = c.next_place-start.ensures; ends = c.next_place-end.ensures })
      (omega (arith, c.loop-run-test.true, c.count_runs-number.ensures)));
  len = omega (arith, c.loop-run.invariant.len, c.put_field-in-loop-run.ensures.len, c.put_field-in-loop-run-2.ensures.len);
  within = c.next_place-end.ensures.within;
}

pub returns : goal.returns
returns c = λ before size.
    all-put before (mark_of (marks_rows c.args.marks.now)) size c.loop-run._run c.loop-run.end c.loop-run.fields.items
    (omega (arith, c.loop-run-test.false, c.loop-run.auto._run-end, c.count_runs-number.ensures)) (c.loop-run.invariant.put before size)
