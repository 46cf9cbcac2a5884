-- The proof of `put_first` in src/capture.rt.
use Rattle.std.proofs.Common.{◌≡◌, ◌∙◌, ℕ, List, ◌++◌, length, take, refl, sym, subst, arith}
use Rattle.dvd_capture.specs.Inner.Putting.{ArePut}
use Rattle.dvd_capture.specs.Parts.{marks_rows, received_bytes, received_rows}
use Rattle.dvd_capture.specs.declared.form.Form.TheVariants.{Marked}
use Rattle.dvd_capture.proofs.Fetching.{none_put, row_put}
use Rattle.dvd_capture.proofs.MarkedPlaces.{first_record}
use Rattle.dvd_capture.proofs.WorkParts.{marks-height, rows-height}
use Rattle.dvd_capture.proofs.capture.put_first.Goals as goal

pub loop-m-init : goal.loop-m-init
loop-m-init c = record {
  put = λ last. none_put Marked (take 34_645 (received_bytes c.args.received.now) ++ last) _ _;
  rest = λ k more few. refl;
}

pub loop-m-preserved : goal.loop-m-preserved
loop-m-preserved c =
    let came : List ℕ = received_bytes c.args.received.now in
    let m : ℕ = c.loop-m.m in
    let size : length came ≡ 37_856 = sym c.args.received.now.bytes.ok.0 ∙ c.args.received.now.size in record {
      put = λ last.
          rw (c.put_record.ensures.received, c.put_record.ensures.marks)
          (row_put Marked (take 34_645 came ++ last) _ (received_rows c.loop-m.received) (marks_rows c.loop-m.marks) m
          (rows-height c.loop-m.received) (marks-height c.loop-m.marks) (omega arith)
          (c.record-record.ensures ∙ c.loop-m.invariant.rest m (omega arith) (omega arith) ∙ first_record came last m size (omega arith))
          (c.loop-m.invariant.put last));
      rest = λ k more few. c.put_record.ensures.later k (omega (arith, more)) few ∙ c.loop-m.invariant.rest k (omega (arith, more)) few;
    }

pub returns : goal.returns
returns c = λ last.
    let all : c.loop-m.m ≡ 169 = omega arith in
    subst (ArePut Marked (take 34_645 (received_bytes c.args.received.now) ++ last) (received_rows c.loop-m.received) (marks_rows c.loop-m.marks)) all
    (c.loop-m.invariant.put last)
