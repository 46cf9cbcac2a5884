-- The proof of `put_in_order` in src/order.rt.
use Rattle.std.proofs.Common.{◌∙◌, ℕ, List, arith}
use Rattle.dvd_capture.proofs.RecordedFrames.{all_in_order, frame_more, parity_more}
use Rattle.dvd_capture.proofs.order.put_in_order.Goals as goal

pub loop-f-preserved : goal.loop-f-preserved
loop-f-preserved c =
    let f : ℕ = c.loop-f.f in
    let came : List ℕ = c.args.bytes.now in
    record {
      size = c.move_frame.ensures.size;
      moved = frame_more came c.loop-f.bytes c.move_frame.new.bytes f (omega arith)
          c.move_frame.ensures.moved c.move_frame.ensures.before c.loop-f.invariant.rest c.loop-f.invariant.moved;
      rest = λ i from. c.move_frame.ensures.after i (omega (arith, from)) ∙ c.loop-f.invariant.rest i (omega (arith, from));
      kept = parity_more came c.loop-f.bytes c.loop-f.parity c.keep_parity.new.parity f
          c.keep_parity.ensures.row c.keep_parity.ensures.before c.loop-f.invariant.rest c.loop-f.invariant.kept;
    }

pub returns-clause-rows : goal.returns-clause-rows
returns-clause-rows c =
    all_in_order c.args.bytes.now c.loop-f.bytes c.loop-f.parity c.set_rows.new.bytes c.set_rows.ensures.before
    (λ k low. c.set_rows.ensures.set k (omega (arith, low)))
    (λ i low. c.loop-f.invariant.moved i (omega (arith, low)))
    (λ g low. c.loop-f.invariant.kept g (omega (arith, low)))
