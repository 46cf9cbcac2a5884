-- The proof of `count_errors` in src/locating.rt.
use Rattle.std.proofs.Common.{get_or, false, arith, ◌∙◌}
use Rattle.rs_decode.proofs.Counting.{error_count-next, error_count-end, error_at-number, error_at-one}
use Rattle.rs_decode.proofs.locating.count_errors.Goals as goal

pub loop-place-preserved : goal.loop-place-preserved
loop-place-preserved c =
    let place = c.loop-place.place in
    let mark = get_or c.args.marks.now place false in
    let byte = get_or c.args.word.now place 0 in
    let got = get_or c.args.received.now place 0 in
    let next = error_count-next c.args.received.now c.args.word.now c.args.marks.now place (omega arith) c.requires.received_fits c.requires.word_fits in
    let share = c.from-count.ensures ∙ error_at-number mark byte got in
    record {
      few = omega (arith, share, error_at-one mark byte got, c.loop-place.invariant.few);
      so_far = omega (arith, share, next, c.loop-place.invariant.so_far);
    }

pub returns : goal.returns
returns c = omega (arith, c.loop-place.invariant.so_far, error_count-end c.args.received.now c.args.word.now c.args.marks.now c.loop-place.place (omega arith))
