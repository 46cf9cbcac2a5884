-- The proof of `count_marks` in src/places.rt.
use Rattle.std.proofs.Common.{arith, ap, sym, ◌∙◌, ◌+◌}
use Rattle.std.proofs.lemmas.List.{take_all}
use Rattle.coding.specs.Filling.{marked}
use Rattle.rs_decode.proofs.Marks.{marked-few, marked-next, marked-none}
use Rattle.rs_decode.proofs.places.count_marks.Goals as goal

pub loop-place-init : goal.loop-place-init
loop-place-init c = record {
  few = omega arith;
  so_far = sym marked-none;
}

pub loop-place-preserved : goal.loop-place-preserved
loop-place-preserved c =
    let marks = c.args.marks.now in
    let place = c.loop-place.place in
    let before = c.loop-place.invariant in
    let counted = marked-next marks place (omega arith) in
    record {
      few = omega (arith, counted, before.so_far, c.from-count.ensures, marked-few marks (place + 1));
      so_far = omega (arith, counted, before.so_far, c.from-count.ensures);
    }

pub returns : goal.returns
returns c = c.loop-place.invariant.so_far ∙ ap marked (take_all c.loop-place.place c.args.marks.now (omega arith))
