-- The proof of `gather_places` in src/places.rt.
use Rattle.std.proofs.Common.{length-set, get_or, false, arith, sym, refl, ◌∙◌, ◌+◌}
use Rattle.rs_decode.proofs.Marks.{ArePlaces-next, marked-few, marked-next, marked-none}
use Rattle.rs_decode.proofs.places.gather_places.Goals as goal

pub loop-place-init : goal.loop-place-init
loop-place-init c = record {
  size = omega (arith, c.told-places);
  few = omega arith;
  count = sym marked-none;
  gathered = λ i inside. absurd (omega (arith, inside));
}

pub loop-place-preserved : goal.loop-place-preserved
loop-place-preserved c =
    let marks = c.args.marks.now in
    let place = c.loop-place.place in
    let count = c.loop-place.count in
    let places = c.loop-place.places in
    let before = c.loop-place.invariant in
    let counted = marked-next marks place (omega arith) in
    let next = ArePlaces-next marks place count places (omega arith) (omega (arith, before.size, before.few, c.requires.short)) before.count before.gathered (get_or marks place false) refl in
    record {
      size = length-set places count place ∙ before.size;
      few = omega (arith, counted, before.count, c.from-count.ensures, marked-few marks (place + 1));
      count = omega (arith, counted, before.count, c.from-count.ensures);
      gathered = λ i inside. next i (omega (arith, inside, c.from-count.ensures));
    }
