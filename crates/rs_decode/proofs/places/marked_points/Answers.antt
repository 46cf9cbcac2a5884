-- The proof of `marked_points` in src/places.rt.
use Rattle.std.proofs.Common.{rules, ◌≡◌, ◌<◌, ◌+◌, ◌-◌, ◌++◌, ◌∷◌, [], length, take, arith, ap, sym, subst, ◌∙◌}
use Rattle.std.proofs.lemmas.List.{get_or-take, length-take, take_all}
use Rattle.coding.specs.Field.{alpha, power}
use Rattle.coding.specs.Filling.{marked}
use Rattle.rs_code.specs.Inner.PowerSums.{points_of}
use Rattle.rs_code.proofs.PowerSums.{length-points_of}
use Rattle.rs_decode.specs.Inner.Places.{picked}
use Rattle.rs_decode.specs.Patches.{ArePlaces}
use Rattle.rs_decode.proofs.Fillings.{points-few}
use Rattle.rs_decode.proofs.Marks.{length-picked, picked-none, point-next}
use Rattle.rs_decode.proofs.places.marked_points.Goals as goal
use Rattle.rs_decode.proofs.places.marked_points.Goals.{After-from}

-- the place that is read is one of the word, and the points up to it have its power of alpha after them
next : (c : After-from) → (c.from.result < length c.args.marks.now)
    × (take (c.loop-place.place-index + 1) (picked c.args.marks.now (points_of (length c.args.marks.now)))
    ≡ take c.loop-place.place-index (picked c.args.marks.now (points_of (length c.args.marks.now))) ++ power alpha (length c.args.marks.now - 1 - c.from.result) ∷ [])
next c =
    let marks = c.args.marks.now in
    let places = c.gather_places.new.places in
    let count = c.from-count.result in
    let counted : count ≡ marked marks = c.from-count.ensures ∙ c.count_marks.ensures in
    let i = c.loop-place.place-index in
    let inside : i < count = omega (arith, c.loop-place-test.true, length-take count places) in
    point-next marks places i count c.from.result inside counted (subst (λ n. ArePlaces marks n places) (sym counted) c.gather_places.ensures)
    (c.from.ensures ∙ get_or-take count places i 0 inside)

pub point_of-requires-clause-inside : goal.point_of-requires-clause-inside
point_of-requires-clause-inside c = (next c).0

pub returns-then-count-eq0-clause-points : goal.returns-then-count-eq0-clause-points
returns-then-count-eq0-clause-points c =
    let marks = c.args.marks.now in
    let none : marked marks ≡ 0 = omega (arith, c.from-count.ensures, c.count_marks.ensures, c.if-count-eq0.true) in
    let empty : c.new-points.result.items ≡ [] = search rules in
    (omega (arith, none), empty ∙ sym (picked-none marks (points_of (length marks)) (length-points_of (length marks)) none))

pub returns-then-count-eq0-clause-places : goal.returns-then-count-eq0-clause-places
returns-then-count-eq0-clause-places c = λ i below.
    let empty : c.new-points.result.items ≡ [] = search rules in
    absurd (omega (arith, below, ap length empty))

pub loop-place-preserved : goal.loop-place-preserved
loop-place-preserved c =
    let here = (goal.at.loop-place-preserved c).After-from in
    let before = take c.loop-place.place-index (picked c.args.marks.now (points_of (length c.args.marks.now))) in
    c.push.ensures.items ∙ ap (λ xs. xs ++ c.point_of.result ∷ []) c.loop-place.invariant ∙ ap (λ x. before ++ x ∷ []) c.point_of.ensures ∙ sym (next here).1

pub returns-clause-points : goal.returns-clause-points
returns-clause-points c =
    let marks = c.args.marks.now in
    let count = c.from-count.result in
    let counted = c.from-count.ensures ∙ c.count_marks.ensures in
    let long = length-take count c.gather_places.new.places in (
      omega (arith, counted, c.if-count-most.false),
      c.loop-place.invariant ∙ take_all c.loop-place.place-index (picked marks (points_of (length marks)))
          (omega (arith, long, c.loop-place-test.false, counted, c.if-count-most.false, c.requires.room, length-picked marks (points_of (length marks)) (length-points_of (length marks)))),
    )

pub returns-clause-places : goal.returns-clause-places
returns-clause-places c = λ i below.
    c.gather_places.ensures i (omega (arith, below, points-few c.args.marks.now c.loop-place.points.items (returns-clause-points c).1))
