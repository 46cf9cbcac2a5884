-- The proof of `mark_places` in src/places.rt.
use Rattle.std.proofs.Common.{◌∙◌, ap}
use Rattle.dvd_capture.specs.Listed.{mark_of}
use Rattle.dvd_capture.specs.Parts.{marks_rows}
use Rattle.dvd_capture.proofs.MarkPlaces.{mark-more}
use Rattle.dvd_capture.proofs.places.mark_places.Goals as goal

pub loop-place-preserved : goal.loop-place-preserved
loop-place-preserved c = λ place below.
    mark-more (mark_of (marks_rows c.args.marks.now)) (mark_of (marks_rows c.loop-place.marks)) (mark_of (marks_rows c.mark_place.new.marks))
    c.args.start c.loop-place.place place c.loop-place.auto.place (c.loop-place.invariant place below)
    (c.mark_place.ensures.others place below)
    (λ same. ap (mark_of (marks_rows c.mark_place.new.marks)) same ∙ c.mark_place.ensures.same)
