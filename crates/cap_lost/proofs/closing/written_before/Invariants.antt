-- What each iteration of the loop in `written_before` keeps: the blocks that it passed hold no image.
use Rattle.std.proofs.Common.{◌≡◌, take}
use Rattle.dvd_layout.specs.Place.{image_before}
use Rattle.dvd_layout.specs.Plan.{plan_of}
use Rattle.cap_lost.proofs.closing.written_before.Given as goal

abbrev pub invariant-loop-later : goal.invariant-loop-later
invariant-loop-later l = image_before l.layout (take l.later (plan_of l.layout l.zones)) ≡ image_before l.layout (take l.k (plan_of l.layout l.zones))
