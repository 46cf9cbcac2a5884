-- What damage keeps of a captured block.
use Rattle.std.proofs.Common.{◌≡◌, ◌∙◌, refl}
use Rattle.dvd_capture.specs.Works.{stage_of}
use Rattle.dvd_capture.specs.declared.stage.Stage.TheVariants.{Fetched}
use Rattle.dvd_capture.specs.declared.work.Work.{Work}
use Rattle.dvd_exercise.specs.Inner.Kept.{KeepsAllButBytes, KeepsRest}

-- before the first step all is as it was
pub rest-same : (work : Work) → stage_of work ≡ Fetched → KeepsRest work work
rest-same work stage = record { stage = stage; found = record { answers = refl; columns = refl; sectors = refl } }

-- what each of two steps keeps, both keep
pub rest-then : (old mid new : Work) → KeepsRest old mid → KeepsRest mid new → KeepsRest old new
rest-then old mid new first next = record {
  stage = next.stage;
  found = record {
    answers = next.found.answers ∙ first.found.answers;
    columns = next.found.columns ∙ first.found.columns;
    sectors = next.found.sectors ∙ first.found.sectors;
  };
}

-- the same of the marks too
pub but_bytes-same : (work : Work) → stage_of work ≡ Fetched → KeepsAllButBytes work work
but_bytes-same work stage = record { marks = refl; rest = rest-same work stage }

pub but_bytes-then : (old mid new : Work) → KeepsAllButBytes old mid → KeepsAllButBytes mid new → KeepsAllButBytes old new
but_bytes-then old mid new first next = record { marks = next.marks ∙ first.marks; rest = rest-then old mid new first.rest next.rest }
