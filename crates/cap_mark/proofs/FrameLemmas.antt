-- A frame that is written with its marks.
use Rattle.std.proofs.Common.{◌≡◌, ◌∙◌, ◌*◌, ℕ, List, [], ◌∷◌, refl, ap, Result}
use Rattle.dvd_loop.specs.Machine.Step.{Write}
use Rattle.dvd_loop.specs.Streams.{Streams}
use Rattle.dvd_loop.specs.UnitCommand.{AreDone}
use Rattle.dvd_loop.specs.declared.ends.LoopEnd.{LoopEnd}
use Rattle.dvd_loop.specs.declared.ends.UnitKind.{UnitKind}
use Rattle.dvd_loop.specs.declared.ends.UnitKind.TheVariants.{Good}
use Rattle.cap_map.specs.declared.span.Span.{Span}
use Rattle.cap_mark.specs.Frames.{IsMarked, marked_frame}
use Rattle.cap_mark.specs.Walk.{AgreeFrom}
use Rattle.cap_mark.proofs.MarkLemmas.{rows_agree}

-- to write the marked frame is what may be done
pub marked : (spans : List Span) (k : ℕ) (own bytes : List ℕ) → bytes ≡ marked_frame spans k own → IsMarked spans k own (Write bytes ∷ []) Good
marked spans k own bytes is = record { writes = ap (λ b. Write b ∷ []) is; good = refl }

-- spans that agree from the first byte of the frame on serve as well
pub done_by : (left spans : List Span) (k : ℕ) (own : List ℕ) → AgreeFrom (2366 * k) left spans → (old new : Streams) (answer : Result UnitKind LoopEnd)
    → AreDone (IsMarked left k own) old new answer → AreDone (IsMarked spans k own) old new answer
done_by left spans k own same old new answer d = record {
  steps = d.steps;
  kind = d.kind;
  may = record { writes = d.may.writes ∙ ap (λ b. Write b ∷ []) (rows_agree left spans (2366 * k) 13 own same); good = d.may.good };
  done = d.done;
  is = d.is;
  causes = d.causes;
}
