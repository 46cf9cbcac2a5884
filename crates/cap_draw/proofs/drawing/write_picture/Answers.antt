-- The proof of `write_picture` in src/drawing.rt.
use Rattle.std.proofs.Common.{◌≡◌, ◌∙◌, List, ℕ, Bool, ap, subst}
use Rattle.cap_survey.specs.Survey.{SurveyRead}
use Rattle.cap_survey.specs.declared.cell.Cell.{Cell}
use Rattle.dvd_ports.specs.Whole.{AppendsPrefix}
use Rattle.cap_draw.specs.Picture.{picture}
use Rattle.cap_draw.proofs.drawing.write_picture.Goals as goal

-- what was put is the picture of what was read
is_picture : (read survey : SurveyRead) (cells : List Cell) (closed : Bool) (most : ℕ) (page text : List ℕ) → survey ≡ read → cells ≡ survey.cells → closed ≡ survey.closed
    → page ≡ picture cells closed most → text ≡ page → text ≡ picture read.cells read.closed most
is_picture read survey cells closed most page text same is_cells is_closed put is_text =
    is_text ∙ put ∙ ap (λ l. picture l closed most) is_cells ∙ ap (λ b. picture survey.cells b most) is_closed ∙ ap (λ (r : SurveyRead). picture r.cells r.closed most) same

pub returns-in-Err : goal.returns-in-Err
returns-in-Err g c =
    let text : c.as_slice.result.now ≡ picture c.args.reading.now.read.cells c.args.reading.now.read.closed c.args.most =
    is_picture c.args.reading.now.read c.survey-survey.result.now c.cells.result.now c.is_closed.result c.args.most c.put_picture.new.page c.as_slice.result.now
    c.survey-survey.ensures c.cells.ensures.cells c.is_closed.ensures c.put_picture.ensures.bytes c.as_slice.ensures in
    (subst (AppendsPrefix (g.K.Sink.seen c.args.out.now).bytes (g.K.Sink.seen c.write_whole.new.out).bytes) text c.in-Err.ensures.begun, c.in-Err.ensures.cause.failed)
