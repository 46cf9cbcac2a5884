-- The proof of `play_round` in src/rounds.rt.
use Rattle.std.proofs.Common.{◌∙◌, ◌&&◌, sym, ap}
use Rattle.std.specs.List.{list_all}
use Rattle.coding.specs.Nearest.{vanishes_at_all}
use Rattle.dvd_deep.specs.Inner.Buffers.{buffered_state}
use Rattle.dvd_deep.specs.Rounds.{State, round}
use Rattle.dvd_deep.proofs.Searches.{answered-as, finishes-by, round-left}
use Rattle.dvd_deep.proofs.rounds.play_round.Goals as goal

pub returns-then-answered-clause-state : goal.returns-then-answered-clause-state
returns-then-answered-clause-state c =
    round-left (buffered_state c.args.rows.now c.args.marks.now) (buffered_state c.answer_rows-failed.new.rows c.answer_rows-failed.new.marks) _ c.answer_rows-failed.result.marks
    c.answer_rows-failed.ensures.failed c.answer_rows-failed.ensures.state c.answer_columns-answered.ensures.state

pub returns-else-answered-clause-state : goal.returns-else-answered-clause-state
returns-else-answered-clause-state c =
    round-left (buffered_state c.args.rows.now c.args.marks.now) (buffered_state c.answer_rows-failed.new.rows c.answer_rows-failed.new.marks) _ c.answer_rows-failed.result.marks
    c.answer_rows-failed.ensures.failed c.answer_rows-failed.ensures.state c.answer_columns-answered.ensures.state

pub returns-then-answered-clause-finishes : goal.returns-then-answered-clause-finishes
returns-then-answered-clause-finishes c =
    let answered = answered-as (buffered_state c.args.rows.now c.args.marks.now) (buffered_state c.answer_rows-failed.new.rows c.answer_rows-failed.new.marks) c.answer_rows-failed.result.marks c.answer_columns-answered.result
    c.answer_rows-failed.ensures.failed c.answer_rows-failed.ensures.state c.answer_columns-answered.ensures.answered in
    c.are_codewords.ensures
    ∙ ap (λ (state : State). list_all (vanishes_at_all 10) state.rows) (returns-then-answered-clause-state c)
    ∙ ap (λ b. b && list_all (vanishes_at_all 10) (round (buffered_state c.args.rows.now c.args.marks.now)).rows) (sym c.if-answered.true ∙ answered)
    ∙ sym (finishes-by (buffered_state c.args.rows.now c.args.marks.now))

pub returns-else-answered-clause-finishes : goal.returns-else-answered-clause-finishes
returns-else-answered-clause-finishes c =
    let answered = answered-as (buffered_state c.args.rows.now c.args.marks.now) (buffered_state c.answer_rows-failed.new.rows c.answer_rows-failed.new.marks) c.answer_rows-failed.result.marks c.answer_columns-answered.result
    c.answer_rows-failed.ensures.failed c.answer_rows-failed.ensures.state c.answer_columns-answered.ensures.answered in
    c.if-answered.false
    ∙ ap (λ b. b && list_all (vanishes_at_all 10) (round (buffered_state c.args.rows.now c.args.marks.now)).rows) (sym c.if-answered.false ∙ answered)
    ∙ sym (finishes-by (buffered_state c.args.rows.now c.args.marks.now))
