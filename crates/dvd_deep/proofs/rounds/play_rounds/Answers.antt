-- The proof of `play_rounds` in src/rounds.rt.
use Rattle.std.proofs.Common.{◌≡◌, ◌∙◌, ◌+◌, ◌-◌, ℕ, sym, ap, subst, arith}
use Rattle.dvd_deep.specs.Inner.Buffers.{buffered_state}
use Rattle.dvd_deep.specs.Rounds.{after_rounds, finishes, round}
use Rattle.dvd_deep.proofs.Searches.{NoneFinishesBefore, after_rounds-next, first-found, none-found, none-next, nothing-played}
use Rattle.dvd_deep.proofs.rounds.play_rounds.Goals as goal

pub loop-t-init : goal.loop-t-init
loop-t-init c = record { state = nothing-played (buffered_state c.args.rows.now c.args.marks.now); before = λ k from below. absurd (omega arith) }

pub returns-then-play_round-clause-first : goal.returns-then-play_round-clause-first
returns-then-play_round-clause-first c =
    sym (first-found (buffered_state c.args.rows.now c.args.marks.now) c.loop-t.t (omega arith) (omega arith) c.loop-t.invariant.before
    (ap finishes (sym c.loop-t.invariant.state) ∙ sym c.play_round.ensures.finishes ∙ c.if-play_round.true))

pub returns-then-play_round-clause-state : goal.returns-then-play_round-clause-state
returns-then-play_round-clause-state c =
    c.play_round.ensures.state ∙ ap round c.loop-t.invariant.state ∙ sym (after_rounds-next (buffered_state c.args.rows.now c.args.marks.now) c.loop-t.t (omega arith))

pub loop-t-preserved : goal.loop-t-preserved
loop-t-preserved c = record {
  state = let back : c.loop-t.t + 1 - 1 ≡ c.loop-t.t = omega arith in
      c.play_round.ensures.state ∙ ap round c.loop-t.invariant.state ∙ sym (after_rounds-next (buffered_state c.args.rows.now c.args.marks.now) c.loop-t.t (omega arith))
      ∙ sym (ap (λ (n : ℕ). after_rounds n (buffered_state c.args.rows.now c.args.marks.now)) back);
  before = none-next (buffered_state c.args.rows.now c.args.marks.now) c.loop-t.t (omega arith) c.loop-t.invariant.before
      (ap finishes (sym c.loop-t.invariant.state) ∙ sym c.play_round.ensures.finishes ∙ c.if-play_round.false);
}

pub returns-clause-first : goal.returns-clause-first
returns-clause-first c =
    let last : c.loop-t.t ≡ 5 = omega arith in
    sym (none-found (buffered_state c.args.rows.now c.args.marks.now) (subst (NoneFinishesBefore (buffered_state c.args.rows.now c.args.marks.now)) last c.loop-t.invariant.before))
