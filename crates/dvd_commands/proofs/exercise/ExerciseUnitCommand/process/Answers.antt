-- The proof of `kind` of `UnitCommand` for `Exercise` in src/exercise.rt.
use Rattle.std.proofs.Common.{◌≡◌, ◌∙◌, ◌+◌, [], ◌∷◌, length-append, refl, sym, ap, subst, arith}
use Rattle.dvd_block.specs.Buffers.{block_rows, piece_bytes}
use Rattle.dvd_capture.specs.Works.{marks_of_work, rows_of}
use Rattle.dvd_exercise.specs.Damage.{IsHurt, hurt_state}
use Rattle.dvd_exercise.specs.Generator.{state_of}
use Rattle.dvd_layout.specs.declared.layout.Zones.TheVariants.{DataOnly}
use Rattle.dvd_loop.proofs.StreamLemmas.{all_unmoved, stays}
use Rattle.dvd_commands.specs.Exercise.{no_marks}
use Rattle.dvd_commands.specs.Inner.Exercising.{HaveBeenTried}
use Rattle.dvd_commands.proofs.exercise.Blocks.{length-data_plan}
use Rattle.dvd_commands.proofs.exercise.UnitCommand.{no_cause, moved_on}
use Rattle.dvd_commands.proofs.PlanEntries.{has_numbers}
use Rattle.dvd_commands.proofs.exercise.ExerciseUnitCommand.process.Goals as goal

pub plan-entry-requires : goal.plan-entry-requires
plan-entry-requires g c =
    let e = c.args.self.now in
    omega (arith, c.from.ensures, c.requires.unit, length-data_plan e.layout e.shape e.blocks e.sectors)

pub draw_block-requires-clause-numbers : goal.draw_block-requires-clause-numbers
draw_block-requires-clause-numbers g c = has_numbers c.args.self.now.layout DataOnly c.from.result c.plan-entry.result c.plan-entry.ensures

pub read_back-requires-clause-numbers : goal.read_back-requires-clause-numbers
read_back-requires-clause-numbers g c = has_numbers c.args.self.now.layout DataOnly c.from.result c.plan-entry.result c.plan-entry.ensures

pub read_back-requires-clause-right : goal.read_back-requires-clause-right
read_back-requires-clause-right g c =
    let e = c.args.self.now in
    let is_there = rw c.from.ensures at c.plan-entry.ensures in
    let piece = piece_bytes c.draw_block.new.piece in
    let block = block_rows c.draw_block.new.block in
    let work = c.load_hurt.new.work in
    no_cause e.blocks c.args.k (state_of e.rand) e.layout e.shape c.requires.unit e.few c.plan-entry.result is_there
    piece block work c.draw_block.ensures.drawn
    c.draw_block.ensures.made
    (subst (λ x. IsHurt x block no_marks (rows_of work) (marks_of_work work)) c.draw_block.ensures.state c.load_hurt.ensures.hurt)

pub returns-clause-processed : goal.returns-clause-processed
returns-clause-processed g c = λ before number ready.
    let e = c.args.self.now in
    let k = c.args.k in
    let entry = c.plan-entry.result in
    let is_there = rw c.from.ensures at c.plan-entry.ensures in
    let piece = piece_bytes c.draw_block.new.piece in
    let block = block_rows c.draw_block.new.block in
    let work = c.load_hurt.new.work in
    let read = c.read_back.ensures in
    let x = state_of e.rand in
    let new_state = state_of c.load_hurt.new.rand in
    let counts = c.read_back.new.counts in
    let new_work = c.read_back.new.work in
    let after_last = subst (λ n. HaveBeenTried e.seed n x e.counts e.work.now) number ready.0 in
    let next : HaveBeenTried e.seed (k + 1) new_state counts new_work =
    moved_on e.blocks k x e.layout e.shape c.requires.unit e.few entry is_there piece block work c.draw_block.ensures.drawn
    c.draw_block.ensures.made
    (subst (λ x. IsHurt x block no_marks (rows_of work) (marks_of_work work)) c.draw_block.ensures.state c.load_hurt.ensures.hurt)
    e.seed c.bytes.result.now c.bytes.ensures.bytes e.counts counts e.work.now new_work new_state after_last
    (subst (λ x. new_state ≡ hurt_state x) c.draw_block.ensures.state c.load_hurt.ensures.state)
    read.read read.counted read.fixed_most read.failed_most read.stage read.received.received read.received.marks in record {
      own = [];
      steps = [];
      unit = record { whole = refl; does = (refl, refl) };
      moved = stays _;
      causes = all_unmoved _;
      next = (subst (λ n. HaveBeenTried e.seed n new_state counts new_work) (sym (length-append before ([] ∷ []) ∙ ap (λ n. n + 1) number)) next, ready.1, ready.2);
    }
