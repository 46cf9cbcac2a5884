-- The proof of `run_drawing` in src/exercise.rt.
use Rattle.std.proofs.Common.{◌≡◌, ◌-◌, rules, refl, ap, subst, sym}
use Rattle.dvd_loop.proofs.Silent.{AreWrites, beside, one_write}
use Rattle.dvd_commands.specs.Exercise.{IsLeft, exercise_units}
use Rattle.dvd_commands.proofs.exercise.Trials.{none_after}
use Rattle.dvd_commands.proofs.exercise.run_drawing.Goals as goal

pub run_units-requires : goal.run_units-requires
run_units-requires g c = (none_after _ _ _ _ c.rand_of.ensures refl refl refl, c.requires.adder, c.requires.reader)

pub returns-clause-follows : goal.returns-clause-follows
returns-clause-follows g c = λ report.
    let drawing = c.args.drawing.now in
    beside (exercise_units drawing.seed drawing.blocks)
    (record {
      opens = tt;
      does = λ k before own steps kind done. subst AreWrites (sym done.0) tt;
      closes = λ before steps known. one_write steps _ known.writes;
    })
    _ _ _ _ report c.run_units.result c.run_units.ensures.follows

pub returns-clause-left : goal.returns-clause-left
returns-clause-left g c =
    let command = c.run_units.new.command in
    let seed : command.seed ≡ c.args.drawing.now.seed = ap (λ key. key.0) c.run_units.ensures.same in
    let blocks : command.blocks ≡ c.args.drawing.now.blocks = ap (λ key. key.1) c.run_units.ensures.same in
    subst (IsLeft c.args.drawing.now.seed (c.args.drawing.now.blocks - 1)) (search rules)
    (subst (λ n. IsLeft c.args.drawing.now.seed (n - 1) command.work.now) blocks
    (subst (λ s. IsLeft s (command.blocks - 1) command.work.now) seed c.run_units.ensures.left))
