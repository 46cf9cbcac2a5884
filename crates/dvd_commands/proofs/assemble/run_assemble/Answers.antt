-- The proof of `run_assemble` in src/assemble.rt.
use Rattle.std.proofs.Common.{refl, arith}
use Rattle.dvd_commands.proofs.assemble.Frames.{blocks_few}
use Rattle.dvd_words.specs.declared.table.Command.TheVariants.{Assemble}
use Rattle.dvd_commands.proofs.opening.HeaderTaken.{gone_over}
use Rattle.dvd_commands.proofs.assemble.run_assemble.Goals as goal

pub returns-clause-performed : goal.returns-clause-performed
returns-clause-performed g c =
    gone_over Assemble c.args.start.now.settings.now c.requires.command (c.in_ok-layout.ensures.valid refl) c.in_ok-layout.layout c.in_ok-layout.ensures.lengths
    _ _ c.assemble_loop.result c.assemble_loop.ensures.follows

pub overflow_cast-blocks : goal.overflow_cast-blocks
overflow_cast-blocks g c =
    let is = c.in_ok-layout.ensures.lengths in
    let few = blocks_few c.in_ok-layout.layout c.args.start.now.settings.now.sectors c.args.start.now.settings.now.sectors1 is.sectors0 is.sectors1 c.requires.few in
    omega (arith, few.1, c.blocks-2.ensures)

pub new-requires-clause-some : goal.new-requires-clause-some
new-requires-clause-some g c =
    let is = c.in_ok-layout.ensures.lengths in
    let few = blocks_few c.in_ok-layout.layout c.args.start.now.settings.now.sectors c.args.start.now.settings.now.sectors1 is.sectors0 is.sectors1 c.requires.few in
    omega (arith, few.0, c.blocks-2.ensures)

pub new-requires-clause-few : goal.new-requires-clause-few
new-requires-clause-few g c =
    let is = c.in_ok-layout.ensures.lengths in
    let few = blocks_few c.in_ok-layout.layout c.args.start.now.settings.now.sectors c.args.start.now.settings.now.sectors1 is.sectors0 is.sectors1 c.requires.few in
    omega (arith, few.1, c.blocks-2.ensures)
