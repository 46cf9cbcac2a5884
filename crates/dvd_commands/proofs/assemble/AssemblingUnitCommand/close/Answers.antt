-- The proof of `close` of `UnitCommand` for `Assembling` in src/assemble.rt.
use Rattle.std.proofs.Common.{◌≡◌, ◌∙◌, ◌-◌, [], ◌∷◌, ap, sym, subst, arith}
use Rattle.dvd_assemble.specs.Shelves.{tables_of}
use Rattle.dvd_loop.specs.Machine.Step.{Report}
use Rattle.dvd_loop.specs.UnitCommand.{AreSteps}
use Rattle.dvd_loop.specs.declared.ends.LoopEnd.TheVariants.{WriteFault}
use Rattle.dvd_loop.proofs.UnitLemmas.{err_is, step_begun, step_written, steps_after_write}
use Rattle.dvd_commands.specs.Assemble.{placed_line, text_of}
use Rattle.dvd_commands.proofs.assemble.Frames.{closing_is, closing_of}
use Rattle.dvd_commands.proofs.TwoSteps.{told_steps}
use Rattle.dvd_commands.proofs.assemble.AssemblingUnitCommand.close.Goals as goal

pub returns-in_err-write_blocks-clause-closes : goal.returns-in_err-write_blocks-clause-closes
returns-in_err-write_blocks-clause-closes g c = λ source before number ready.
    let a = c.args.self.now in
    let tables = tables_of a.shelf.now in
    let closing = closing_of tables a.placed a.frames in (
      closing,
      closing_is a.layout a.form before tables a.placed a.frames ready number,
      subst (AreSteps closing _ _) (sym (err_is _ WriteFault c.from_residual.ensures.1))
          (step_begun source _ _ _ (text_of tables) (Report (placed_line a.placed (a.frames - a.placed)) ∷ []) c.in_err-write_blocks.ensures.begun),
    )

pub returns-clause-closes : goal.returns-clause-closes
returns-clause-closes g c = λ source before number ready.
    let a = c.args.self.now in
    let tables = tables_of a.shelf.now in
    let line = placed_line a.placed (a.frames - a.placed) in
    let line_is : c.as_slice.result.now ≡ line = c.as_slice.ensures.bytes ∙ c.placed_line-line.ensures ∙ ap (placed_line a.placed) (omega (arith, c.saturating_sub.ensures)) in
    let known = c.line_reported.ensures.written _ _ _ c.write_whole.ensures in (
      closing_of tables a.placed a.frames,
      closing_is a.layout a.form before tables a.placed a.frames ready number,
      steps_after_write (text_of tables) (Report line ∷ []) _ _ _ c.line_reported.result (step_written source _ _ _ (text_of tables) c.in_ok-write_blocks.ensures.written)
          (told_steps source _ _ _ line c.line_reported.result (rw line_is at known) c.line_reported.ensures.fault),
    )
