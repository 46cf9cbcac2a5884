-- The proof of `kind` of `UnitCommand` for `Converting` in src/convert.rt.
use Rattle.std.proofs.Common.{refl}
use Rattle.dvd_loop.specs.declared.ends.UnitKind.TheVariants.{Good}
use Rattle.dvd_loop.proofs.UnitLemmas.{err_is, write_begun, write_done}
use Rattle.dvd_commands.proofs.CapturedUnits.{captured_done, captured_short}
use Rattle.dvd_commands.proofs.convert.Blocks.{converted}
use Rattle.dvd_commands.proofs.convert.ConvertingUnitCommand.process.Goals as goal

pub returns-in_err-fetch_block-clause-processed : goal.returns-in_err-fetch_block-clause-processed
returns-in_err-fetch_block-clause-processed g c = λ before number ready.
    captured_short _ c.args.self.now.form (λ k own. refl) c.args.k before number _ _ _ _ _ _ _ (err_is _ _ c.from_residual.ensures.1)
    c.in_err-fetch_block.ensures.ended (c.in_err-fetch_block.ensures.causes _ _)

pub returns-in_err-write_listed-clause-processed : goal.returns-in_err-write_listed-clause-processed
returns-in_err-write_listed-clause-processed g c = λ before number ready.
    let m = c.args.self.now in
    let fetched = c.in_ok-fetch_block.ensures.full in
    let part = c.in_err-write_listed.ensures.begun in
    captured_done _ m.form (λ k own. refl) c.args.k before number _ _ _ _ _ _ _ fetched (c.in_ok-fetch_block.ensures.causes _ _) _ _ _
    (write_begun _ part.unit Good (converted m.form fetched.bytes _ _ fetched.rows_are fetched.marks_are part.unit part.is_unit)
    _ _ _ _ _ (err_is _ _ c.from_residual-in_err-write_listed.ensures.1) part.part c.in_err-write_listed.ensures.cause.failed) tt

pub returns-clause-processed : goal.returns-clause-processed
returns-clause-processed g c = λ before number ready.
    let m = c.args.self.now in
    let fetched = c.in_ok-fetch_block.ensures.full in
    let whole = c.in_ok-write_listed.ensures.written in
    captured_done _ m.form (λ k own. refl) c.args.k before number _ _ _ _ _ _ _ fetched (c.in_ok-fetch_block.ensures.causes _ _) _ _ _
    (write_done _ whole.unit Good (converted m.form fetched.bytes _ _ fetched.rows_are fetched.marks_are whole.unit whole.is_unit) _ _ _ _ whole.grows c.in_ok-write_listed.ensures.cause.steady) tt
