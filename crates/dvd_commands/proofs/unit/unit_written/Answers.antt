-- The proof of `unit_written` in src/unit.rt.
use Rattle.std.proofs.Common.{refl, subst}
use Rattle.dvd_loop.proofs.UnitLemmas.{write_begun, write_done}
use Rattle.dvd_ports.specs.Whole.{IsWritten}
use Rattle.dvd_commands.proofs.unit.unit_written.Goals as goal

pub returns-in-Err : goal.returns-in-Err
returns-in-Err c = λ bytes source output new_output report written.
    let failed = subst (IsWritten bytes output new_output) c.in-Err.is written in
    write_begun _ _ _ (refl, refl) source _ _ report _ refl failed.begun failed.cause.failed

pub returns-in-Ok : goal.returns-in-Ok
returns-in-Ok c = λ bytes source output new_output report written.
    let whole = subst (IsWritten bytes output new_output) c.in-Ok.is written in
    write_done _ _ _ (refl, refl) source _ _ report whole.written whole.cause.steady
