-- The proof of `edc_of_parts` in src/checks.rt.
use Rattle.std.proofs.Common.{◌++◌, ◌∙◌, arith}
use Rattle.dvd_frame.proofs.Division.{edc_read}
use Rattle.dvd_frame.proofs.checks.edc_of_parts.Goals as goal

pub returns : goal.returns
returns c =
    c.write_u32.ensures
    ∙ edc_read c.divide_parts-register.result (c.args.prefix.now ++ c.args.back.now) (omega arith) c.divide_parts-register.ensures
