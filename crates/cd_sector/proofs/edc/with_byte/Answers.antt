-- The proof of `with_byte` in src/edc.rt.
use Rattle.std.proofs.Common.{◌/◌, ap, ◌∙◌}
use Rattle.std.specs.Prelude.{bit_xor}
use Rattle.cd_sector.proofs.Steps.{byte_read}
use Rattle.cd_sector.proofs.edc.with_byte.Goals as goal

pub returns : goal.returns
returns c =
    ap (bit_xor (c.args.register / 256)) c.remainder_of.ensures ∙ byte_read c.args.register c.args.byte
