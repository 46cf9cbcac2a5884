-- The proof of `with_byte` in src/checks.rt.
use Rattle.std.proofs.Common.{ℕ, ◌*◌, ◌%◌, ◌^◌, ap, ◌∙◌}
use Rattle.std.specs.Prelude.{bit_xor}
use Rattle.dvd_frame.specs.Inner.Registers.{divided_from}
use Rattle.dvd_frame.proofs.Division.{byte_read}
use Rattle.dvd_frame.proofs.checks.with_byte.Goals as goal

pub returns : goal.returns
returns c = λ rest.
    ap (λ (entry : ℕ). divided_from (bit_xor (c.args.register * 256 % 2 ^ 32) entry) rest) c.remainder_of.ensures
    ∙ byte_read c.args.register c.args.byte rest
