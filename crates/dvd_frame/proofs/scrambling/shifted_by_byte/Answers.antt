-- The proof of `shifted_by_byte` in src/scrambling.rt.
use Rattle.std.proofs.Common.{◌≡◌, ℕ, ◌+◌, ◌*◌, ◌/◌, ◌%◌, ◌^◌, arith}
use Rattle.std.specs.Prelude.{bit_and, bit_xor}
use Rattle.std.proofs.lemmas.Nat.{and_mask}
use Rattle.dvd_frame.proofs.Sequences.{shifted_window}
use Rattle.dvd_frame.proofs.scrambling.shifted_by_byte.Goals as goal

pub returns-clause-step : goal.returns-clause-step
returns-clause-step c = λ preset k shows.
    let register : ℕ = c.args.register in
    let both : ℕ = bit_xor (register / 2 ^ 7) (register / 2 ^ 3) in
    let moved : bit_and register 127 * 256 + bit_and both 255 ≡ register % 2 ^ 7 * 256 + both % 2 ^ 8 = omega (arith, and_mask register 7, and_mask both 8) in
    shifted_window preset k register (bit_and register 127 * 256 + bit_and both 255) moved shows
