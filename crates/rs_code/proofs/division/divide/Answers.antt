-- The proof of `divide` in src/division.rt.
use Rattle.std.proofs.Common.{refl, arith}
use Rattle.std.proofs.lemmas.List.Elements.{All-from_get_or}
use Rattle.coding.specs.Words.{IsByte}
use Rattle.rs_code.proofs.Remainders.{IsRemainder-start, IsRemainder-more}
use Rattle.rs_code.proofs.division.divide.Goals as goal

pub loop-byte-init : goal.loop-byte-init
loop-byte-init c =
    let zeros = c.fill.ensures.after (λ y same. same) in
    rw (zeros, c.requires.fits) (IsRemainder-start c.args.generator.now)

pub loop-byte-preserved : goal.loop-byte-preserved
loop-byte-preserved c =
    IsRemainder-more c.args.generator.now c.args.message.now c.read_byte.new.register c.loop-byte.byte-index _ (omega arith) refl (c.read_byte.ensures _ c.loop-byte.invariant)

pub returns-clause-message_bytes : goal.returns-clause-message_bytes
returns-clause-message_bytes c = All-from_get_or IsByte c.args.message.now 0 (λ i inside. omega (arith, c.type_inv.message i))
