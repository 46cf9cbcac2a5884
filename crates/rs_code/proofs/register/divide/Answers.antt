-- The proof of `divide` in src/register.rt.
use Rattle.std.proofs.Common.{[], ◌++◌, length, arith}
use Rattle.std.proofs.lemmas.List.Elements.{All-from_get_or}
use Rattle.coding.specs.Words.{IsByte}
use Rattle.rs_code.proofs.Words.{written_remainder}
use Rattle.rs_code.proofs.register.divide.Goals as goal

pub returns-clause-remainder : goal.returns-clause-remainder
returns-clause-remainder c = λ generator long are.
    let message = c.args.message.now in
    let others = c.as_chunks.result.1.now in
    written_remainder generator message c.put_register.new.parity others c.args.tables.now c.as_chunks.result.0.now c.with_words.result c.with_bytes.result (length c.args.parity.now)
    c.requires.some_parity c.requires.fits long are (All-from_get_or IsByte message 0 (λ i inside. omega (arith, c.type_inv.message i)))
    c.as_chunks.ensures.front c.as_chunks.ensures.back (c.with_words.ensures generator are (others ++ [])) (c.with_bytes.ensures []) c.put_register.ensures

pub returns-clause-message_bytes : goal.returns-clause-message_bytes
returns-clause-message_bytes c = All-from_get_or IsByte c.args.message.now 0 (λ i inside. omega (arith, c.type_inv.message i))
