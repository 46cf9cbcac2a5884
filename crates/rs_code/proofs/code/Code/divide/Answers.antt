-- The proof of `Code::divide` in src/code.rt.
use Rattle.std.proofs.Common.{◌≡◌, length, ◌∙◌, sym, arith}
use Rattle.std.proofs.lemmas.List.Elements.{All-from_get_or}
use Rattle.coding.specs.Words.{IsByte}
use Rattle.rs_code.proofs.Codewords.{IsCodeword-by_tables}
use Rattle.rs_code.proofs.Generator.{generator_of, length-generator_of}
use Rattle.rs_code.proofs.Multiples.{PI-tables, PO-tables}
use Rattle.rs_code.proofs.code.Code.divide.Goals as goal

pub returns-then-this-eq10-clause-codeword : goal.returns-then-this-eq10-clause-codeword
returns-then-this-eq10-clause-codeword g c =
    let long : length (generator_of 10) ≡ length c.args.parity.now = length-generator_of 10 ∙ sym (c.requires.fits ∙ c.if-this-eq10.true) in
    IsCodeword-by_tables g.row.R 10 c.args.message.now c.divide.new.parity c.if-this-eq10.true c.divide.ensures.message_bytes (c.divide.ensures.remainder (generator_of 10) long PI-tables)

pub returns-then-this-eq16-clause-codeword : goal.returns-then-this-eq16-clause-codeword
returns-then-this-eq16-clause-codeword g c =
    let long : length (generator_of 16) ≡ length c.args.parity.now = length-generator_of 16 ∙ sym (c.requires.fits ∙ c.if-this-eq16.true) in
    IsCodeword-by_tables g.row.R 16 c.args.message.now c.divide-then-this-eq16.new.parity c.if-this-eq16.true c.divide-then-this-eq16.ensures.message_bytes (c.divide-then-this-eq16.ensures.remainder (generator_of 16) long PO-tables)

pub returns-then-this-eq16-clause-parity_bytes : goal.returns-then-this-eq16-clause-parity_bytes
returns-then-this-eq16-clause-parity_bytes g c = All-from_get_or IsByte c.divide-then-this-eq16.new.parity 0 (λ i inside. omega (arith, c.type_inv.parity i))
