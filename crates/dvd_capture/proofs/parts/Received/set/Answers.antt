-- The proof of `Received::set` in src/parts.rt.
use Rattle.std.proofs.Common.{◌∙◌, ◌+◌, ◌*◌, List, ℕ, set, sym, length-set}
use Rattle.dvd_capture.proofs.FlatRows.{rows_in-set_byte, rows_in-width}
use Rattle.dvd_capture.proofs.parts.Received.set.Goals as goal

pub returns-clause-received : goal.returns-clause-received
returns-clause-received c =
    rows_in-set_byte c.args.self.now.bytes.items c.args.i c.args.j c.args.byte c.requires.row c.requires.place

pub returns-clause-width : goal.returns-clause-width
returns-clause-width c =
    let bytes : List ℕ = c.args.self.now.bytes.items in
    let at : ℕ = 182 * c.args.i + c.args.j in
    rows_in-width (set bytes at c.args.byte) c.args.i
    (length-set bytes at c.args.byte ∙ sym c.args.self.now.bytes.ok.0 ∙ c.args.self.now.size) c.requires.row
