-- The proof of `completes` in src/erasures.rt.
use Rattle.std.proofs.Common.{arith, sym, ◌∙◌}
use Rattle.std.specs.Cmp.Lexicographic.{bytes_decides}
use Rattle.rs_decode.proofs.LaneSums.{completed}
use Rattle.rs_decode.proofs.erasures.completes.Goals as goal

pub returns-then-this-le16 : goal.returns-then-this-le16
returns-then-this-le16 g c =
    let said = completed g.row.N g.row.R c.args.filled.now c.args.syndromes.now c.args.bytes.now c.args.points.now c.power_sums.result c.deref.result.now
    (omega (arith, c.if-this-le16.true)) c.told-filled c.requires.word_bytes c.requires.size c.requires.values c.power_sums.ensures (c.deref.ensures.0 ∙ c.first_lanes-sums.ensures) in
    let equal = bytes_decides c.deref.result.now c.args.syndromes.now in
    ((λ true_is. said.0 (equal.0 (sym c.eq.ensures ∙ true_is))), (λ codeword. c.eq.ensures ∙ equal.1 (said.1 codeword)))
