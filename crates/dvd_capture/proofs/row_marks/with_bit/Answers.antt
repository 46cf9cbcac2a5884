-- The proof of `with_bit` in src/row_marks.rt.
use Rattle.std.proofs.Common.{◌∙◌, ◌==◌, sym, ap, w8}
use Rattle.std.proofs.lemmas.Nat.Bits.{bit_at_set_same, bit_at_set_other, bit_at_clear_same, bit_at_clear_other}
use Rattle.dvd_capture.proofs.row_marks.with_bit.Goals as goal

pub returns-then-set-clause-same : goal.returns-then-set-clause-same
returns-then-set-clause-same c = ap (λ b. b == 1) (bit_at_set_same w8 c.args.byte c.args.place c.requires) ∙ sym c.if-set.true

pub returns-then-set-clause-others : goal.returns-then-set-clause-others
returns-then-set-clause-others c = λ k below other. bit_at_set_other w8 c.args.byte c.args.place c.requires k other

pub returns-else-set-clause-same : goal.returns-else-set-clause-same
returns-else-set-clause-same c = ap (λ b. b == 1) (bit_at_clear_same w8 c.args.byte c.args.place c.requires) ∙ sym c.if-set.false

pub returns-else-set-clause-others : goal.returns-else-set-clause-others
returns-else-set-clause-others c = λ k below other. bit_at_clear_other w8 c.args.byte c.args.place c.requires k below other
