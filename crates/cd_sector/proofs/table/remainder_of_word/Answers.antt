-- The proof of `remainder_of_word` in src/table.rt.
use Rattle.std.proofs.Common.{◌≡◌, ℕ, ◌+◌, ◌*◌, ap, ap₂, ◌∙◌, arith}
use Rattle.std.specs.Prelude.{bit_xor, slice_index}
use Rattle.cd_sector.specs.Inner.Register.{after_steps}
use Rattle.cd_sector.proofs.table.remainder_of_word.Goals as goal

pub returns : goal.returns
returns c =
    let n : ℕ = 8 + 8 * c.args.later in
    let steps : (k more : ℕ) → 8 + 8 * (c.args.later + k) ≡ more + n → (byte : ℕ) → after_steps (8 + 8 * (c.args.later + k)) byte ≡ after_steps (more + n) byte =
    λ k more same byte. ap (λ (m : ℕ). after_steps m byte) same in
    ap₂ bit_xor
    (ap₂ bit_xor
    (c.entry.ensures ∙ steps 3 24 (omega arith) (slice_index c.args.word 0))
    (c.entry-2.ensures ∙ steps 2 16 (omega arith) (slice_index c.args.word 1)))
    (ap₂ bit_xor
    (c.entry-3.ensures ∙ steps 1 8 (omega arith) (slice_index c.args.word 2))
    c.entry-4.ensures)
