-- A byte is the sum of its two nibbles, so its product with a factor is the sum of two products.
use Rattle.std.proofs.Common.{◌≡◌, ℕ, ◌+◌, ◌*◌, ◌/◌, ◌%◌, ◌^◌, ◌<◌, List, sym, ◌∙◌, arith}
use Rattle.std.specs.Int.Bits.{xor_zero_r, xor_zero_l}
use Rattle.std.proofs.lemmas.Nat.{xor_block}
use Rattle.coding.specs.Field.{plus, product}
use Rattle.gf_field.proofs.FieldLaws.{plus-product}
use Rattle.coding.specs.Rows.{place}
use Rattle.rs_lanes.specs.Inner.Tables.{IsTable}

-- the low nibble and the high one in its place
pub plus-nibbles : (b : ℕ) → plus (b % 16) (16 * (b / 16)) ≡ b
plus-nibbles b =
    let block : plus (0 * 2 ^ 4 + b % 16) (b / 16 * 2 ^ 4 + 0) ≡ plus 0 (b / 16) * 2 ^ 4 + plus (b % 16) 0 = xor_block 4 0 (b / 16) (b % 16) 0 (omega arith) (omega arith) in
    let low : 0 * 2 ^ 4 + b % 16 ≡ b % 16 = omega arith in
    let high : b / 16 * 2 ^ 4 + 0 ≡ 16 * (b / 16) = omega arith in
    (λ i. plus (sym low i) (sym high i)) ∙ block ∙ rw (xor_zero_l, xor_zero_r) (omega arith)

-- the product of a byte, looked up by its nibbles
pub product-nibbles : (factor : ℕ) (table : List (List ℕ)) (b : ℕ) → b < 256 → IsTable factor table
    → plus (place table 0 (b % 16)) (place table 1 (b / 16)) ≡ product b factor
product-nibbles factor table b byte is =
    rw (is.low (b % 16) (omega arith), is.high (b / 16) (omega arith), ← plus-product, plus-nibbles b)
