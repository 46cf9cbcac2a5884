-- Powers and logarithms as the program's tables have them, and sums of exponents of alpha.
use Rattle.std.proofs.Common.{◌≡◌, ◌≢◌, ℕ, zero, suc, ◌+◌, ◌-◌, ◌<◌, get_or, refl, sym, ap, ◌∙◌, arith}
use Rattle.coding.specs.Field.{alpha, product, power}
use Rattle.gf_field.specs.declared.powers.TheConstants.{POWERS, LOGARITHMS}
use Rattle.gf_field.proofs.Tables.{POWERS-shifted, LOGARITHMS-shifted}
use Rattle.gf_field.proofs.FieldLaws.{product-zero, zero-product, product-one, power-byte, power-add, power-alpha-shifted, power-alpha-255, power-alpha-mod}

-- the table of powers has alpha^k at place k
pub POWERS_at : (k : ℕ) → k < 510 → get_or POWERS k 0 ≡ power alpha k
POWERS_at k below = POWERS-shifted k below ∙ sym (power-alpha-shifted k)

-- the table of logarithms has an exponent below 255 for each byte but 0
pub LOGARITHMS-below : (a : ℕ) → a < 256 → a ≢ 0 → get_or LOGARITHMS a 0 < 255
LOGARITHMS-below zero byte_a nonzero = absurd (nonzero refl)
LOGARITHMS-below (suc a) byte_a nonzero = (LOGARITHMS-shifted a (omega arith)).0

-- alpha to the power of a byte's logarithm is that byte
pub LOGARITHMS-reach : (a : ℕ) → a < 256 → a ≢ 0 → power alpha (get_or LOGARITHMS a 0) ≡ a
LOGARITHMS-reach zero byte_a nonzero = absurd (nonzero refl)
LOGARITHMS-reach (suc a) byte_a nonzero = power-alpha-shifted (get_or LOGARITHMS (suc a) 0) ∙ (LOGARITHMS-shifted a (omega arith)).1

-- ---- sums of exponents

-- a product adds exponents
pub product_by_powers : (a b i j : ℕ) → power alpha i ≡ a → power alpha j ≡ b → power alpha (i + j) ≡ product a b
product_by_powers a b i j is_a is_b = power-add alpha i j ∙ ap (λ x. product x (power alpha j)) is_a ∙ ap (product a) is_b

-- what a product is by its exponents, and with a factor 0
pub ruleset products = (product_by_powers, product-zero, zero-product)

-- an exponent and what it lacks to 255 make 01
pub inverse_by_powers : (a i : ℕ) → i < 255 → power alpha i ≡ a → product a (power alpha (255 - i)) ≡ 1
inverse_by_powers a i below is_a =
    let whole : i + (255 - i) ≡ 255 = omega arith in
    ap (λ x. product x (power alpha (255 - i))) (sym is_a) ∙ sym (power-add alpha i (255 - i)) ∙ ap (power alpha) whole ∙ power-alpha-255

-- a quotient subtracts exponents
pub quotient_by_powers : (a b i j : ℕ) → a < 256 → j < 255 → power alpha i ≡ a → power alpha j ≡ b → product (power alpha (i + 255 - j)) b ≡ a
quotient_by_powers a b i j byte_a below is_a is_b =
    let whole : i + 255 - j + j ≡ i + 255 = omega arith in
    ap (product (power alpha (i + 255 - j))) (sym is_b) ∙ sym (power-add alpha (i + 255 - j) j) ∙ ap (power alpha) whole ∙ power-add alpha i 255
    ∙ ap (product (power alpha i)) power-alpha-255 ∙ product-one (power alpha i) (power-byte alpha i) ∙ is_a

-- what a quotient is by its exponents, and of 0
pub ruleset quotients = (quotient_by_powers, zero-product)

-- exponents count by their rest alone
pub ruleset exponents = (power-alpha-mod)
