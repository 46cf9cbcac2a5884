-- Worked values from outside the program, computed from the definitions.
use Rattle.std.specs.Prelude.{◌≡◌, [], ◌∷◌, refl}
use Rattle.coding.specs.Field.{shift, shifted, partial_product, product, power}
use Rattle.coding.specs.Words.{value}
use Rattle.coding.specs.Distance.{weight, distance}
use Rattle.rs_code.specs.Inner.Polynomials.{sum_of, mul_scalar, times_root}
use Rattle.rs_code.specs.Inner.PowerSums.{power_sum, points_of}
use Rattle.rs_code.specs.Syndromes.{syndromes_of}

-- the coefficients of the IED's generator after the leading 01: (x + 01) (x + 02) = x^2 + 03 x + 02
generator-ied : times_root (times_root [] 0x01) 0x02 ≡ 0x03 ∷ 0x02 ∷ []
unfolding times_root sum_of mul_scalar product partial_product shifted shift
generator-ied = refl

-- the values of six bytes at 01 and at alpha
syndromes-two : syndromes_of 2 (1 ∷ 2 ∷ 3 ∷ 4 ∷ 5 ∷ 6 ∷ []) ≡ 0x07 ∷ 0x04 ∷ []
unfolding syndromes_of value power product partial_product shifted shift
syndromes-two = refl

-- this second value as a power sum
power-sum-one : power_sum (1 ∷ 2 ∷ 3 ∷ 4 ∷ 5 ∷ 6 ∷ []) (points_of 6) 1 ≡ 0x04
unfolding power_sum points_of power product partial_product shifted shift
power-sum-one = refl

-- two bytes of four aren't 0
weight-two : weight (0 ∷ 7 ∷ 0 ∷ 9 ∷ []) ≡ 2
unfolding weight
weight-two = refl

-- two words of three bytes differ at one place
distance-one : distance (1 ∷ 2 ∷ 3 ∷ []) (1 ∷ 5 ∷ 3 ∷ []) ≡ 1
unfolding distance
distance-one = refl
