-- Worked values from outside the program, computed from the definitions.
use Rattle.std.specs.Prelude.{◌≡◌, true, false, [], ◌∷◌, refl}
use Rattle.coding.specs.Field.{shift, shifted, partial_product, power, product}
use Rattle.coding.specs.Words.{value}
use Rattle.rs_decode.specs.Errors.{error_count}
use Rattle.coding.specs.Filling.{marked}
use Rattle.rs_decode.specs.Inner.Locator.{with_zeros}
use Rattle.rs_decode.specs.Register.{total, connection}

-- two bytes differ, and one of them is marked
error-count-one : error_count (1 ∷ 2 ∷ 3 ∷ []) (1 ∷ 5 ∷ 6 ∷ []) (false ∷ true ∷ false ∷ []) ≡ 1
unfolding error_count
error-count-one = refl

-- two places of three are marked
marked-two : marked (true ∷ false ∷ true ∷ []) ≡ 2
unfolding marked
marked-two = refl

-- x^2 + 03 x + 02 vanishes at 01 and 02
zeros-two : with_zeros (0x01 ∷ 0x03 ∷ 0x02 ∷ []) (false ∷ false ∷ false ∷ []) (0x04 ∷ 0x02 ∷ 0x01 ∷ []) ≡ false ∷ true ∷ true ∷ []
unfolding with_zeros value power product partial_product shifted shift
zeros-two = refl

-- each number of 01 02 04 08 is 02 times the one before: 08 + 02 * 04 = 0
connection-doubling : connection 1 (0x01 ∷ 0x02 ∷ []) (0x01 ∷ 0x02 ∷ 0x04 ∷ 0x08 ∷ []) 3 ≡ 0
unfolding connection total product partial_product shifted shift
connection-doubling = refl
