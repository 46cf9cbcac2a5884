-- A register of at most sixteen bytes in a number of 128 bits: they are its upper bytes, and zeros follow them.
use Rattle.std.specs.Prelude.{◌≡◌, ℕ, ◌-◌, ◌*◌, ◌/◌, ◌%◌, ◌^◌, ◌<◌, List, [], ◌∷◌, ◌++◌, length, replicate, get_or}
use Rattle.std.specs.Int.{bytes_high_first}
use Rattle.coding.specs.Field.{plus}
use Rattle.rs_code.specs.Inner.Polynomials.{mul_scalar}

-- the lowest k bytes of a number, the highest of them first
unfoldable pub register_bytes : ℕ → ℕ → List ℕ
register_bytes k number = bytes_high_first k number

-- the register's upper bytes are these, and the others are zeros
abbrev pub Holds : ℕ → List ℕ → Type 0
Holds register bytes = register_bytes 16 register ≡ bytes ++ replicate (16 - length bytes) 0

-- at the place of each factor below n, the table has the generator times this factor
abbrev pub HasMultiples : List ℕ → List ℕ → ℕ → Type 0
HasMultiples generator table n = (factor : ℕ) → factor < n → Holds (get_or table factor 0) (mul_scalar factor generator)

-- the register after one more byte; the factor is the sum of the byte that leaves the register and the one that comes
unfoldable pub after_byte : List ℕ → ℕ → ℕ → ℕ
after_byte table register byte = plus (register * 2 ^ 8 % 2 ^ 128) (get_or table (plus (register / 2 ^ 120) byte) 0)

-- the register after these bytes, one after the other
unfoldable pub after_bytes : List ℕ → ℕ → List ℕ → ℕ
after_bytes table register [] = register
after_bytes table register (byte ∷ bytes) = after_bytes table (after_byte table register byte) bytes

-- what is left of each entry after one more byte, a zero
abbrev pub AreLater : List ℕ → List ℕ → List ℕ → Type 0
AreLater table entries later = (factor : ℕ) → factor < 256 → get_or later factor 0 ≡ after_byte table (get_or entries factor 0) 0

-- the generator's multiples, and what is left of them one, two and three bytes later
pub record AreTables (generator : List ℕ) (tables : List (List ℕ)) : Type 0 where
  pub words : (factor : ℕ) → get_or (get_or tables 0 []) factor 0 < 2 ^ 128
  pub multiples : HasMultiples generator (get_or tables 0 []) 256
  pub one : AreLater (get_or tables 0 []) (get_or tables 0 []) (get_or tables 1 [])
  pub two : AreLater (get_or tables 0 []) (get_or tables 1 []) (get_or tables 2 [])
  pub three : AreLater (get_or tables 0 []) (get_or tables 2 []) (get_or tables 3 [])
