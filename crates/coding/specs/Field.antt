-- The field of 256 elements over which the codes of a DVD are defined (ECMA-267, clauses 16.2 and 18: the primitive
-- polynomial x^8 + x^4 + x^3 + x^2 + 1).
-- An element is a byte: its bit k is the coefficient of x^k. A product is a sum of shifts here; the code adds
-- logarithms.
-- A law that doesn't say that its numbers are bytes holds for all numbers, since a product depends on the lowest eight
-- bits of its factors alone.
use Rattle.std.specs.Prelude.{ℕ, zero, suc, ◌-◌, ◌*◌, ◌%◌, bit_xor, if◌then◌else◌, nat_lt}
use Rattle.std.specs.Int.{bit_at}

-- the element x, a root of the polynomial
abbrev pub alpha : ℕ
alpha = 2

-- the sum of two elements, which is their difference too
abbrev pub plus : ℕ → ℕ → ℕ
plus a b = bit_xor a b

-- a byte times x: a term x^8 is replaced by x^4 + x^3 + x^2 + 1
unfoldable pub shift : ℕ → ℕ
shift a = if nat_lt a 128 then 2 * a else bit_xor (2 * a - 256) 0x1D

-- a byte times x^k
unfoldable pub shifted : ℕ → ℕ → ℕ
shifted a zero = a
shifted a (suc k) = shift (shifted a k)

-- the sum of a times x^k over the set bits k of b that are below n
unfoldable pub partial_product : ℕ → ℕ → ℕ → ℕ
partial_product a b zero = 0
partial_product a b (suc k) = plus (partial_product a b k) (bit_at b k * shifted a k)

-- the product of two elements
unfoldable pub product : ℕ → ℕ → ℕ
product a b = partial_product (a % 256) b 8

-- an element to the power k
unfoldable pub power : ℕ → ℕ → ℕ
power a zero = 1
power a (suc k) = product (power a k) a
