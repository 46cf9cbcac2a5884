-- What the laws of the field say of one byte.
use Rattle.std.specs.Prelude.{◌≡◌, ℕ, ◌<◌}
use Rattle.coding.specs.Field.{alpha, product, power}

-- some byte times this one is 1
abbrev pub HasInverse : ℕ → Type 0
HasInverse a = (b : ℕ) × (b < 256) × (product a b ≡ 1)

-- this byte is one of the first 255 powers of alpha
abbrev pub IsPowerOfAlpha : ℕ → Type 0
IsPowerOfAlpha a = (k : ℕ) × (k < 255) × (power alpha k ≡ a)
