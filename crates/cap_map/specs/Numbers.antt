-- Numbers as C writes them: hexadecimal after 0x, octal after 0, else decimal.
use Rattle.std.specs.Prelude.{ℕ, ◌+◌, ◌*◌, ◌^◌, ◌&&◌, ◌||◌, ◌==◌, nat_lt, Bool, if◌then◌else◌, List, [], ◌∷◌, length, drop, slice_index, slice_index_or, Option, Some, None, option_and_then}
use Rattle.std.specs.Char.{digit_value, is_digit}

-- a number with one more digit at its end, if it is a digit of this base and the number stays below 2 ^ 63
abbrev pub with_digit : ℕ → ℕ → ℕ → Option ℕ
with_digit radix value c =
    if is_digit c radix && nat_lt (value * radix + digit_value c) (2 ^ 63) then Some (value * radix + digit_value c) else None

-- a number with all of these digits at its end
abbrev pub with_digits : ℕ → ℕ → List ℕ → Option ℕ
with_digits radix value [] = Some value
with_digits radix value (c ∷ cs) = option_and_then (λ next. with_digits radix next cs) (with_digit radix value c)

-- the number that these digits of a base write; there is at least one
abbrev pub digits_in : ℕ → List ℕ → Option ℕ
digits_in radix text = if length text == 0 then None else with_digits radix 0 text

-- it begins with 0x or 0X
abbrev pub begins_with_0x : List ℕ → Bool
begins_with_0x text = nat_lt 1 (length text) && (slice_index text 0 == 48 && (slice_index text 1 == 120 || slice_index text 1 == 88))

-- the number that a text writes, if it is one and below 2 ^ 63
abbrev pub written_number : List ℕ → Option ℕ
written_number text =
    if begins_with_0x text then digits_in 16 (drop 2 text) else digits_in (if slice_index_or text 0 0 == 48 then 8 else 10) text
