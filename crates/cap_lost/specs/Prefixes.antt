-- What a text begins with, and what comes after that.
use Rattle.std.specs.Prelude.{ℕ, ◌&&◌, ◌||◌, nat_le, nat_lt, Bool, if◌then◌else◌, List, length, drop, take, decimal, bytes_eq, Option, Some, None, option_and_then}
use Rattle.std.specs.Char.{is_digit}
use Rattle.std.specs.List.{list_all, prefix_len}
use Rattle.cap_map.specs.Numbers.{digits_in}

-- what comes after this prefix of a text, if the text has it
abbrev pub without_prefix : List ℕ → List ℕ → Option (List ℕ)
without_prefix prefix text = if bytes_eq (take (length prefix) text) prefix then Some (drop (length prefix) text) else None

-- how many decimal digits a text begins with
abbrev pub digits_of : List ℕ → ℕ
digits_of = prefix_len (λ c. is_digit c 10)

-- The number that these digits write in decimal, and what comes after them. No number is written with a zero before it.
abbrev pub number_first : List ℕ → Option (ℕ × List ℕ)
number_first text =
    option_and_then (λ n. if bytes_eq (decimal n) (take (digits_of text) text) then Some (n, drop (digits_of text) text) else None)
    (digits_in 10 (take (digits_of text) text))

-- a text without a number below a bound, if it begins with one
abbrev pub after_number : ℕ → List ℕ → Option (List ℕ)
after_number bound text = option_and_then (λ found. if nat_lt found.0 bound then Some found.1 else None) (number_first text)

-- a hexadecimal digit as `dvdecc` writes it
abbrev pub is_capital_digit : ℕ → Bool
is_capital_digit c = is_digit c 10 || (nat_le 65 c && nat_le c 70)

-- a text without eight such digits, if it begins with them
abbrev pub after_eight_digits : List ℕ → Option (List ℕ)
after_eight_digits text = if nat_le 8 (length text) && list_all is_capital_digit (take 8 text) then Some (drop 8 text) else None
