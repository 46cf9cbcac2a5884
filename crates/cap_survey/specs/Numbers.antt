-- Texts and numbers at the beginning of a text.
use Rattle.std.specs.Prelude.{ℕ, ◌+◌, ◌*◌, ◌^◌, ◌&&◌, ◌||◌, ◌==◌, nat_le, nat_lt, Bool, if◌then◌else◌, List, [], ◌∷◌, length, take, drop, slice_index, Option, Some, None, option_and_then, option_map}
use Rattle.std.specs.Char.{digit_value, is_ascii_digit, is_digit}
use Rattle.std.specs.List.{list_all, prefix_len}
use Rattle.std.specs.Str.{bytes_eq}
use Rattle.cap_survey.specs.declared.number.Number.{Number}

-- what comes after this text at the beginning of another
abbrev pub after_text : List ℕ → List ℕ → Option (List ℕ)
after_text name text = if bytes_eq (take (length name) text) name then Some (drop (length name) text) else None

-- how many digits a text begins with
abbrev pub digit_count : List ℕ → ℕ
digit_count = prefix_len is_ascii_digit

-- a number with one more decimal digit at its end, if it stays below 10 ^ 18
abbrev pub with_digit : ℕ → ℕ → Option ℕ
with_digit value c =
    if is_digit c 10 && nat_lt (10 * value + digit_value c) (10 ^ 18) then Some (10 * value + digit_value c) else None

-- a number with all of these digits at its end
abbrev pub with_digits : ℕ → List ℕ → Option ℕ
with_digits value [] = Some value
with_digits value (c ∷ cs) = option_and_then (λ next. with_digits next cs) (with_digit value c)

-- a number, and what comes after it
pub record NumberAt : Type 0 where
  pub value : ℕ
  pub rest : List ℕ

-- a number as the code has it
abbrev pub number_seen : Number → NumberAt
number_seen n = record { value = n.value; rest = n.rest.now }

-- The number in decimal at the beginning of a text: below 10 ^ 18, and without a zero before other digits.
abbrev pub leading_number : List ℕ → Option NumberAt
leading_number text =
    if digit_count text == 0 || (nat_lt 1 (digit_count text) && slice_index text 0 == 48) then None
    else option_map (λ value. record { value = value; rest = drop (digit_count text) text }) (with_digits 0 (take (digit_count text) text))

-- the number after this text at the beginning of another
abbrev pub number_after : List ℕ → List ℕ → Option NumberAt
number_after name text = option_and_then leading_number (after_text name text)

-- a hexadecimal digit, in capitals
abbrev pub is_hexadecimal : ℕ → Bool
is_hexadecimal c = (nat_le 48 c && nat_le c 57) || (nat_le 65 c && nat_le c 70)

abbrev pub are_hexadecimal : List ℕ → Bool
are_hexadecimal = list_all is_hexadecimal
