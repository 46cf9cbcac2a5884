-- A text of decimal digits alone is read as the number that they write.
use Rattle.std.proofs.Common.{◌≡◌, ◌<◌, ◌≤◌, ◌^◌, ℕ, true, false, List, [], ◌∷◌, length, Some, None, Result, Ok, Err, refl, sym, ap, subst, ◌∙◌, arith, true≢false, nat_lt, lt-ltb, ltb-true, inl, inr}
use Rattle.std.specs.Char.{is_digit, digit_value}
use Rattle.std.specs.List.{list_all}
use Rattle.std.specs.Result.{result_ok, OkIff}
use Rattle.std.specs.Str.Parse.{AllDigits, IsNumeral, ParsesUnsigned, digits_value, without_leading_plus}
use Rattle.std.proofs.lemmas.Bool.{and_parts, le-ltb, cases_lt}
use Rattle.std.proofs.lemmas.Str.Parse.{without_leading_plus_none}
use Rattle.dvd_words.specs.Words.{is_numeral, number_in}

-- digits, as std says it
pub all_digits : (text : List ℕ) → list_all (λ c. is_digit c 10) text ≡ true → AllDigits 10 text
all_digits [] e = tt
all_digits (c ∷ cs) e =
    let h = and_parts (nat_lt (digit_value c) 10) (list_all (λ x. is_digit x 10) cs) e in
    (ltb-true (digit_value c) 10 h.0, all_digits cs h.1)

-- a plus is no digit
pub no_plus : (text : List ℕ) → 0 < length text → list_all (λ c. is_digit c 10) text ≡ true → without_leading_plus text ≡ text
no_plus [] some e = absurd (omega arith)
no_plus (c ∷ cs) some e =
    let h = and_parts (nat_lt (digit_value c) 10) (list_all (λ x. is_digit x 10) cs) e in
    without_leading_plus_none (c ∷ cs) (λ is_plus. true≢false (sym h.0 ∙ ap (λ x. nat_lt (digit_value x) 10) is_plus))

-- one to ten digits are a numeral
pub numeral : (text : List ℕ) → 0 < length text → length text ≤ 10 → list_all (λ c. is_digit c 10) text ≡ true → is_numeral text ≡ true
numeral text some few digits = grind (arith, digits)

-- and their number is read where it is below 2 ^ 32
number_below : (text : List ℕ) → is_numeral text ≡ true → digits_value 10 text < 2 ^ 32 → number_in text ≡ Some (digits_value 10 text)
number_below text is below = rw (is, lt-ltb (digits_value 10 text) (2 ^ 32) below) refl

-- from 2 ^ 32 on it isn't read
number_above : (text : List ℕ) → is_numeral text ≡ true → 2 ^ 32 ≤ digits_value 10 text → number_in text ≡ None
number_above text is above = rw (is, le-ltb (digits_value 10 text) (2 ^ 32) above) refl

-- std reads what the definition says
pub number_read : {E : Type 0} (text : List ℕ) (r : Result ℕ E) → 0 < length text → length text ≤ 10 → list_all (λ c. is_digit c 10) text ≡ true
    → ParsesUnsigned 32 10 text r → result_ok r ≡ number_in text
number_read {E} text r some few digits parsed =
    go r (subst (λ ds. OkIff r (IsNumeral 10 ds × (digits_value 10 ds < 2 ^ 32)) (digits_value 10 ds)) (no_plus text some digits) parsed)
  where
    -- the text is a numeral
    is : is_numeral text ≡ true
    is = numeral text some few digits

    -- by whether std reads it
    go : (x : Result ℕ E) → OkIff x (IsNumeral 10 text × (digits_value 10 text < 2 ^ 32)) (digits_value 10 text) → result_ok x ≡ number_in text
    go (Ok n) h = ap Some h.1 ∙ sym (number_below text is h.0.1)
    go (Err e) h = elim (cases_lt (digits_value 10 text) (2 ^ 32)) [
      | inl below ↦ absurd (h ((some, all_digits text digits), below))
      | inr above ↦ sym (number_above text is above)
    ]
