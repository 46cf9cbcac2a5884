-- Hexadecimal digits from the highest on.
use Rattle.std.proofs.Common.{◌≡◌, ℕ, zero, suc, ◌-◌, ◌/◌, ◌%◌, ◌^◌, ◌<◌, List, [], ◌∷◌, ◌++◌, true, sym, ap, ◌∙◌, arith, append_assoc}
use Rattle.std.specs.Fmt.{digit_glyph}
use Rattle.std.proofs.Math.Nat.{div-div-eq-div-mul, pow-le-pow_right}
use Rattle.dvd_report.specs.Lines.{hexadecimal}

-- the highest of several digits comes first
pub hexadecimal-first : (width number : ℕ) → hexadecimal (suc width) number ≡ digit_glyph true (number / 16 ^ width % 16) ∷ hexadecimal width number
unfolding hexadecimal
hexadecimal-first zero number = ap (λ n. digit_glyph true (n % 16) ∷ []) (omega arith)
hexadecimal-first (suc width) number =
    ap (λ digits. digits ++ digit_glyph true (number % 16) ∷ []) (hexadecimal-first width (number / 16))
    ∙ ap (λ n. digit_glyph true (n % 16) ∷ hexadecimal (suc width) number) (div-div-eq-div-mul number 16 (16 ^ width) ∙ ap (λ n. number / n) (omega arith))

-- so a digit put after a line leaves the digits of the lower places
pub digit-next : (line : List ℕ) (place number digit : ℕ) → 0 < place → digit ≡ digit_glyph true (number / 16 ^ (place - 1) % 16)
    → (line ++ digit ∷ []) ++ hexadecimal (place - 1) number ≡ line ++ hexadecimal place number
digit-next line place number digit some is =
    append_assoc line (digit ∷ []) (hexadecimal (place - 1) number)
    ∙ ap (λ d. line ++ d ∷ hexadecimal (place - 1) number) is
    ∙ ap (λ digits. line ++ digits) (sym (hexadecimal-first (place - 1) number))
    ∙ ap (λ n. line ++ hexadecimal n number) (omega arith)

-- a power of sixteen isn't 0
pub place-some : (place : ℕ) → 0 < 16 ^ place
place-some place = omega (arith, pow-le-pow_right {n = 16} (omega arith) {i = 0} {j = place} (omega arith))

-- places of 32 bits
pub place-fits : (place : ℕ) → place < 8 → 16 ^ place < 2 ^ 32
place-fits place below = omega (arith, pow-le-pow_right {n = 16} (omega arith) {i = place} {j = 7} (omega arith))
