-- An address and user data have one sector at most, and a sector without fault has no cause.
use Rattle.std.proofs.Common.{◌≡◌, ◌⊎◌, inl, inr, ℕ, ◌-◌, ◌/◌, ◌%◌, ◌<◌, ◌≤◌, List, length, get_or, take, refl, sym, ◌∙◌, ap, subst, arith}
use Rattle.std.proofs.lemmas.Bool.{cases_lt}
use Rattle.std.proofs.lemmas.Grind.{same_number_lists}
use Rattle.std.proofs.lemmas.List.{get_or-take, length-take-le}
use Rattle.coding.specs.Words.{IsCodeword}
use Rattle.rs_code.proofs.Codewords.{encoded_once}
use Rattle.cd_sector.specs.Causes.{IsRightSector, IsCause}
use Rattle.cd_sector.specs.Sector.{IsSector}
use Rattle.cd_sector.specs.Words.{sector_place, word_size, sector_word, IsRight}
use Rattle.cd_sector.specs.declared.checking.CdCause.{CdCause}
use Rattle.cd_sector.specs.declared.checking.CdCause.TheVariants.{Parity, Mode, Address, Edc}
use Rattle.cd_sector.proofs.Places.{word_size-p, word_size-q, sector_place-p, get_or-sector_word}
use Rattle.cd_sector.proofs.Encoding.{word_right}
use Rattle.cd_sector.proofs.Spread.{covered-q, sector_place-inside, p_place}
use Rattle.cd_sector.proofs.GivenBack.{by_word, all_bytes}

-- words of two sectors that are codewords and agree at all but their last two bytes
same_encoded : (n word : ℕ) (a b : List ℕ) → n ≡ word_size word → 2 ≤ n → n ≤ 255 → IsRight a word → IsRight b word
    → ((m : ℕ) → m < n - 2 → get_or a (sector_place word m) 0 ≡ get_or b (sector_place word m) 0) → sector_word a word ≡ sector_word b word
same_encoded n word a b size some short a_right b_right same =
    let a_word : List ℕ = sector_word a word in
    let b_word : List ℕ = sector_word b word in
    let a_code : IsCodeword n 2 a_word = word_right n word a a_word size refl a_right in
    let b_code : IsCodeword n 2 b_word = word_right n word b b_word size refl b_right in
    let a_size : length (take (n - 2) a_word) ≡ n - 2 = length-take-le (n - 2) a_word (omega (arith, a_code.size)) in
    let b_size : length (take (n - 2) b_word) ≡ n - 2 = length-take-le (n - 2) b_word (omega (arith, b_code.size)) in
    let message : take (n - 2) b_word ≡ take (n - 2) a_word =
    same_number_lists (take (n - 2) b_word) (take (n - 2) a_word) (b_size ∙ sym a_size)
    (λ m inside.
    let within : m < n - 2 = omega (arith, b_size) in
    let there : m < word_size word = omega arith in
    get_or-take (n - 2) b_word m 0 within ∙ get_or-sector_word b word m there ∙ sym (same m within)
    ∙ sym (get_or-take (n - 2) a_word m 0 within ∙ get_or-sector_word a word m there)) in
    encoded_once n 2 (take (n - 2) a_word) a_word b_word short (omega arith)
    (record { codeword = a_code; begins = refl }) (record { codeword = b_code; begins = message })

-- all that is before the parity
same_data : (address : ℕ) (user a b : List ℕ) → IsSector address user a → IsSector address user b → (at : ℕ) → at < 2076 → get_or a at 0 ≡ get_or b at 0
same_data address user a b is_a is_b at before =
    sym (get_or-take 2076 a at 0 before) ∙ ap (λ (l : List ℕ). get_or l at 0) (is_a.begins ∙ sym is_b.begins) ∙ get_or-take 2076 b at 0 before

-- two sectors of one address and user data have the same P words
same_p : (address : ℕ) (user a b : List ℕ) → IsSector address user a → IsSector address user b → (word : ℕ) → word < 86 → sector_word a word ≡ sector_word b word
same_p address user a b is_a is_b word below =
    same_encoded 26 word a b (sym (word_size-p word below)) (omega arith) (omega arith) (is_a.words word (omega arith)) (is_b.words word (omega arith))
    (λ m within. same_data address user a b is_a is_b (sector_place word m) (omega (arith, sector_place-p word m below)))

-- and with them the same bytes up to the Q parity
same_covered : (address : ℕ) (user a b : List ℕ) → IsSector address user a → IsSector address user b → (at : ℕ) → 12 ≤ at → at < 2248
    → get_or a at 0 ≡ get_or b at 0
same_covered address user a b is_a is_b at past before =
    let word : ℕ = (at - 12) % 86 in
    let below : word < 86 = omega arith in
    let inside : (at - 12) / 86 < word_size word = omega (arith, word_size-p word below) in
    subst (λ (k : ℕ). get_or a k 0 ≡ get_or b k 0) (p_place at past)
    (by_word a b word ((at - 12) / 86) inside (same_p address user a b is_a is_b word below))

-- and the same Q words
same_q : (address : ℕ) (user a b : List ℕ) → IsSector address user a → IsSector address user b → (word : ℕ) → 86 ≤ word → word < 138 → sector_word a word ≡ sector_word b word
same_q address user a b is_a is_b word above below =
    let size : word_size word ≡ 45 = word_size-q word above in
    same_encoded 45 word a b (sym size) (omega arith) (omega arith) (is_a.words word below) (is_b.words word below)
    (λ m within. same_covered address user a b is_a is_b (sector_place word m)
    ((sector_place-inside word m below (omega (arith, size))).0) (covered-q word m above (omega arith)))

-- an address and user data have one sector at most
pub one_sector : (address : ℕ) (user a b : List ℕ) → IsSector address user a → IsSector address user b → a ≡ b
one_sector address user a b is_a is_b = same_number_lists a b (is_a.size ∙ sym is_b.size) (λ at inside. either at (omega (arith, is_a.size)) (cases_lt at 12))
  where
    either : (at : ℕ) → at < 2352 → (at < 12) ⊎ (12 ≤ at) → get_or a at 0 ≡ get_or b at 0
    either at inside (inl first) = same_data address user a b is_a is_b at (omega arith)
    either at inside (inr past) = all_bytes a b (same_q address user a b is_a is_b) at past inside

-- a sector without fault has no cause
pub no_cause : (sector : List ℕ) (address : ℕ) (cause : CdCause) → IsRightSector sector address → IsCause sector address cause → ⊥
no_cause sector address (Parity word) right cause = cause.1 (right.words word cause.0)
no_cause sector address (Mode byte) right cause = cause.2 (sym cause.1 ∙ right.mode)
no_cause sector address (Address found) right cause = cause.3 right.header_is
no_cause sector address Edc right cause = cause.3 right.edc
