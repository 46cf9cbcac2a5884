-- A word of a sector whose last two bytes are set.
use Rattle.std.proofs.Common.{◌≡◌, ◌≢◌, ◌⊎◌, inl, inr, ℕ, ◌-◌, ◌<◌, ◌≤◌, List, ◌++◌, length, get_or, set, take, sym, ◌∙◌, ap, subst, arith}
use Rattle.std.proofs.lemmas.Bool.{cases_lt}
use Rattle.std.proofs.lemmas.List.{get_or-take, get_or-set_same, get_or-set_other, length-set, take_at}
use Rattle.coding.specs.Words.{IsCodeword, IsEncoded}
use Rattle.cd_sector.specs.Words.{sector_place, word_size, sector_word, IsRight}
use Rattle.cd_sector.proofs.Spread.{distinct}
use Rattle.cd_sector.proofs.Places.{whole_word}

-- a codeword that is in a sector
pub right_word : (n word : ℕ) (sector bytes : List ℕ) → n ≡ word_size word → bytes ≡ sector_word sector word → IsCodeword n 2 bytes → IsRight sector word
unfolding IsRight
right_word n word sector bytes size is right = subst (λ (k : ℕ). IsCodeword k 2 (sector_word sector word)) size (subst (IsCodeword n 2) is right)

-- a word that is right in a sector is a codeword by itself
pub word_right : (n word : ℕ) (sector bytes : List ℕ) → n ≡ word_size word → bytes ≡ sector_word sector word → IsRight sector word → IsCodeword n 2 bytes
unfolding IsRight
word_right n word sector bytes size is right =
    subst (IsCodeword n 2) (sym is) (subst (λ (k : ℕ). IsCodeword k 2 (sector_word sector word)) (sym size) right)

-- A word is encoded where it is: its front is as it was read, and its last two bytes are written.
pub encoded_right : (n word p q : ℕ) (sector bytes past whole : List ℕ) → n ≡ word_size word → 2 < n → word < 138
    → length bytes ≡ n - 2 → ((m : ℕ) → m < length bytes → get_or bytes m 0 ≡ get_or sector (sector_place word m) 0)
    → IsEncoded n 2 (take (n - 2) (bytes ++ past)) whole → p ≡ sector_place word (n - 2) → q ≡ sector_place word (n - 1) → p < length sector → q < length sector
    → IsRight (set (set sector p (get_or whole (n - 2) 0)) q (get_or whole (n - 1) 0)) word
encoded_right n word p q sector bytes past whole size some below prefix_size read encoded p_is q_is p_inside q_inside =
    right_word n word new whole size (whole_word new word whole (encoded.codeword.size ∙ size) each) encoded.codeword
  where
    x : ℕ
    x = get_or whole (n - 2) 0

    y : ℕ
    y = get_or whole (n - 1) 0

    new : List ℕ
    new = set (set sector p x) q y

    other : (m : ℕ) → sector_place word m ≢ p → sector_place word m ≢ q → get_or new (sector_place word m) 0 ≡ get_or sector (sector_place word m) 0
    other m not_p not_q =
        get_or-set_other (set sector p x) q (sector_place word m) y 0 not_q ∙ get_or-set_other sector p (sector_place word m) x 0 not_p

    prefix : (m : ℕ) → m < n - 2 → get_or whole m 0 ≡ get_or sector (sector_place word m) 0
    prefix m within =
        sym (get_or-take (n - 2) whole m 0 within)
        ∙ ap (λ (l : List ℕ). get_or l m 0) (encoded.begins ∙ take_at bytes past (n - 2) prefix_size)
        ∙ read m (omega arith)

    last : (m : ℕ) → m < n → (m < n - 1) ⊎ (n - 1 ≤ m) → n - 2 ≤ m → get_or whole m 0 ≡ get_or new (sector_place word m) 0
    last m within (inl before) own =
        let is : m ≡ n - 2 = omega arith in
        let there : sector_place word m ≡ p = ap (sector_place word) is ∙ sym p_is in
        ap (λ (k : ℕ). get_or whole k 0) is
        ∙ sym (ap (λ (at : ℕ). get_or new at 0) there
        ∙ get_or-set_other (set sector p x) q p y 0 (λ same. distinct word (n - 2) (n - 1) below (omega arith) (sym p_is ∙ same ∙ q_is))
        ∙ get_or-set_same sector p x 0 p_inside)
    last m within (inr end) own =
        let is : m ≡ n - 1 = omega arith in
        let there : sector_place word m ≡ q = ap (sector_place word) is ∙ sym q_is in
        ap (λ (k : ℕ). get_or whole k 0) is
        ∙ sym (ap (λ (at : ℕ). get_or new at 0) there ∙ get_or-set_same (set sector p x) q y 0 (omega (arith, length-set sector p x)))

    either : (m : ℕ) → m < n → (m < n - 2) ⊎ (n - 2 ≤ m) → get_or whole m 0 ≡ get_or new (sector_place word m) 0
    either m within (inl covered) =
        prefix m covered
        ∙ sym (other m
        (λ same. distinct word m (n - 2) below covered (same ∙ p_is))
        (λ same. distinct word m (n - 1) below (omega arith) (same ∙ q_is)))
    either m within (inr own) = last m within (cases_lt m (n - 1)) own

    each : (m : ℕ) → m < length whole → get_or whole m 0 ≡ get_or new (sector_place word m) 0
    each m inside = let within : m < n = omega (arith, encoded.codeword.size) in either m within (cases_lt m (n - 2))
