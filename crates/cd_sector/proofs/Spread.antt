-- The bytes of a sector, spread over its words: words of one kind have no byte in common, and have all bytes together.
use Rattle.std.proofs.Common.{◌≡◌, ◌≢◌, ◌⊎◌, inl, inr, ℕ, ◌+◌, ◌-◌, ◌*◌, ◌/◌, ◌%◌, ◌<◌, ◌≤◌, sym, ◌∙◌, ap, arith}
use Rattle.std.proofs.lemmas.Bool.{cases_lt}
use Rattle.cd_sector.specs.Words.{sector_place, word_size}
use Rattle.cd_sector.proofs.Places.{word_size-p, word_size-q, sector_place-p, sector_place-q, sector_place-own}

-- P words have no byte in common
pub apart-p : (v word m k : ℕ) → v < 86 → word < 86 → v ≢ word → sector_place v m ≢ sector_place word k
apart-p v word m k v_below below other same = other (omega (arith, same, sector_place-p v m v_below, sector_place-p word k below))

-- what Q words cover is before their parity
pub covered-q : (word m : ℕ) → 86 ≤ word → m < 43 → sector_place word m < 2248
covered-q word m above below = omega (arith, sector_place-q word m above below)

-- no byte of a Q word is a parity byte of another
pub apart-q : (v word m k : ℕ) → 86 ≤ v → v < 138 → 86 ≤ word → word < 138 → 43 ≤ k → v ≢ word → sector_place v m ≢ sector_place word k
apart-q v word m k v_above v_below above below own other same = either (cases_lt m 43)
  where
    either : (m < 43) ⊎ (43 ≤ m) → ⊥
    either (inl covered) = omega (arith, same, covered-q v m v_above covered, sector_place-own word k above own)
    either (inr also) = other (omega (arith, same, sector_place-own v m v_above also, sector_place-own word k above own))

-- a byte of a Q word on its diagonal is in this P word
pub p_of_q : (word m : ℕ) → 86 ≤ word → m < 43 → (sector_place word m - 12) % 86 ≡ 2 * m + word % 2
p_of_q word m above below =
    let at : sector_place word m ≡ 12 + (88 * m + 86 * ((word - 86) / 2)) % 2236 + (word - 86) % 2 = sector_place-q word m above below in
    omega (arith, at)

-- two Q words, or two bytes of one, meet nowhere on the diagonals
met : (v word m k : ℕ) → 86 ≤ v → v < 138 → 86 ≤ word → word < 138 → m < 43 → k < 43 → sector_place v m ≡ sector_place word k → (m ≡ k) × (v ≡ word)
met v word m k v_above v_below above below m_below k_below same =
    let p_same : 2 * m + v % 2 ≡ 2 * k + word % 2 = sym (p_of_q v m v_above m_below) ∙ ap (λ (at : ℕ). (at - 12) % 86) same ∙ p_of_q word k above k_below in
    let m_same : m ≡ k = omega (arith, p_same) in
    let half_same : v % 2 ≡ word % 2 = omega (arith, p_same) in
    let v_at : sector_place v k ≡ 12 + (88 * k + 86 * ((v - 86) / 2)) % 2236 + (v - 86) % 2 = sector_place-q v k v_above k_below in
    let word_at : sector_place word k ≡ 12 + (88 * k + 86 * ((word - 86) / 2)) % 2236 + (word - 86) % 2 = sector_place-q word k above k_below in
    let same_k : sector_place v k ≡ sector_place word k = ap (sector_place v) (sym m_same) ∙ same in
    (m_same, omega (arith, v_at, word_at, same_k, half_same))

-- Q words have no byte in common
pub apart-qq : (v word m k : ℕ) → 86 ≤ v → v < 138 → 86 ≤ word → word < 138 → v ≢ word → sector_place v m ≢ sector_place word k
apart-qq v word m k v_above v_below above below other same = either (cases_lt k 43)
  where
    covered : k < 43 → (m < 43) ⊎ (43 ≤ m) → ⊥
    covered k_below (inl m_below) = other ((met v word m k v_above v_below above below m_below k_below same).1)
    covered k_below (inr own) = apart-q word v k m above below v_above v_below own (λ is. other (sym is)) (sym same)

    either : (k < 43) ⊎ (43 ≤ k) → ⊥
    either (inl k_below) = covered k_below (cases_lt m 43)
    either (inr own) = apart-q v word m k v_above v_below above below own other same

-- the places of a word differ
pub distinct : (word i k : ℕ) → word < 138 → i < k → sector_place word i ≢ sector_place word k
distinct word i k below before same = either (cases_lt word 86)
  where
    own : 86 ≤ word → 43 ≤ k → (i < 43) ⊎ (43 ≤ i) → ⊥
    own above k_own (inl covered) = omega (arith, same, covered-q word i above covered, sector_place-own word k above k_own)
    own above k_own (inr also) = omega (arith, same, sector_place-own word i above also, sector_place-own word k above k_own)

    of_q : 86 ≤ word → (k < 43) ⊎ (43 ≤ k) → ⊥
    of_q above (inl covered) =
        let equal : i ≡ k = (met word word i k above below above below (omega arith) covered same).0 in
        omega (arith, equal)
    of_q above (inr k_own) = own above k_own (cases_lt i 43)

    either : (word < 86) ⊎ (86 ≤ word) → ⊥
    either (inl p) = omega (arith, same, sector_place-p word i p, sector_place-p word k p)
    either (inr q) = of_q q (cases_lt k 43)

-- all places of words are after the sync, and in the sector
pub sector_place-inside : (word m : ℕ) → word < 138 → m < word_size word → (12 ≤ sector_place word m) × (sector_place word m < 2352)
sector_place-inside word m below within = either (cases_lt word 86)
  where
    of_q : 86 ≤ word → (m < 43) ⊎ (43 ≤ m) → (12 ≤ sector_place word m) × (sector_place word m < 2352)
    of_q above (inl covered) = (omega (arith, sector_place-q word m above covered), omega (arith, covered-q word m above covered))
    of_q above (inr own) = (omega (arith, sector_place-own word m above own), omega (arith, sector_place-own word m above own, word_size-q word above))

    either : (word < 86) ⊎ (86 ≤ word) → (12 ≤ sector_place word m) × (sector_place word m < 2352)
    either (inl p) = (omega (arith, sector_place-p word m p), omega (arith, sector_place-p word m p, word_size-p word p))
    either (inr q) = of_q q (cases_lt m 43)

-- a byte is at this place of its P word
pub p_place : (at : ℕ) → 12 ≤ at → sector_place ((at - 12) % 86) ((at - 12) / 86) ≡ at
p_place at past = omega (arith, sector_place-p ((at - 12) % 86) ((at - 12) / 86) (omega arith))

-- the number of the Q word that a byte before the Q parity is in
unfoldable pub q_word : ℕ → ℕ
q_word at = 86 + 2 * (((at - 12) / 86 + 52 - (at - 12) / 2 % 43) % 26) + at % 2

-- a byte before the Q parity is at this place of its Q word
pub q_place : (at : ℕ) → 12 ≤ at → at < 2248 → sector_place (q_word at) ((at - 12) / 2 % 43) ≡ at
unfolding q_word
q_place at past before =
    let row : ℕ = (at - 12) / 86 in
    let m : ℕ = (at - 12) / 2 % 43 in
    let n : ℕ = (row + 52 - m) % 26 in
    let word : ℕ = 86 + 2 * n + at % 2 in
    let half : (word - 86) / 2 ≡ n = omega arith in
    let low : (word - 86) % 2 ≡ at % 2 = omega arith in
    let there : sector_place word m ≡ 12 + (88 * m + 86 * ((word - 86) / 2)) % 2236 + (word - 86) % 2 = sector_place-q word m (omega arith) (omega arith) in
    let whole : (88 * m + 86 * n) % 2236 ≡ (at - 12) - at % 2 = omega arith in
    omega (arith, there, half, low, whole)

-- a byte's Q word is one of the 52
pub q_word-within : (at : ℕ) → (86 ≤ q_word at) × (q_word at < 138)
unfolding q_word
q_word-within at = (omega arith, omega arith)
