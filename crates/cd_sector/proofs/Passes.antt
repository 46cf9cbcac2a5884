-- What the two passes make of words that have a near codeword.
use Rattle.std.proofs.Common.{◌≡◌, ◌⊎◌, inl, inr, ℕ, zero, suc, ◌+◌, ◌<◌, ◌≤◌, List, length, get_or, set, false, refl, sym, ◌∙◌, ap, arith, Option, Some, None}
use Rattle.std.specs.Prelude.{replicate}
use Rattle.std.proofs.lemmas.Bool.{cases_lt}
use Rattle.std.proofs.lemmas.List.{length-set, get_or-set_same, get_or-set_other}
use Rattle.coding.specs.Nearest.{near_of}
use Rattle.cd_sector.specs.Repair.{with_word_bytes, with_word, near_word, with_p_words, word_marks, with_q_words}
use Rattle.cd_sector.specs.Words.{sector_place, word_size, sector_word}
use Rattle.cd_sector.proofs.Places.{whole_word, same_word, sector_place-p, word_size-p}
use Rattle.cd_sector.proofs.NearWords.{with_word-other, later_p}
use Rattle.cd_sector.proofs.Spread.{apart-p, apart-qq, distinct, sector_place-inside}

-- bytes that are set leave the sector's length
length-with_word_bytes : (sector : List ℕ) (word : ℕ) (bytes : List ℕ) (count : ℕ) → length (with_word_bytes sector word bytes count) ≡ length sector
unfolding with_word_bytes
length-with_word_bytes sector word bytes zero = refl
length-with_word_bytes sector word bytes (suc m) =
    length-set (with_word_bytes sector word bytes m) (sector_place word m) (get_or bytes m 0) ∙ length-with_word_bytes sector word bytes m

-- a word that is set leaves the sector's length
length-with_word : (sector : List ℕ) (word : ℕ) (found : Option (List ℕ)) → length (with_word sector word found) ≡ length sector
unfolding with_word
length-with_word sector word None = refl
length-with_word sector word (Some bytes) = length-with_word_bytes sector word bytes (word_size word)

-- a byte that was written is there
with_word_bytes-own : (sector : List ℕ) (word : ℕ) (bytes : List ℕ) (count m : ℕ) → length sector ≡ 2352 → word < 138 → count ≤ word_size word → m < count
    → get_or (with_word_bytes sector word bytes count) (sector_place word m) 0 ≡ get_or bytes m 0
unfolding with_word_bytes
with_word_bytes-own sector word bytes zero m size below within inside = absurd (omega arith)
with_word_bytes-own sector word bytes (suc n) m size below within inside =
    either (λ earlier. with_word_bytes-own sector word bytes n m size below (omega arith) earlier) (cases_lt m n)
  where
    before : List ℕ
    before = with_word_bytes sector word bytes n

    Earlier : Type 0
    Earlier = m < n → get_or before (sector_place word m) 0 ≡ get_or bytes m 0

    either : Earlier → (m < n) ⊎ (n ≤ m) → get_or (set before (sector_place word n) (get_or bytes n 0)) (sector_place word m) 0 ≡ get_or bytes m 0
    either below_n (inl earlier) =
        get_or-set_other before (sector_place word n) (sector_place word m) (get_or bytes n 0) 0 (distinct word m n below earlier)
        ∙ below_n earlier
    either below_n (inr last) =
        let is : m ≡ n = omega arith in
        ap (λ (k : ℕ). get_or (set before (sector_place word n) (get_or bytes n 0)) (sector_place word k) 0) is
        ∙ get_or-set_same before (sector_place word n) (get_or bytes n 0) 0
        (omega (arith, length-with_word_bytes sector word bytes n, (sector_place-inside word n below (omega arith)).1))
        ∙ ap (λ (k : ℕ). get_or bytes k 0) (sym is)

-- a word that was written is there
written_word : (sector : List ℕ) (word : ℕ) (bytes : List ℕ) → length sector ≡ 2352 → word < 138 → length bytes ≡ word_size word
    → sector_word (with_word sector word (Some bytes)) word ≡ bytes
unfolding with_word
written_word sector word bytes size below bytes_size =
    sym (whole_word (with_word_bytes sector word bytes (word_size word)) word bytes bytes_size
    (λ m within. sym (with_word_bytes-own sector word bytes (word_size word) m size below (omega arith) (omega arith))))

-- the P words repaired leave the sector's length
pub length-with_p_words : (read : List ℕ) (n : ℕ) → length (with_p_words read n) ≡ length read
unfolding with_p_words
length-with_p_words read zero = refl
length-with_p_words read (suc n) =
    length-with_word (with_p_words read n) n (near_word (with_p_words read n) n (replicate 26 false)) ∙ length-with_p_words read n

-- bytes that are in no P word stay as they were read
pub beside_p : (read : List ℕ) (n at : ℕ) → n ≤ 86 → (at < 12) ⊎ (2248 ≤ at) → get_or (with_p_words read n) at 0 ≡ get_or read at 0
unfolding with_p_words
beside_p read zero at within beside = refl
beside_p read (suc n) at within beside =
    with_word-other (with_p_words read n) n (near_word (with_p_words read n) n (replicate 26 false)) at (λ m inside same. apart m inside same beside)
    ∙ beside_p read n at (omega arith) beside
  where
    apart : (m : ℕ) → m < word_size n → at ≡ sector_place n m → (at < 12) ⊎ (2248 ≤ at) → ⊥
    apart m inside same (inl first) = omega (arith, same, sector_place-p n m (omega arith))
    apart m inside same (inr past) = omega (arith, same, sector_place-p n m (omega arith), word_size-p n (omega arith))

-- a P word with a near codeword becomes it
pub p_found : (read bytes : List ℕ) (n word : ℕ) → length read ≡ 2352 → n ≤ 86 → word < n → length bytes ≡ word_size word
    → near_word read word (replicate 26 false) ≡ Some bytes → sector_word (with_p_words read n) word ≡ bytes
unfolding with_p_words near_word
p_found read bytes zero word size within inside bytes_size found = absurd (omega arith)
p_found read bytes (suc n) word size within inside bytes_size found =
    either (λ earlier. p_found read bytes n word size (omega arith) earlier bytes_size found) (cases_lt word n)
  where
    before : List ℕ
    before = with_p_words read n

    near : Option (List ℕ)
    near = near_word before n (replicate 26 false)

    either : (word < n → sector_word before word ≡ bytes) → (word < n) ⊎ (n ≤ word) → sector_word (with_word before n near) word ≡ bytes
    either below_n (inl earlier) =
        same_word before (with_word before n near) word
        (λ m _. with_word-other before n near (sector_place word m) (λ k _. apart-p word n m k (omega arith) (omega arith) (omega arith)))
        ∙ below_n earlier
    either below_n (inr last) =
        let is : word ≡ n = omega arith in
        let here : near_of (word_size word) 2 (sector_word before word) (replicate 26 false) ≡ Some bytes =
        ap (λ (l : List ℕ). near_of (word_size word) 2 l (replicate 26 false)) (later_p read n word (omega arith) (omega arith)) ∙ found in
        ap (λ (k : ℕ). sector_word (with_word before k (near_word before k (replicate 26 false))) word) (sym is)
        ∙ ap (λ (o : Option (List ℕ)). sector_word (with_word before word o) word) here
        ∙ written_word before word bytes (length-with_p_words read n ∙ size) (omega arith) bytes_size

-- the Q words repaired leave the sector's length
pub length-with_q_words : (read sector : List ℕ) (n : ℕ) → length (with_q_words read sector n) ≡ length sector
unfolding with_q_words
length-with_q_words read sector zero = refl
length-with_q_words read sector (suc n) =
    length-with_word (with_q_words read sector n) (86 + n) (near_word (with_q_words read sector n) (86 + n) (word_marks read (86 + n))) ∙ length-with_q_words read sector n

-- Q words that weren't repaired yet are as they were
pub later_q : (read sector : List ℕ) (n word : ℕ) → 86 + n ≤ word → word < 138 → sector_word (with_q_words read sector n) word ≡ sector_word sector word
unfolding with_q_words
later_q read sector zero word from below = refl
later_q read sector (suc n) word from below =
    let before : List ℕ = with_q_words read sector n in
    let near : Option (List ℕ) = near_word before (86 + n) (word_marks read (86 + n)) in
    same_word before (with_word before (86 + n) near) word
    (λ m _. with_word-other before (86 + n) near (sector_place word m) (λ k _. apart-qq word (86 + n) m k (omega arith) below (omega arith) (omega arith) (omega arith)))
    ∙ later_q read sector n word (omega arith) below

-- a Q word with a near codeword becomes it
pub q_found : (read sector bytes : List ℕ) (n word : ℕ) → length sector ≡ 2352 → n ≤ 52 → 86 ≤ word → word < 86 + n → length bytes ≡ word_size word
    → near_word sector word (word_marks read word) ≡ Some bytes → sector_word (with_q_words read sector n) word ≡ bytes
unfolding with_q_words near_word
q_found read sector bytes zero word size within above inside bytes_size found = absurd (omega arith)
q_found read sector bytes (suc n) word size within above inside bytes_size found =
    either (λ earlier. q_found read sector bytes n word size (omega arith) above earlier bytes_size found) (cases_lt word (86 + n))
  where
    before : List ℕ
    before = with_q_words read sector n

    near : Option (List ℕ)
    near = near_word before (86 + n) (word_marks read (86 + n))

    either : (word < 86 + n → sector_word before word ≡ bytes) → (word < 86 + n) ⊎ (86 + n ≤ word) → sector_word (with_word before (86 + n) near) word ≡ bytes
    either below_n (inl earlier) =
        same_word before (with_word before (86 + n) near) word
        (λ m _. with_word-other before (86 + n) near (sector_place word m) (λ k _. apart-qq word (86 + n) m k above (omega arith) (omega arith) (omega arith) (omega arith)))
        ∙ below_n earlier
    either below_n (inr last) =
        let is : word ≡ 86 + n = omega arith in
        let here : near_of (word_size word) 2 (sector_word before word) (word_marks read word) ≡ Some bytes =
        ap (λ (l : List ℕ). near_of (word_size word) 2 l (word_marks read word)) (later_q read sector n word (omega arith) (omega arith)) ∙ found in
        ap (λ (k : ℕ). sector_word (with_word before k (near_word before k (word_marks read k))) word) (sym is)
        ∙ ap (λ (o : Option (List ℕ)). sector_word (with_word before word o) word) here
        ∙ written_word before word bytes (length-with_q_words read sector n ∙ size) (omega arith) bytes_size
