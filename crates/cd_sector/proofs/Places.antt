-- Where the bytes of words are, and the words of a sector that was written into.
use Rattle.std.proofs.Common.{◌≡◌, ℕ, ◌+◌, ◌-◌, ◌*◌, ◌/◌, ◌%◌, ◌<◌, ◌≤◌, List, length, get_or, sym, ◌∙◌, subst, zero-add, arith}
use Rattle.std.specs.List.{range_with_len}
use Rattle.std.proofs.lemmas.Bool.Decides.{nat_tests}
use Rattle.std.proofs.lemmas.List.{length-map}
use Rattle.std.proofs.lemmas.List.FromFn.{get_or-map-range_with_len, length-range_with_len}
use Rattle.std.proofs.lemmas.Grind.{same_number_lists}
use Rattle.coding.specs.Words.{IsCodeword}
use Rattle.cd_sector.specs.Words.{sector_place, word_size, sector_word, IsRight}

-- a P word has 26 bytes
pub word_size-p : (word : ℕ) → word < 86 → word_size word ≡ 26
unfolding word_size
word_size-p word below = grind (arith, nat_tests)

-- a Q word has 45 bytes
pub word_size-q : (word : ℕ) → 86 ≤ word → word_size word ≡ 45
unfolding word_size
word_size-q word above = grind (arith, nat_tests)

-- the bytes of a P word, every 86th from its own number on
pub sector_place-p : (word m : ℕ) → word < 86 → sector_place word m ≡ 12 + 86 * m + word
unfolding sector_place
sector_place-p word m below = grind (arith, nat_tests)

-- the bytes of a Q word on its diagonal
pub sector_place-q : (word m : ℕ) → 86 ≤ word → m < 43 → sector_place word m ≡ 12 + (88 * m + 86 * ((word - 86) / 2)) % 2236 + (word - 86) % 2
unfolding sector_place
sector_place-q word m above below = grind (arith, nat_tests)

-- the two bytes of its own
pub sector_place-own : (word m : ℕ) → 86 ≤ word → 43 ≤ m → sector_place word m ≡ 2248 + 52 * (m - 43) + (word - 86)
unfolding sector_place
sector_place-own word m above own = grind (arith, nat_tests)

-- a word of a sector has its own size
pub length-sector_word : (sector : List ℕ) (word : ℕ) → length (sector_word sector word) ≡ word_size word
unfolding sector_word
length-sector_word sector word = omega (arith, length-map (range_with_len 0 (word_size word)) (λ (m : ℕ). get_or sector (sector_place word m) 0), length-range_with_len 0 (word_size word))

-- byte m of a word is the sector's byte at the word's m-th place
pub get_or-sector_word : (sector : List ℕ) (word m : ℕ) → m < word_size word → get_or (sector_word sector word) m 0 ≡ get_or sector (sector_place word m) 0
unfolding sector_word
get_or-sector_word sector word m below =
    get_or-map-range_with_len (λ (k : ℕ). get_or sector (sector_place word k) 0) 0 (word_size word) m m 0 below (zero-add m)

-- bytes that agree with a word place by place are that word
pub whole_word : (sector : List ℕ) (word : ℕ) (bytes : List ℕ) → length bytes ≡ word_size word
    → ((m : ℕ) → m < length bytes → get_or bytes m 0 ≡ get_or sector (sector_place word m) 0) → bytes ≡ sector_word sector word
whole_word sector word bytes size each =
    same_number_lists bytes (sector_word sector word) (omega (arith, length-sector_word sector word))
    (λ m below. each m below ∙ sym (get_or-sector_word sector word m (omega arith)))

-- a word all of whose bytes are as they were is as it was
pub same_word : (old new : List ℕ) (word : ℕ) → ((m : ℕ) → m < word_size word → get_or new (sector_place word m) 0 ≡ get_or old (sector_place word m) 0)
    → sector_word new word ≡ sector_word old word
same_word old new word kept =
    sym (whole_word new word (sector_word old word) (length-sector_word old word)
    (λ m below. let within : m < word_size word = omega (arith, length-sector_word old word) in get_or-sector_word old word m within ∙ sym (kept m within)))

-- so it is right where it was
pub kept_right : (old new : List ℕ) (word : ℕ) → ((m : ℕ) → m < word_size word → get_or new (sector_place word m) 0 ≡ get_or old (sector_place word m) 0)
    → IsRight old word → IsRight new word
unfolding IsRight
kept_right old new word kept right = subst (IsCodeword (word_size word) 2) (sym (same_word old new word kept)) right
