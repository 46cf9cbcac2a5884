-- Words of a sector that become the codewords near them.
use Rattle.std.proofs.Common.{◌≡◌, ◌≢◌, ◌⊎◌, inl, inr, ℕ, zero, suc, ◌+◌, ◌-◌, ◌%◌, ◌<◌, ◌≤◌, List, length, get_or, set, Bool, false, ◌&&◌, refl, sym, ◌∙◌, ap, ap₂, subst, zero-add, add-one, arith, Option, Some, None, Result, Ok, Err}
use Rattle.std.specs.Prelude.{nat_lt, replicate}
use Rattle.std.specs.Option.{is_none}
use Rattle.std.specs.Result.{IfErr, IsErrAnd}
use Rattle.std.proofs.lemmas.Bool.{cases_lt}
use Rattle.std.proofs.lemmas.Bool.Decides.{nat_tests}
use Rattle.std.specs.List.{range_with_len}
use Rattle.std.proofs.lemmas.List.{get_or-set_other, ext_get_or, length-map}
use Rattle.std.proofs.lemmas.List.FromFn.{get_or-map-range_with_len, length-range_with_len}
use Rattle.coding.specs.Words.{IsNear}
use Rattle.rs_decode.specs.Errors.{HasNoneNear}
use Rattle.coding.specs.Nearest.{near_of}
use Rattle.rs_decode.proofs.NearSearch.{near_of-some, none-near_of}
use Rattle.cd_sector.specs.Repair.{with_word_bytes, with_word, near_word, is_lost, with_p_words, word_marks, with_q_words}
use Rattle.cd_sector.specs.declared.checking.CdCause.{CdCause}
use Rattle.cd_sector.specs.Words.{sector_place, word_size, sector_word}
use Rattle.cd_sector.proofs.Places.{same_word, length-sector_word}
use Rattle.cd_sector.proofs.Spread.{apart-p}

-- one byte more
pub with_word_bytes-next : (sector : List ℕ) (word : ℕ) (bytes : List ℕ) (m : ℕ)
    → set (with_word_bytes sector word bytes m) (sector_place word m) (get_or bytes m 0) ≡ with_word_bytes sector word bytes (m + 1)
unfolding with_word_bytes
with_word_bytes-next sector word bytes m = ap (with_word_bytes sector word bytes) (sym (add-one m))

-- no byte set leaves the sector as it was
pub with_word_bytes-none : (sector : List ℕ) (word : ℕ) (bytes : List ℕ) → sector ≡ with_word_bytes sector word bytes 0
unfolding with_word_bytes
with_word_bytes-none sector word bytes = refl

-- setting bytes of a word leaves a place where none of them is
with_word_bytes-other : (sector : List ℕ) (word : ℕ) (bytes : List ℕ) (count at : ℕ) → ((m : ℕ) → m < count → at ≢ sector_place word m)
    → get_or (with_word_bytes sector word bytes count) at 0 ≡ get_or sector at 0
unfolding with_word_bytes
with_word_bytes-other sector word bytes zero at apart = refl
with_word_bytes-other sector word bytes (suc m) at apart =
    get_or-set_other (with_word_bytes sector word bytes m) (sector_place word m) at (get_or bytes m 0) 0 (apart m (omega arith))
    ∙ with_word_bytes-other sector word bytes m at (λ k below. apart k (omega arith))

-- a word that was set leaves all places as they were where none of its bytes are
pub with_word-other : (sector : List ℕ) (word : ℕ) (found : Option (List ℕ)) (at : ℕ) → ((m : ℕ) → m < word_size word → at ≢ sector_place word m)
    → get_or (with_word sector word found) at 0 ≡ get_or sector at 0
unfolding with_word
with_word-other sector word None at apart = refl
with_word-other sector word (Some bytes) at apart = with_word_bytes-other sector word bytes (word_size word) at apart

-- P words that weren't repaired yet are as they were
pub later_p : (sector : List ℕ) (n word : ℕ) → n ≤ word → word < 86 → sector_word (with_p_words sector n) word ≡ sector_word sector word
unfolding with_p_words
later_p sector zero word from below = refl
later_p sector (suc n) word from below =
    let before : List ℕ = with_p_words sector n in
    same_word before (with_word before n (near_word before n (replicate 26 false))) word
    (λ m _. with_word-other before n (near_word before n (replicate 26 false)) (sector_place word m) (λ k _. apart-p word n m k below (omega arith) (omega arith)))
    ∙ later_p sector n word (omega arith) below

-- so a P word is lost when its turn comes if and only if it was lost as read
pub lost_then : (sector : List ℕ) (word : ℕ) → word < 86 → is_none (near_word (with_p_words sector word) word (replicate 26 false)) ≡ is_lost sector word
unfolding near_word is_lost
lost_then sector word below =
    ap (λ (l : List ℕ). is_none (near_of (word_size word) 2 l (replicate 26 false))) (later_p sector word word (omega arith) below)

-- one P word more
pub p_words-next : (sector : List ℕ) (n : ℕ)
    → with_word (with_p_words sector n) n (near_word (with_p_words sector n) n (replicate 26 false)) ≡ with_p_words sector (n + 1)
unfolding with_p_words
p_words-next sector n = ap (with_p_words sector) (sym (add-one n))

-- no P word repaired yet
pub p_words-none : (sector : List ℕ) → sector ≡ with_p_words sector 0
unfolding with_p_words
p_words-none sector = refl

-- one Q word more
pub q_words-next : (read sector : List ℕ) (word : ℕ) → 86 ≤ word
    → with_word (with_q_words read sector (word - 86)) word (near_word (with_q_words read sector (word - 86)) word (word_marks read word)) ≡ with_q_words read sector (word + 1 - 86)
unfolding with_q_words
q_words-next read sector word above =
    let n : ℕ = word - 86 in
    let here : 86 + n ≡ word = omega arith in
    let more : word + 1 - 86 ≡ suc n = omega arith in
    let before : List ℕ = with_q_words read sector n in
    ap (λ (w : ℕ). with_word before w (near_word before w (word_marks read w))) (sym here) ∙ ap (with_q_words read sector) (sym more)

-- no Q word repaired yet
pub q_words-none : (read sector : List ℕ) → sector ≡ with_q_words read sector 0
unfolding with_q_words
q_words-none read sector = refl

-- a word has at most 255 bytes
pub short : (word : ℕ) → word_size word ≤ 255
unfolding word_size
short word = grind (arith, nat_tests)

-- a codeword that is near a word of a sector is the one that is found
pub near_found : (n word : ℕ) (sector bytes found : List ℕ) (marks : List Bool) → n ≡ word_size word → bytes ≡ sector_word sector word
    → IsNear n 2 bytes marks found → near_word sector word marks ≡ Some found
unfolding near_word
near_found n word sector bytes found marks size is near =
    ap₂ (λ (k : ℕ) (l : List ℕ). near_of k 2 l marks) (sym size) (sym is)
    ∙ near_of-some n 2 bytes found marks (omega (arith, short word)) near

-- where no codeword is near a word of a sector, none is found
pub near_none : (n word : ℕ) (sector bytes : List ℕ) (marks : List Bool) → n ≡ word_size word → bytes ≡ sector_word sector word
    → length marks ≡ n → HasNoneNear n 2 bytes marks → near_word sector word marks ≡ None
unfolding near_word
near_none n word sector bytes marks size is marks_size nothing =
    ap₂ (λ (k : ℕ) (l : List ℕ). near_of k 2 l marks) (sym size) (sym is)
    ∙ none-near_of n 2 bytes marks (ap length is ∙ length-sector_word sector word ∙ sym size) marks_size nothing

-- on the diagonal a byte of a Q word is marked where its P word is lost
pub marked : (m : ℕ) (lost : Bool) → m < 43 → (nat_lt m 43 && lost) ≡ lost
marked m lost below = grind (arith, nat_tests)

-- the last two bytes of a Q word have no mark
pub unmarked : (m : ℕ) (lost : Bool) → 43 ≤ m → (nat_lt m 43 && lost) ≡ false
unmarked m lost above = grind (arith, nat_tests)

-- marks that follow the table of lost P words are those of the definition
pub marks_told : (read : List ℕ) (word : ℕ) (lost marks : List Bool) → length marks ≡ 45 → ((p : ℕ) → p < 86 → get_or lost p false ≡ is_lost read p)
    → ((m : ℕ) → m < 43 → get_or marks m false ≡ get_or lost ((sector_place word m - 12) % 86) false) → ((m : ℕ) → 43 ≤ m → get_or marks m false ≡ false)
    → marks ≡ word_marks read word
unfolding word_marks
marks_told read word lost marks size lost_are said rest =
    ext_get_or false marks (word_marks read word) (size ∙ sym length_is)
    (λ m below. let within : m < 45 = omega arith in
    either m (cases_lt m 43) ∙ sym (get_or-map-range_with_len mark 0 45 m m false within (zero-add m)))
  where
    mark : ℕ → Bool
    mark m = nat_lt m 43 && is_lost read ((sector_place word m - 12) % 86)

    length_is : length (word_marks read word) ≡ 45
    length_is = omega (arith, length-map (range_with_len 0 45) mark, length-range_with_len 0 45)

    either : (m : ℕ) → (m < 43) ⊎ (43 ≤ m) → get_or marks m false ≡ mark m
    either m (inl below) =
        said m below ∙ lost_are ((sector_place word m - 12) % 86) (omega arith) ∙ sym (marked m (is_lost read ((sector_place word m - 12) % 86)) below)
    either m (inr own) = rest m own ∙ sym (unmarked m (is_lost read ((sector_place word m - 12) % 86)) own)

-- no place of a list without marks has one, nor any after it
pub no_mark : (n m : ℕ) → get_or (replicate n false) m false ≡ false
no_mark zero m = refl
no_mark (suc n) zero = refl
no_mark (suc n) (suc m) = no_mark n m

-- what holds of a cause holds of the error of an answer that has this cause
pub refused : {A : Type 0} (answer : Result A CdCause) (P : CdCause → Type 0) (cause : CdCause) → IsErrAnd answer (λ e. e ≡ cause) → P cause → IfErr answer P
refused (Ok value) P cause is holds = absurd is
refused (Err e) P cause is holds = subst P (sym is) holds
