-- What the two passes give back of a sector that was damaged in part.
use Rattle.std.proofs.Common.{◌≡◌, ◌≢◌, ◌⊎◌, inl, inr, ℕ, ◌+◌, ◌-◌, ◌*◌, ◌/◌, ◌%◌, ◌<◌, ◌≤◌, List, ◌++◌, length, get_or, take, drop, Bool, false, ◌&&◌, refl, sym, ◌∙◌, ap, subst, zero-add, arith, Some}
use Rattle.std.specs.Prelude.{nat_lt, replicate}
use Rattle.std.specs.List.{range_with_len}
use Rattle.std.specs.Option.{is_none}
use Rattle.std.proofs.lemmas.Bool.{cases_lt}
use Rattle.std.proofs.lemmas.Grind.{same_number_lists}
use Rattle.std.proofs.lemmas.List.{length-map, length-replicate, length-drop, get_or-drop, take-append-drop}
use Rattle.std.proofs.lemmas.List.FromFn.{get_or-map-range_with_len, length-range_with_len}
use Rattle.cd_sector.specs.Laws.{HasAtMostOneWrong, HasRightByte, IsCorrectableHalf}
use Rattle.cd_sector.specs.Repair.{near_word, is_lost, with_p_words, word_marks, with_q_words, repaired}
use Rattle.cd_sector.specs.Sector.{sync, covered, data_part, IsSector}
use Rattle.cd_sector.specs.Words.{sector_place, word_size, sector_word, IsRight}
use Rattle.cd_sector.proofs.Places.{word_size-p, word_size-q, sector_place-own, length-sector_word, get_or-sector_word}
use Rattle.cd_sector.proofs.Encoding.{word_right}
use Rattle.cd_sector.proofs.NearWords.{near_found, marked, unmarked}
use Rattle.cd_sector.proofs.Spread.{covered-q, p_of_q, sector_place-inside, p_place, q_word, q_place, q_word-within}
use Rattle.cd_sector.proofs.Passes.{length-with_p_words, length-with_q_words, beside_p, p_found, q_found}
use Rattle.cd_sector.proofs.Costs.{cost_unmarked, cost_one}

-- the codeword near a P word as it was read is the right one
pub record IsFound (sector read : List ℕ) (word : ℕ) : Type 0 where
  pub found : near_word read word (replicate 26 false) ≡ Some (sector_word sector word)

-- so it is where it has at most one wrong byte
p_near : (sector read : List ℕ) (word : ℕ) → word < 86 → IsRight sector word → HasAtMostOneWrong sector read word → IsFound sector read word
p_near sector read word below right wrong =
    let size : word_size word ≡ 26 = word_size-p word below in
    record {
      found = near_found 26 word read (sector_word read word) (sector_word sector word) (replicate 26 false) (sym size) refl
          record {
            codeword = word_right 26 word sector (sector_word sector word) (sym size) refl right;
            received_size = length-sector_word read word ∙ size;
            marks_size = length-replicate {A = Bool} 26 false;
            within = omega (arith, cost_unmarked 26 (sector_word sector word) (sector_word read word) (length-sector_word sector word ∙ size) (length-sector_word read word ∙ size));
          };
    }

-- two sectors that have a word in common have each byte of it in common
pub by_word : (a b : List ℕ) (word m : ℕ) → m < word_size word → sector_word a word ≡ sector_word b word → get_or a (sector_place word m) 0 ≡ get_or b (sector_place word m) 0
by_word a b word m within same =
    sym (get_or-sector_word a word m within) ∙ ap (λ (l : List ℕ). get_or l m 0) same ∙ get_or-sector_word b word m within

-- a byte of a P word that was found is right after the first pass
by_p : (sector read : List ℕ) (at : ℕ) → length read ≡ 2352 → 12 ≤ at → at < 2248 → IsFound sector read ((at - 12) % 86)
    → get_or (with_p_words read 86) at 0 ≡ get_or sector at 0
by_p sector read at size past before found =
    let word : ℕ = (at - 12) % 86 in
    let below : word < 86 = omega arith in
    let inside : (at - 12) / 86 < word_size word = omega (arith, word_size-p word below) in
    let same : sector_word (with_p_words read 86) word ≡ sector_word sector word =
    p_found read (sector_word sector word) 86 word size (omega arith) below (length-sector_word sector word) found.found in
    ap (λ (k : ℕ). get_or (with_p_words read 86) k 0) (sym (p_place at past))
    ∙ by_word (with_p_words read 86) sector word ((at - 12) / 86) inside same
    ∙ ap (λ (k : ℕ). get_or sector k 0) (p_place at past)

-- a Q word has 45 marks
pub length-word_marks : (read : List ℕ) (word : ℕ) → length (word_marks read word) ≡ 45
unfolding word_marks
length-word_marks read word =
    omega (arith, length-map (range_with_len 0 45) (λ (m : ℕ). nat_lt m 43 && is_lost read ((sector_place word m - 12) % 86)), length-range_with_len 0 45)

-- a byte of a Q word is marked where it is in a P word that is lost
get_or-word_marks : (read : List ℕ) (word m : ℕ) → m < 45 → get_or (word_marks read word) m false ≡ (nat_lt m 43 && is_lost read ((sector_place word m - 12) % 86))
unfolding word_marks
get_or-word_marks read word m within =
    get_or-map-range_with_len (λ (k : ℕ). nat_lt k 43 && is_lost read ((sector_place word k - 12) % 86)) 0 45 m m false within (zero-add m)

-- a P word that was found isn't lost
not_lost : (sector read : List ℕ) (word : ℕ) → IsFound sector read word → is_lost read word ≡ false
unfolding is_lost
not_lost sector read word found = ap is_none found.found

-- A Q word is found, if all bytes of it but one are right after the first pass, and none but this one is marked.
q_near : (sector read : List ℕ) (word j : ℕ) → length read ≡ 2352 → 86 ≤ word → word < 138 → IsRight sector word
    → ((m : ℕ) → m < 43 → m ≢ j → IsFound sector read (2 * m + word % 2))
    → (43 ≢ j → HasRightByte sector read word 43) → (44 ≢ j → HasRightByte sector read word 44)
    → near_word (with_p_words read 86) word (word_marks read word) ≡ Some (sector_word sector word)
q_near sector read word j size above below right found first second =
    near_found 45 word first_pass (sector_word first_pass word) (sector_word sector word) (word_marks read word) (sym word_long) refl
    record {
      codeword = word_right 45 word sector (sector_word sector word) (sym word_long) refl right;
      received_size = length-sector_word first_pass word ∙ word_long;
      marks_size = length-word_marks read word;
      within = cost_one j (sector_word sector word) (sector_word first_pass word) (word_marks read word)
          (λ m inside other. let within : m < word_size word = omega (arith, length-sector_word sector word) in
          get_or-sector_word sector word m within ∙ sym (byte m (omega (arith, word_long)) (cases_lt m 43) other) ∙ sym (get_or-sector_word first_pass word m within))
          (λ m inside other. let within : m < 45 = omega (arith, length-sector_word sector word, word_long) in
          get_or-word_marks read word m within ∙ mark m (cases_lt m 43) other);
    }
  where
    first_pass : List ℕ
    first_pass = with_p_words read 86

    word_long : word_size word ≡ 45
    word_long = word_size-q word above

    -- the P word of each byte on the diagonal but one is found
    found_at : (m : ℕ) → m < 43 → m ≢ j → IsFound sector read ((sector_place word m - 12) % 86)
    found_at m covered other = subst (IsFound sector read) (sym (p_of_q word m above covered)) (found m covered other)

    own : (m : ℕ) → m < 45 → (m < 44) ⊎ (44 ≤ m) → 43 ≤ m → m ≢ j → get_or read (sector_place word m) 0 ≡ get_or sector (sector_place word m) 0
    own m within (inl before) from other =
        let is : m ≡ 43 = omega arith in
        subst (λ (k : ℕ). get_or read (sector_place word k) 0 ≡ get_or sector (sector_place word k) 0) (sym is) (first (λ same. other (is ∙ same)))
    own m within (inr last) from other =
        let is : m ≡ 44 = omega arith in
        subst (λ (k : ℕ). get_or read (sector_place word k) 0 ≡ get_or sector (sector_place word k) 0) (sym is) (second (λ same. other (is ∙ same)))

    byte : (m : ℕ) → m < 45 → (m < 43) ⊎ (43 ≤ m) → m ≢ j → get_or first_pass (sector_place word m) 0 ≡ get_or sector (sector_place word m) 0
    byte m within (inl covered) other =
        by_p sector read (sector_place word m) size ((sector_place-inside word m below (omega (arith, word_long))).0) (covered-q word m above covered) (found_at m covered other)
    byte m within (inr from) other =
        beside_p read 86 (sector_place word m) (omega arith) (inr (omega (arith, sector_place-own word m above from))) ∙ own m within (cases_lt m 44) from other

    mark : (m : ℕ) → (m < 43) ⊎ (43 ≤ m) → m ≢ j → (nat_lt m 43 && is_lost read ((sector_place word m - 12) % 86)) ≡ false
    mark m (inl covered) other =
        marked m (is_lost read ((sector_place word m - 12) % 86)) covered ∙ not_lost sector read ((sector_place word m - 12) % 86) (found_at m covered other)
    mark m (inr from) other = unmarked m (is_lost read ((sector_place word m - 12) % 86)) from

-- a Q word of a half whose damage can be corrected is found
q_correctable : (sector read : List ℕ) (word : ℕ) → length read ≡ 2352 → ((k : ℕ) → k < 138 → IsRight sector k) → 86 ≤ word → word < 138 → IsCorrectableHalf (word % 2) sector read
    → near_word (with_p_words read 86) word (word_marks read word) ≡ Some (sector_word sector word)
q_correctable sector read word size right above below (inl scattered) = either (scattered.q_words word above below refl)
  where
    found : (m : ℕ) → m < 43 → IsFound sector read (2 * m + word % 2)
    found m covered =
        p_near sector read (2 * m + word % 2) (omega arith) (right (2 * m + word % 2) (omega arith)) (scattered.p_words (2 * m + word % 2) (omega arith) (omega arith))

    either : HasRightByte sector read word 43 ⊎ HasRightByte sector read word 44 → near_word (with_p_words read 86) word (word_marks read word) ≡ Some (sector_word sector word)
    either (inl first) =
        q_near sector read word 44 size above below (right word below) (λ m covered _. found m covered) (λ _. first) (λ other. absurd (other refl))
    either (inr second) =
        q_near sector read word 43 size above below (right word below) (λ m covered _. found m covered) (λ other. absurd (other refl)) (λ _. second)
q_correctable sector read word size right above below (inr (bad, burst)) =
    q_near sector read word (bad / 2) size above below (right word below)
    (λ m covered other.
    p_near sector read (2 * m + word % 2) (omega arith) (right (2 * m + word % 2) (omega arith))
    (burst.p_words (2 * m + word % 2) (omega arith) (omega arith) (λ is. other (omega (arith, is)))))
    (λ _. burst.first_own word above below refl) (λ _. burst.second_own word above below refl)

-- where the damage of both halves can be corrected, that of either can be
of_half : (sector read : List ℕ) (half : ℕ) → half < 2 → IsCorrectableHalf 0 sector read → IsCorrectableHalf 1 sector read → IsCorrectableHalf half sector read
of_half sector read half below low high = either (cases_lt half 1)
  where
    either : (half < 1) ⊎ (1 ≤ half) → IsCorrectableHalf half sector read
    either (inl zero_half) = let is : 0 ≡ half = omega arith in subst (λ (h : ℕ). IsCorrectableHalf h sector read) is low
    either (inr one_half) = let is : 1 ≡ half = omega arith in subst (λ (h : ℕ). IsCorrectableHalf h sector read) is high

-- sectors that have all Q words in common have all bytes after the sync in common
pub all_bytes : (a b : List ℕ) → ((word : ℕ) → 86 ≤ word → word < 138 → sector_word a word ≡ sector_word b word)
    → (at : ℕ) → 12 ≤ at → at < 2352 → get_or a at 0 ≡ get_or b at 0
all_bytes a b same at past inside = either (cases_lt at 2248)
  where
    moved : (word m : ℕ) → 86 ≤ word → word < 138 → m < 45 → sector_place word m ≡ at → get_or a at 0 ≡ get_or b at 0
    moved word m above below within is =
        subst (λ (k : ℕ). get_or a k 0 ≡ get_or b k 0) is (by_word a b word m (omega (arith, word_size-q word above)) (same word above below))

    own : ℕ
    own = 86 + (at - 2248) % 52

    row : ℕ
    row = 43 + (at - 2248) / 52

    either : (at < 2248) ⊎ (2248 ≤ at) → get_or a at 0 ≡ get_or b at 0
    either (inl before) =
        moved (q_word at) ((at - 12) / 2 % 43) ((q_word-within at).0) ((q_word-within at).1) (omega arith) (q_place at past before)
    either (inr from) =
        moved own row (omega arith) (omega arith) (omega arith) (omega (arith, sector_place-own own row (omega arith) (omega arith)))

-- a sector begins with the sync
begins_with_sync : (address : ℕ) (user sector : List ℕ) → IsSector address user sector → sync ++ drop 12 sector ≡ sector
unfolding data_part covered
begins_with_sync address user sector made =
    let whole : data_part address user ++ drop 2076 sector ≡ sector = ap (λ (l : List ℕ). l ++ drop 2076 sector) (sym made.begins) ∙ take-append-drop 2076 sector in
    let prefix : take 12 sector ≡ sync = ap (λ (l : List ℕ). take 12 l) (sym whole) in
    ap (λ (l : List ℕ). l ++ drop 12 sector) (sym prefix) ∙ take-append-drop 12 sector

-- Damage that the words can correct is repaired.
pub given_back : (address : ℕ) (user sector read : List ℕ) → IsSector address user sector → length read ≡ 2352
    → IsCorrectableHalf 0 sector read → IsCorrectableHalf 1 sector read → repaired read ≡ sector
unfolding repaired
given_back address user sector read made size low high =
    let first_pass : List ℕ = with_p_words read 86 in
    let whole : List ℕ = with_q_words read first_pass 52 in
    let first_size : length first_pass ≡ 2352 = length-with_p_words read 86 ∙ size in
    let whole_size : length whole ≡ 2352 = length-with_q_words read first_pass 52 ∙ first_size in
    let words : (word : ℕ) → 86 ≤ word → word < 138 → sector_word whole word ≡ sector_word sector word = λ word above below.
    q_found read first_pass (sector_word sector word) 52 word first_size (omega arith) above below (length-sector_word sector word)
    (q_correctable sector read word size made.words above below (of_half sector read (word % 2) (omega arith) low high)) in
    let past : drop 12 whole ≡ drop 12 sector =
    same_number_lists (drop 12 whole) (drop 12 sector) (omega (arith, length-drop 12 whole, length-drop 12 sector, whole_size, made.size))
    (λ k inside. get_or-drop 12 whole k 0
    ∙ all_bytes whole sector words (12 + k) (omega arith) (omega (arith, length-drop 12 whole, whole_size))
    ∙ sym (get_or-drop 12 sector k 0)) in
    ap (λ (l : List ℕ). sync ++ l) past ∙ begins_with_sync address user sector made
