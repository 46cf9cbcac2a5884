-- Right words are repaired to themselves: the codeword near one is itself (near_right, near_plain), so nothing is
-- changed (kept_p, kept_q), also of a sector whose words are all right (all_kept). The sync is no matter (sync_right,
-- parity_cause).
use Rattle.std.proofs.Common.{◌≡◌, ℕ, zero, suc, ◌+◌, ◌-◌, ◌<◌, ◌≤◌, List, ◌++◌, drop, length, get_or, set, Bool, false, refl, sym, ◌∙◌, ap, ap₂, subst, add-one, arith, true≢false, Option, Some, None}
use Rattle.std.specs.Prelude.{replicate}
use Rattle.std.specs.Option.{is_none, is_some}
use Rattle.std.proofs.lemmas.List.{length-replicate, set-get_or, get_or-drop, get_or-append_right}
use Rattle.coding.specs.Words.{IsCodeword, IsNear}
use Rattle.rs_decode.proofs.Counting.{error_count-self, IsNear-from_counts, counts-from_near}
use Rattle.coding.specs.Filling.{marked}
use Rattle.rs_decode.proofs.NearSearch.{near_of-is_near}
use Rattle.rs_decode.proofs.OneNear.{near_once}
use Rattle.cd_sector.specs.Causes.{AreRightBelow, IsCause}
use Rattle.cd_sector.specs.declared.checking.CdCause.TheVariants.{Parity}
use Rattle.cd_sector.specs.Repair.{with_word_bytes, with_word, near_word, is_lost, with_p_words, word_marks, with_q_words, repaired}
use Rattle.cd_sector.specs.Sector.{sync}
use Rattle.cd_sector.specs.Words.{sector_place, word_size, sector_word, IsRight}
use Rattle.cd_sector.proofs.Places.{word_size-p, word_size-q, get_or-sector_word, kept_right}
use Rattle.cd_sector.proofs.Encoding.{right_word, word_right}
use Rattle.cd_sector.proofs.NearWords.{near_found, short, later_p, p_words-next, p_words-none, q_words-next, q_words-none}
use Rattle.cd_sector.proofs.Passes.{length-with_p_words, length-with_q_words, later_q}
use Rattle.cd_sector.proofs.GivenBack.{length-word_marks}
use Rattle.cd_sector.proofs.Spread.{sector_place-inside}

-- bytes of a word that are set to what they are change nothing
bytes_same : (sector : List ℕ) (word count : ℕ) → length sector ≡ 2352 → word < 138 → count ≤ word_size word
    → with_word_bytes sector word (sector_word sector word) count ≡ sector
unfolding with_word_bytes
bytes_same sector word zero size below within = refl
bytes_same sector word (suc m) size below within =
    ap₂ (λ (l : List ℕ) (b : ℕ). set l (sector_place word m) b) (bytes_same sector word m size below (omega arith)) (get_or-sector_word sector word m (omega arith))
    ∙ set-get_or sector (sector_place word m) 0

-- the codeword near a right word is the word itself, if any is
near_right : (sector : List ℕ) (word : ℕ) (marks : List Bool) (found : List ℕ) → IsRight sector word → length marks ≡ word_size word
    → near_word sector word marks ≡ Some found → found ≡ sector_word sector word
unfolding near_word
near_right sector word marks found right size is =
    let n : ℕ = word_size word in
    let bytes : List ℕ = sector_word sector word in
    let codeword : IsCodeword n 2 bytes = word_right n word sector bytes refl refl right in
    let near : IsNear n 2 bytes marks found = near_of-is_near n 2 bytes found marks codeword.size size is in
    let few = counts-from_near n 2 bytes found marks near in
    near_once n 2 bytes marks found bytes (omega (arith, short word)) near
    (IsNear-from_counts n 2 bytes bytes marks codeword codeword.size size (omega (arith, few, error_count-self bytes marks)))

-- so a right word is left as it is
right_kept : (sector : List ℕ) (word : ℕ) (marks : List Bool) → length sector ≡ 2352 → word < 138 → IsRight sector word → length marks ≡ word_size word
    → with_word sector word (near_word sector word marks) ≡ sector
unfolding with_word
right_kept sector word marks size below right marks_size = either (near_word sector word marks) refl
  where
    either : (found : Option (List ℕ)) → near_word sector word marks ≡ found → with_word sector word found ≡ sector
    either None is = refl
    either (Some bytes) is =
        ap (λ (l : List ℕ). with_word_bytes sector word l (word_size word)) (near_right sector word marks bytes right marks_size is)
        ∙ bytes_same sector word (word_size word) size below (omega arith)

-- where no place is marked, a right word is the codeword near it
near_plain : (sector : List ℕ) (word : ℕ) → word < 86 → IsRight sector word → near_word sector word (replicate 26 false) ≡ Some (sector_word sector word)
unfolding marked
near_plain sector word below right =
    let size : word_size word ≡ 26 = word_size-p word below in
    let bytes : List ℕ = sector_word sector word in
    let codeword : IsCodeword 26 2 bytes = word_right 26 word sector bytes (sym size) refl right in
    near_found 26 word sector bytes bytes (replicate 26 false) (sym size) refl
    (IsNear-from_counts 26 2 bytes bytes (replicate 26 false) codeword codeword.size (length-replicate {A = Bool} 26 false)
    (omega (arith, error_count-self bytes (replicate 26 false))))

-- so it isn't lost
pub found_p : (sector : List ℕ) (word : ℕ) → word < 86 → IsRight sector word → is_lost sector word ≡ false
unfolding is_lost
found_p sector word below right = ap is_none (near_plain sector word below right)

-- a right word stays right where it is the same
moved_right : (old new : List ℕ) (word : ℕ) → sector_word new word ≡ sector_word old word → IsRight old word → IsRight new word
moved_right old new word same right =
    right_word (word_size word) word new (sector_word old word) refl (sym same) (word_right (word_size word) word old (sector_word old word) refl refl right)

-- a P word that is right needs no repair when its turn comes
pub kept_p : (read : List ℕ) (n : ℕ) → length read ≡ 2352 → n < 86 → IsRight read n → with_p_words read n ≡ with_p_words read (n + 1)
kept_p read n size below right =
    let before : List ℕ = with_p_words read n in
    sym (right_kept before n (replicate 26 false) (length-with_p_words read n ∙ size) (omega arith)
    (moved_right read before n (later_p read n n (omega arith) below) right) (length-replicate {A = Bool} 26 false ∙ sym (word_size-p n below)))
    ∙ p_words-next read n

-- nor does a Q word
pub kept_q : (read sector : List ℕ) (word : ℕ) → length sector ≡ 2352 → 86 ≤ word → word < 138 → IsRight sector word
    → with_q_words read sector (word - 86) ≡ with_q_words read sector (word + 1 - 86)
kept_q read sector word size above below right =
    let before : List ℕ = with_q_words read sector (word - 86) in
    sym (right_kept before word (word_marks read word) (length-with_q_words read sector (word - 86) ∙ size) below
    (moved_right sector before word (later_q read sector (word - 86) word (omega arith) below) right) (length-word_marks read word ∙ sym (word_size-q word above)))
    ∙ q_words-next read sector word above

-- where all P words are right, the first pass changes nothing
all_p : (sector : List ℕ) (n : ℕ) → length sector ≡ 2352 → AreRightBelow 138 sector → n ≤ 86 → with_p_words sector n ≡ sector
all_p sector zero size right within = sym (p_words-none sector)
all_p sector (suc n) size right within =
    ap (with_p_words sector) (sym (add-one n)) ∙ sym (kept_p sector n size (omega arith) (right n (omega arith))) ∙ all_p sector n size right (omega arith)

-- and where all Q words are, nor does the second
all_q : (read sector : List ℕ) (n : ℕ) → length sector ≡ 2352 → AreRightBelow 138 sector → n ≤ 52 → with_q_words read sector n ≡ sector
all_q read sector zero size right within = sym (q_words-none read sector)
all_q read sector (suc n) size right within =
    let next : suc n ≡ 86 + n + 1 - 86 = omega arith in
    let here : 86 + n - 86 ≡ n = omega arith in
    ap (with_q_words read sector) next ∙ sym (kept_q read sector (86 + n) size (omega arith) (omega arith) (right (86 + n) (omega arith)))
    ∙ ap (with_q_words read sector) here ∙ all_q read sector n size right (omega arith)

-- a sector whose words are all right is left as it is
pub all_kept : (sector : List ℕ) → length sector ≡ 2352 → AreRightBelow 138 sector → sector ≡ with_q_words sector (with_p_words sector 86) 52
all_kept sector size right =
    sym (ap (λ (l : List ℕ). with_q_words sector l 52) (all_p sector 86 size right (omega arith)) ∙ all_q sector sector 52 size right (omega arith))

-- after another sync all bytes are the same
behind_sync : (sector : List ℕ) (at : ℕ) → 12 ≤ at → get_or (sync ++ drop 12 sector) at 0 ≡ get_or sector at 0
behind_sync sector at past =
    let there : 12 + (at - 12) ≡ at = omega arith in
    get_or-append_right sync (drop 12 sector) 12 at 0 refl past ∙ get_or-drop 12 sector (at - 12) 0 ∙ ap (λ (k : ℕ). get_or sector k 0) there

-- so a word is right with another sync
pub sync_right : (sector : List ℕ) (word : ℕ) → word < 138 → IsRight sector word → IsRight (sync ++ drop 12 sector) word
sync_right sector word below =
    kept_right sector (sync ++ drop 12 sector) word (λ m within. behind_sync sector (sector_place word m) ((sector_place-inside word m below within).0))

-- and wrong
sync_wrong : (sector : List ℕ) (word : ℕ) → word < 138 → IsRight (sync ++ drop 12 sector) word → IsRight sector word
sync_wrong sector word below =
    kept_right (sync ++ drop 12 sector) sector word (λ m within. sym (behind_sync sector (sector_place word m) ((sector_place-inside word m below within).0)))

-- what the two passes leave, and the sync set, is the repaired sector
pub repaired_words : (read prefix whole : List ℕ) → prefix ≡ sync → whole ≡ with_q_words read (with_p_words read 86) 52 → prefix ++ drop 12 whole ≡ repaired read
unfolding repaired
repaired_words read prefix whole prefix_is is = ap₂ (λ (f w : List ℕ). f ++ drop 12 w) prefix_is is

-- a word that is still wrong is the cause
pub parity_cause : (read whole : List ℕ) (word address : ℕ) → whole ≡ with_q_words read (with_p_words read 86) 52
    → (word < 138) × (IsRight whole word → ⊥) × AreRightBelow word whole → IsCause (repaired read) address (Parity word)
parity_cause read whole word address is (below, wrong, before) =
    subst (λ (s : List ℕ). IsCause s address (Parity word)) (repaired_words read sync whole refl is)
    (below, (λ right. wrong (sync_wrong whole word below right)), (λ v earlier. sync_right whole v (omega arith) (before v earlier)))

-- an answer without a value is none
pub is_none-is : {A : Type 0} (answer : Option A) → is_some answer ≡ false → answer ≡ None
is_none-is None is = refl
is_none-is (Some value) is = absurd (true≢false is)
