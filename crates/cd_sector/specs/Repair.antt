-- What a sector that was read is repaired to (ours): P words first, then Q words, each by the codeword near it, if
-- there is one. Words of one kind have no byte in common, so their order doesn't matter.
use Rattle.std.specs.Prelude.{ℕ, zero, suc, ◌+◌, ◌-◌, ◌%◌, ◌&&◌, nat_lt, Bool, false, List, ◌++◌, drop, map, replicate, set, slice_index, Some, None}
use Rattle.std.specs.List.{range_with_len}
use Rattle.std.specs.Option.{is_none}
use Rattle.std.specs.declared.option.Option.{Option}
use Rattle.coding.specs.Nearest.{near_of}
use Rattle.cd_sector.specs.Sector.{sync}
use Rattle.cd_sector.specs.Words.{sector_place, word_size, sector_word}

-- a sector with the first m bytes of a word set to these
unfoldable pub with_word_bytes : List ℕ → ℕ → List ℕ → ℕ → List ℕ
with_word_bytes sector word bytes zero = sector
with_word_bytes sector word bytes (suc m) = set (with_word_bytes sector word bytes m) (sector_place word m) (slice_index bytes m)

-- a sector whose word becomes this one, if there is one
unfoldable pub with_word : List ℕ → ℕ → Option (List ℕ) → List ℕ
with_word sector word None = sector
with_word sector word (Some bytes) = with_word_bytes sector word bytes (word_size word)

-- the codeword near a word of a sector with these marks
unfoldable pub near_word : List ℕ → ℕ → List Bool → Option (List ℕ)
near_word sector word marks = near_of (word_size word) 2 (sector_word sector word) marks

-- no codeword is near a P word
unfoldable pub is_lost : List ℕ → ℕ → Bool
is_lost sector word = is_none (near_word sector word (replicate 26 false))

-- The first n P words repaired. They have no marks.
unfoldable pub with_p_words : List ℕ → ℕ → List ℕ
with_p_words sector zero = sector
with_p_words sector (suc n) =
    with_word (with_p_words sector n) n (near_word (with_p_words sector n) n (replicate 26 false))

-- The marks of a Q word of a sector that was read: its bytes in P words that are lost. Every 86th byte is in the same P
-- word, and the last two bytes of a Q word are in none.
unfoldable pub word_marks : List ℕ → ℕ → List Bool
word_marks read word = map (λ m. nat_lt m 43 && is_lost read ((sector_place word m - 12) % 86)) (range_with_len 0 45)

-- The first n Q words repaired, with their marks in the sector that was read.
unfoldable pub with_q_words : List ℕ → List ℕ → ℕ → List ℕ
with_q_words read sector zero = sector
with_q_words read sector (suc n) =
    with_word (with_q_words read sector n) (86 + n) (near_word (with_q_words read sector n) (86 + n) (word_marks read (86 + n)))

-- the sector that was read, repaired, with the sync set
unfoldable pub repaired : List ℕ → List ℕ
repaired read = sync ++ drop 12 (with_q_words read (with_p_words read 86) 52)
