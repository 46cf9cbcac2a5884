-- The words of a sector that correct its errors (ECMA-130, annex A). Bytes 12 to 2351 are 1,170 pairs, and low and high
-- bytes are coded apart: 43 P codewords and 26 Q codewords of pairs are 138 words of bytes.
use Rattle.std.specs.Prelude.{ℕ, ◌+◌, ◌-◌, ◌*◌, ◌/◌, ◌%◌, nat_lt, if◌then◌else◌, List, map, slice_index}
use Rattle.std.specs.List.{range_with_len}
use Rattle.coding.specs.Words.{IsCodeword}

-- the m-th pair of P codeword n
abbrev pub p_pair : ℕ → ℕ → ℕ
p_pair n m = 43 * m + n

-- The m-th pair of Q codeword n: 43 on a diagonal through the rows of 43 pairs above, P parity too, and two of its own.
abbrev pub q_pair : ℕ → ℕ → ℕ
q_pair n m = if nat_lt m 43 then (44 * m + 43 * n) % 1118 else 1118 + 26 * (m - 43) + n

-- The place in the sector of the m-th byte of a word. P codeword n has the word numbers 2n for its low bytes and 2n + 1
-- for its high ones. Q codeword n has the numbers 86 + 2n and 87 + 2n.
unfoldable pub sector_place : ℕ → ℕ → ℕ
sector_place word m =
    if nat_lt word 86 then 12 + 2 * p_pair (word / 2) m + word % 2
    else 12 + 2 * q_pair ((word - 86) / 2) m + (word - 86) % 2

-- the number of bytes of a word, with its two parity bytes
unfoldable pub word_size : ℕ → ℕ
word_size word = if nat_lt word 86 then 26 else 45

-- a word of a sector
unfoldable pub sector_word : List ℕ → ℕ → List ℕ
sector_word sector word = map (λ m. slice_index sector (sector_place word m)) (range_with_len 0 (word_size word))

-- a word of a sector is a codeword
unfoldable pub IsRight : List ℕ → ℕ → Type 0
IsRight sector word = IsCodeword (word_size word) 2 (sector_word sector word)
