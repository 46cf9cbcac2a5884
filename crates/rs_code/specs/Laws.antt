-- The laws of the codes for words of at most 255 bytes.
use Rattle.std.specs.Prelude.{◌≡◌, ℕ, ◌-◌, ◌<◌, ◌≤◌, List, length, All, replicate}
use Rattle.coding.specs.Words.{IsByte, IsCodeword, IsEncoded}
use Rattle.coding.specs.Distance.{weight, distance}

-- a codeword with at most r bytes that aren't 0 is zero
abbrev pub LightCodewordIsZero : Type 0
LightCodewordIsZero =
    (n r : ℕ) (word : List ℕ) → n ≤ 255 → IsCodeword n r word → weight word ≤ r → word ≡ replicate n 0

-- codewords that differ in at most r places are equal
abbrev pub CloseCodewordsAreEqual : Type 0
CloseCodewordsAreEqual =
    (n r : ℕ) (a b : List ℕ) → n ≤ 255 → IsCodeword n r a → IsCodeword n r b → distance a b ≤ r → a ≡ b

-- each message has an encoded word
abbrev pub MessageIsEncodable : Type 0
MessageIsEncodable =
    (n r : ℕ) (message : List ℕ) → 1 ≤ r → r < n → length message ≡ n - r → All IsByte message → (word : List ℕ) × IsEncoded n r message word

-- each message has only one encoded word
abbrev pub MessageIsEncodedOnce : Type 0
MessageIsEncodedOnce =
    (n r : ℕ) (message a b : List ℕ) → n ≤ 255 → r ≤ n → IsEncoded n r message a → IsEncoded n r message b → a ≡ b
