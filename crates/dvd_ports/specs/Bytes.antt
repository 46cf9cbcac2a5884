-- The bytes that pass through a source or a sink, and what a call does to them.
use Rattle.std.specs.Prelude.{ℕ, ◌≡◌, ◌<◌, ◌++◌, List, length, take, Option, Result, MatchResult}
use Rattle.std.specs.Io.KnownBytes.{Consumes as LosesKnown, IsAtEnd as IsKnownEnd, Keeps as KeepsKnown}

-- The bytes that the object's calls have moved so far, in order: always known. For a source they are what its reads
-- returned, for a sink what its writes accepted. `left` are the bytes that a source still has, where they are known: of
-- a file or a pipe nobody knows them. Of a sink nothing is left.
pub record Bytes : Type 0 where
  pub moved : List ℕ
  pub left : Option (List ℕ)

-- a sink accepted these bytes, after those before
pub record Appends (old new : Bytes) (piece : List ℕ) : Type 0 where
  pub log : new.moved ≡ old.moved ++ piece

-- a source gave these bytes, after those before, and where it is known what is left they were the first of that
pub record Consumes (old new : Bytes) (piece : List ℕ) : Type 0 where
  pub log : new.moved ≡ old.moved ++ piece
  pub loses : LosesKnown old.left new.left piece

-- no byte was moved, and none was lost
pub record Keeps (old new : Bytes) : Type 0 where
  pub log : new.moved ≡ old.moved
  pub keeps : KeepsKnown old.left new.left

-- nothing is left, where it is known what is left
abbrev pub IsAtEnd : Bytes → Type 0
IsAtEnd bytes = IsKnownEnd bytes.left

-- a write that succeeded accepted so many of the first bytes of the piece, and one that failed none
abbrev pub WriteAppends : {E : Type 0} → Bytes → Bytes → Result ℕ E → List ℕ → Type 0
WriteAppends old new result piece = MatchResult result (λ count. Appends old new (take count piece)) (λ _. Keeps old new)

-- A read that succeeded gave the bytes that now begin the buffer, none only at the end or into no room. One that
-- failed gave none and lost none.
abbrev pub ReadConsumes : {E : Type 0} → Bytes → Bytes → Result ℕ E → List ℕ → Type 0
ReadConsumes old new result buf = MatchResult result
    (λ count. Consumes old new (take count buf) × (count ≡ 0 → 0 < length buf → IsAtEnd new)) (λ _. Keeps old new)
