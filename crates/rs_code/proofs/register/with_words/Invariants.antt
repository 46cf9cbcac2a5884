-- What each iteration of the loop in `with_words` keeps.
use Rattle.std.proofs.Common.{◌≡◌, List, ℕ, [], ◌++◌, slice_index_or, drop}
use Rattle.std.specs.List.{concat}
use Rattle.rs_code.specs.Inner.Registers.{AreTables, after_bytes}
use Rattle.rs_code.proofs.register.with_words.Given as goal

-- the words that are left lead to the same register
abbrev pub invariant-loop-word : goal.invariant-loop-word
invariant-loop-word l =
    (generator : List ℕ) → AreTables generator l.tables → (rest : List ℕ)
    → after_bytes (slice_index_or l.tables 0 []) l.next (concat (drop l.word-index l.words) ++ rest)
    ≡ after_bytes (slice_index_or l.tables 0 []) l.register (concat l.words ++ rest)
