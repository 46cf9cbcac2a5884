-- What each iteration of the loop in `with_words` keeps.
use Rattle.std.proofs.Common.{◌≡◌, List, ℕ, ◌++◌, drop}
use Rattle.std.specs.List.{concat}
use Rattle.dvd_frame.specs.Inner.Registers.{divided_from}
use Rattle.dvd_frame.proofs.checks.with_words.Given as goal

abbrev pub invariant-loop-word : goal.invariant-loop-word
invariant-loop-word l =
    (rest : List ℕ) → divided_from l.next (concat (drop l.word-index l.words) ++ rest) ≡ divided_from l.register (concat l.words ++ rest)
