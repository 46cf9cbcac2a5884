-- What each iteration of the loop in `add_patches` keeps.
use Rattle.std.proofs.Common.{◌≡◌, ℕ, ◌+◌, ◌<◌, All, take}
use Rattle.coding.specs.Product.{column}
use Rattle.coding.specs.Words.{IsByte}
use Rattle.rs_decode.specs.Patches.{patched}
use Rattle.dvd_read.specs.Parts.{AreSameAnswers, answer_bytes}
use Rattle.dvd_read.proofs.columns.add_patches.Given as goal

-- the bytes of the first marked places are added, and nothing else has changed
abbrev pub invariant-loop-i : goal.invariant-loop-i
invariant-loop-i l = record {
  same : AreSameAnswers l.fn.answers l.answers;
  bytes : (n : ℕ) → n < 32 → All IsByte (column (answer_bytes l.answers) (l.left + n));
  patched : (n : ℕ) → n < 32 → column (answer_bytes l.answers) (l.left + n)
      ≡ patched (column (answer_bytes l.fn.answers) (l.left + n)) l.erasures.marks (take l.i (column l.patches.bytes n));
  before : (j : ℕ) → j < l.left → column (answer_bytes l.answers) j ≡ column (answer_bytes l.fn.answers) j;
}
