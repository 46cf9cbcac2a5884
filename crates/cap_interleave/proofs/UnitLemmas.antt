-- One more block of each capture.
use Rattle.std.proofs.Common.{◌≡◌, ◌∙◌, ◌<◌, ℕ, zero, suc, [], ◌++◌, refl, ap, arith, length-append}
use Rattle.cap_interleave.specs.Blocks.{CaptureBytes, Task, capture_block, block_written, unit_bytes, units_of}
use Rattle.cap_interleave.specs.Inner.{filled_blocks}
use Rattle.cap_interleave.specs.Interleaved.{AreDue}

-- what came of each capture, and then more
abbrev pub then : CaptureBytes → CaptureBytes → CaptureBytes
then came owns = λ c. came c ++ owns c

-- the blocks that came are the unit
pub unit_is : (task : Task) (captures owns : CaptureBytes) (k n : ℕ) → ((c : ℕ) → c < n → capture_block task.size k (captures c) ≡ owns c)
    → unit_bytes task captures k n ≡ filled_blocks task.fill owns n
unfolding unit_bytes filled_blocks
unit_is task captures owns k zero same = refl
unit_is task captures owns k (suc n) same =
    ap (λ l. l ++ block_written task.fill (capture_block task.size k (captures n))) (unit_is task captures owns k n (λ c below. same c (omega arith)))
    ∙ ap (λ b. filled_blocks task.fill owns n ++ block_written task.fill b) (same n (omega arith))

-- captures with the same blocks have the same units
unit_kept : (task : Task) (a b : CaptureBytes) (k n : ℕ) → ((c : ℕ) → c < n → capture_block task.size k (a c) ≡ capture_block task.size k (b c)) → unit_bytes task a k n ≡ unit_bytes task b k n
unfolding unit_bytes
unit_kept task a b k zero same = refl
unit_kept task a b k (suc n) same =
    ap (λ l. l ++ block_written task.fill (capture_block task.size k (a n))) (unit_kept task a b k n (λ c below. same c (omega arith)))
    ∙ ap (λ o. unit_bytes task b k n ++ block_written task.fill o) (same n (omega arith))

pub units_kept : (task : Task) (a b : CaptureBytes) (n : ℕ) → ((c k : ℕ) → c < task.count → k < n → capture_block task.size k (a c) ≡ capture_block task.size k (b c))
    → units_of task a n ≡ units_of task b n
unfolding units_of
units_kept task a b zero same = refl
units_kept task a b (suc n) same =
    ap (λ l. l ++ unit_bytes task a n task.count) (units_kept task a b n (λ c k inside below. same c k inside (omega arith)))
    ∙ ap (λ l. units_of task b n ++ l) (unit_kept task a b n task.count (λ c inside. same c n inside (omega arith)))

pub units_none : (task : Task) (captures : CaptureBytes) → units_of task captures 0 ≡ []
unfolding units_of
units_none task captures = refl

pub units_more : (task : Task) (captures : CaptureBytes) (k : ℕ) → units_of task captures (suc k) ≡ units_of task captures k ++ unit_bytes task captures k task.count
unfolding units_of
units_more task captures k = refl

-- a unit that was due stays so where more comes
pub due_kept : (task : Task) (came owns : CaptureBytes) (k : ℕ) → AreDue task came k → AreDue task (then came owns) k
due_kept task came owns k due = record {
  some = (due.some.0, due.some.1, omega (arith, due.some.2, length-append (came due.some.0) (owns due.some.0)));
  whole = λ not c inside. omega (arith, due.whole not c inside, length-append (came c) (owns c));
}
