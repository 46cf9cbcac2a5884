-- What each iteration of the loop in `put_in_order` keeps.
use Rattle.std.proofs.Common.{◌≡◌, ℕ, ◌+◌, ◌*◌, ◌<◌, ◌≤◌, length}
use Rattle.coding.specs.Recording.{record_at}
use Rattle.dvd_capture.specs.Parts.{row_in}
use Rattle.dvd_capture.proofs.order.put_in_order.Given as goal

-- the rows of the frames that are done are in their places or kept, and those after them are as they came
abbrev pub invariant-loop-f : goal.invariant-loop-f
invariant-loop-f l = record {
  size : length l.bytes ≡ 37_856;
  moved : (i : ℕ) → i < 12 * l.f → row_in l.bytes i ≡ row_in l.initial.bytes (record_at i);
  rest : (i : ℕ) → 13 * l.f ≤ i → row_in l.bytes i ≡ row_in l.initial.bytes i;
  kept : (g : ℕ) → g < l.f → row_in l.parity g ≡ row_in l.initial.bytes (13 * g + 12);
}
