-- What each iteration of the loop in `salvage_each` keeps.
use Rattle.std.proofs.Common.{◌≡◌, ℕ, ◌<◌, length, get_or, replicate, unwrap_or, is_some}
use mir.Val.{bool_byte}
use Rattle.coding.specs.Product.{line}
use Rattle.coding.specs.TwoPass.{answers_of}
use Rattle.dvd_capture.specs.Works.{marks_of_work, rows_of}
use Rattle.dvd_decoding.specs.Salvage.{rescued}
use Rattle.dvdecc_c.proofs.reading.salvage_each.Given as goal

-- the frames before are salvaged or lost
abbrev pub invariant-loop-f : goal.invariant-loop-f
invariant-loop-f l = record {
  size : length l.sectors ≡ 16;
  places : length l.saved ≡ 16;
  written : (k : ℕ) → k < l.f → line l.sectors k ≡ unwrap_or (rescued (answers_of (rows_of l.work) (marks_of_work l.work)) l.plan k) (replicate 2048 0);
  said : (k : ℕ) → k < l.f → get_or l.saved k 0 ≡ bool_byte (is_some (rescued (answers_of (rows_of l.work) (marks_of_work l.work)) l.plan k));
}
