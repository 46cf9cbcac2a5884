-- What each iteration of the loop in `marks` keeps.
use Rattle.std.proofs.Common.{◌≡◌, ℕ, ◌-◌, ◌%◌, ◌<◌, ◌≤◌, length, get_or, false}
use Rattle.cd_sector.specs.Words.{sector_place}
use Rattle.cd_sector.proofs.repairing.marks.Given as goal

abbrev pub invariant-loop-m : goal.invariant-loop-m
invariant-loop-m l = record {
  size : length l.marks ≡ 45;
  said : (m : ℕ) → m < l.m → get_or l.marks m false ≡ get_or l.lost ((sector_place l.word m - 12) % 86) false;
  rest : (m : ℕ) → l.m ≤ m → get_or l.marks m false ≡ false;
}
