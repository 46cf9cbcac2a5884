-- What each iteration of the loop in `q_rows` keeps.
use Rattle.std.proofs.Common.{◌≡◌, ℕ, ◌+◌, ◌<◌, length, get_or}
use Rattle.coding.specs.Rows.{place}
use Rattle.cd_sector.specs.Words.{sector_place}
use Rattle.cd_sector.proofs.rows.q_rows.Given as goal

-- the rows so far have the bytes of the diagonals
abbrev pub invariant-loop-m : goal.invariant-loop-m
invariant-loop-m l = record {
  size : length l.rows ≡ 45;
  set : (i n : ℕ) → i < l.m → n < 52 → place l.rows i n ≡ get_or l.sector (sector_place (86 + n) i) 0;
}
