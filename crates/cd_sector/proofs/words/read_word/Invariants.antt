-- What each iteration of the loop in `read_word` keeps.
use Rattle.std.proofs.Common.{◌≡◌, ℕ, ◌<◌, get_or}
use Rattle.cd_sector.specs.Words.{sector_place}
use Rattle.cd_sector.proofs.words.read_word.Given as goal

abbrev pub invariant-loop-m : goal.invariant-loop-m
invariant-loop-m l = (m : ℕ) → m < l.m → get_or l.bytes m 0 ≡ get_or l.sector (sector_place l.word m) 0
