-- What each iteration of the loop in `repair_q_words` keeps.
use Rattle.std.proofs.Common.{◌≡◌, ℕ, List, ◌-◌, ◌<◌, length, get_or, false}
use Rattle.cd_sector.specs.Repair.{is_lost, with_q_words}
use Rattle.cd_sector.proofs.repairing.repair_q_words.Given as goal

abbrev pub invariant-loop-word : goal.invariant-loop-word
invariant-loop-word l = record {
  size : length l.sector ≡ 2352;
  words : (read : List ℕ) → ((p : ℕ) → p < 86 → get_or l.lost p false ≡ is_lost read p) → l.sector ≡ with_q_words read l.fn.sector (l.word - 86);
}
