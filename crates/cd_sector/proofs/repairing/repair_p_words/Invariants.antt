-- What each iteration of the loop in `repair_p_words` keeps.
use Rattle.std.proofs.Common.{◌≡◌, ℕ, ◌<◌, ◌≤◌, length, get_or, false}
use Rattle.cd_sector.specs.Repair.{is_lost, with_p_words}
use Rattle.cd_sector.proofs.repairing.repair_p_words.Given as goal

abbrev pub invariant-loop-word : goal.invariant-loop-word
invariant-loop-word l = record {
  size : length l.sector ≡ 2352;
  words : l.sector ≡ with_p_words l.fn.sector l.word;
  lost_size : length l.lost ≡ 86;
  said : (word : ℕ) → word < l.word → get_or l.lost word false ≡ is_lost l.fn.sector word;
  rest : (word : ℕ) → l.word ≤ word → get_or l.lost word false ≡ false;
}
