-- What each iteration of the loop in `decode_each` keeps.
use Rattle.std.proofs.Common.{◌≡◌, ℕ, ◌<◌, ◌≤◌, get_or}
use Rattle.coding.specs.Product.{line}
use Rattle.dvdecc_c.specs.Lists.{answer_to, row_decoded}
use Rattle.dvdecc_c.specs.declared.lists.Answer.{Answer}
use Rattle.dvdecc_c.proofs.lists.decode_each.Given as goal

-- the rows before are decoded and answered, and the others are as they were
abbrev pub invariant-loop-i : goal.invariant-loop-i
invariant-loop-i l = record {
  decoded : (i : ℕ) → i < l.i → line l.rows i ≡ row_decoded (line l.initial.rows i) (line l.lost i);
  answered : (i : ℕ) (other : Answer) → i < l.i → get_or l.answers i other ≡ answer_to (line l.initial.rows i) (line l.lost i);
  rest : (i : ℕ) → l.i ≤ i → line l.rows i ≡ line l.initial.rows i;
}
