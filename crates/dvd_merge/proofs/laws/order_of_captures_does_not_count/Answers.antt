-- The proof of the law `order_of_captures_does_not_count` in src/laws.rt.
use Rattle.dvd_merge.specs.Join.{join_tables, joined, unseen}
use Rattle.dvd_merge.proofs.Lattice.{same_members}
use Rattle.dvd_merge.proofs.Places.{tables-assoc, tables-comm, tables-idem}
use Rattle.dvd_merge.proofs.laws.order_of_captures_does_not_count.Goals as goal

pub returns : goal.returns
unfolding joined
returns c = λ a b same. same_members join_tables tables-comm tables-assoc tables-idem unseen a b same
