-- What each iteration of the loop in `FrameWork::join_into` keeps.
use Rattle.dvd_merge.specs.Merges.{table_of}
use Rattle.dvd_assemble.specs.Works.{captured}
use Rattle.dvd_assemble.proofs.Joining.{IsPartlyJoined}
use Rattle.dvd_assemble.proofs.frame.FrameWork.join_into.Given as goal

abbrev pub invariant-loop-q : goal.invariant-loop-q
invariant-loop-q l = IsPartlyJoined l.f (captured l.self) (table_of l.fn.merge) (table_of l.merge) l.q
