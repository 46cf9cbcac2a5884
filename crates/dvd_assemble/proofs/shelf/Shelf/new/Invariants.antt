-- What each iteration of the loop in `Shelf::new` keeps.
use Rattle.std.proofs.Common.{◌≡◌, replicate, vec_len, map}
use Rattle.dvd_merge.specs.Join.{unseen}
use Rattle.dvd_merge.specs.Merges.{table_of}
use Rattle.dvd_assemble.proofs.shelf.Shelf.new.Given as goal

abbrev pub invariant-loop : goal.invariant-loop
invariant-loop l = record { count : vec_len l.merges ≡ l.counter; tables : map table_of l.merges.items ≡ replicate l.counter unseen }
