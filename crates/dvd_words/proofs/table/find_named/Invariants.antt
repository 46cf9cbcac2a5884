-- What each iteration of the loop in `find_named` keeps.
use Rattle.std.proofs.Common.{◌≡◌, drop}
use Rattle.dvd_words.specs.Inner.Rows.{named_in}
use Rattle.dvd_words.proofs.table.find_named.Given as goal

abbrev pub invariant-loop-spec : goal.invariant-loop-spec
invariant-loop-spec l = named_in l.word (drop l.spec-index l.specs) ≡ named_in l.word l.specs
