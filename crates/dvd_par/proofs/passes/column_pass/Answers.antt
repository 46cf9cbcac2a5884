-- The proof of `column_pass` in src/passes.rt.
use Rattle.std.proofs.Common.{ℕ, List, subst, sym}
use Rattle.std.specs.declared.option.Option.{Option}
use Rattle.dvd_read.specs.Parts.{AreColumnsFrom}
use Rattle.dvd_read.proofs.Holding.{same-words}
use Rattle.dvd_par.proofs.passes.column_pass.Goals as goal

pub returns-clause-answered : goal.returns-clause-answered
returns-clause-answered g c = record {
  found = λ few.
      subst (λ (words : List (Option (List ℕ))). AreColumnsFrom words 0 c.column_pieces.new.columns)
      (sym (same-words c.args.answers.now c.hold_columns.new.answers c.hold_columns.ensures.same)) c.column_pieces.ensures;
  held = c.hold_columns.ensures.held;
}
