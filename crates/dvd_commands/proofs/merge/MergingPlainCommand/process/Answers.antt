-- The proof of `kind` of `PlainCommand` for `Merging` in src/merge.rt.
use Rattle.std.proofs.Common.{[], ◌∷◌, refl, ap}
use Rattle.dvd_loop.specs.Machine.Step.{Write}
use Rattle.dvd_loop.proofs.UnitLemmas.{err_is, sized_done, sized_short}
use Rattle.dvd_merge.specs.MarkedText.{marked_text}
use Rattle.dvd_merge.specs.Merges.{table_of}
use Rattle.dvd_commands.proofs.TwoSteps.{write_is}
use Rattle.dvd_commands.proofs.merge.MergingPlainCommand.process.Goals as goal

pub returns-in_err-take_captures-clause-processed : goal.returns-in_err-take_captures-clause-processed
returns-in_err-take_captures-clause-processed g c = λ before number.
    sized_short _ _ (λ k own. refl) c.args.k before number _ _ _ _ _ _ _ (err_is _ _ c.from_residual.ensures.1) c.in_err-take_captures.ensures.short (c.in_err-take_captures.ensures.causes _ _)

pub returns-clause-processed : goal.returns-clause-processed
returns-clause-processed g c = λ before number.
    let taken = c.in_ok-take_captures.ensures.taken in
    sized_done _ _ (λ k own. refl) c.args.k before number _ _ _ _ _ taken.bytes taken.size taken.taken (c.in_ok-take_captures.ensures.causes _ _) _ _ _
    (write_is _ (marked_text (table_of c.take_captures.new.merge)) _ (ap (λ table. Write (marked_text table) ∷ []) taken.joins, refl)
    _ _ _ (c.unit_written.ensures _ _ _ _ _ c.write_marked.ensures)) tt
