-- The proof of `complete_rows` in src/columns.rt.
use Rattle.std.proofs.Common.{◌≡◌, ◌∙◌, ◌+◌, ℕ, List, Some, map, sym, ap, arith}
use Rattle.std.specs.declared.option.Option.{Option}
use Rattle.coding.specs.Product.{column}
use Rattle.coding.specs.TwoPass.{column_answer, failed_of}
use Rattle.rs_lanes.proofs.ColumnLemmas.{group_more}
use Rattle.dvd_read.specs.Parts.{answer_bytes, answer_word}
use Rattle.dvd_read.proofs.Holding.{same-self, same-then, same-words}
use Rattle.dvd_read.proofs.columns.complete_rows.Goals as goal

pub loop-group-init : goal.loop-group-init
loop-group-init c = record { same = same-self c.args.answers.now; completed = λ j none below. absurd (omega (arith, none)) }

pub complete_group-requires-clause-marks : goal.complete_group-requires-clause-marks
complete_group-requires-clause-marks c = c.requires.marks ∙ ap failed_of (sym (same-words c.args.answers.now c.loop-group.answers c.loop-group.invariant.same))

pub loop-group-preserved : goal.loop-group-preserved
loop-group-preserved c =
    let old = c.loop-group.answers in
    let new = c.complete_group.new.answers in
    record {
      same = same-then c.args.answers.now old new c.loop-group.invariant.same c.complete_group.ensures.same;
      completed = λ j below inside.
          group_more (λ (m : ℕ). column_answer (map answer_word new) m ≡ Some (column (answer_bytes new) m)) c.min.result
          (λ m under.
          ap (λ (words : List (Option (List ℕ))). column_answer words m) (same-words old new c.complete_group.ensures.same)
          ∙ c.loop-group.invariant.completed m (omega arith) (omega arith)
          ∙ ap Some (sym (c.complete_group.ensures.before m under)))
          (λ n under. c.complete_group.ensures.completed c.if-not-complete_group.false (c.min.result + n) (omega arith) (omega (arith, under)))
          j (omega arith);
    }
