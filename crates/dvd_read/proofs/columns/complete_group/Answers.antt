-- The proof of `complete_group` in src/columns.rt.
use Rattle.std.proofs.Common.{◌≡◌, ◌∙◌, ◌+◌, ◌-◌, ◌<◌, ℕ, List, Some, map, take, subst, sym, ap, arith}
use Rattle.coding.specs.Filling.{marked}
use Rattle.coding.specs.Product.{column}
use Rattle.coding.specs.TwoPass.{column_answer}
use Rattle.dvd_read.specs.Parts.{answer_bytes, answer_word}
use Rattle.dvd_read.proofs.Completing.{codeword-completed, column-long, patched-completed}
use Rattle.dvd_read.proofs.MarkedColumns.{column_vanishes}
use Rattle.dvd_read.proofs.columns.complete_group.Goals as goal

pub returns-then-are_zeros-clause-completed : goal.returns-then-are_zeros-clause-completed
returns-then-are_zeros-clause-completed c = λ _ j from below.
    let answers = c.args.answers.now in
    let n : ℕ = j - c.args.left in
    let under : n < 32 = omega (arith, below, from) in
    let here : c.args.left + n ≡ j = omega (arith, from) in
    subst (λ (m : ℕ). column_answer (map answer_word answers) m ≡ Some (column (answer_bytes answers) m)) here
    (codeword-completed answers (c.args.left + n) c.requires.rows (omega (arith, ap marked c.requires.marks, c.requires.within))
    (column_vanishes answers (c.args.left + n) c.requires.rows (c.column_values_by-values.ensures.bytes n under)
    (λ k few. sym (c.column_values_by-values.ensures.values k n few under) ∙ (c.any_of.ensures.zeros n under).0 (c.are_zeros.ensures.0 c.if-are_zeros.true n under) k few)))

pub returns-then-are_right-clause-completed : goal.returns-then-are_right-clause-completed
returns-then-are_right-clause-completed c = λ _ j from below.
    let old = c.args.answers.now in
    let new = c.add_patches.new.answers in
    let marks = c.args.erasures.now.marks in
    let n : ℕ = j - c.args.left in
    let under : n < 32 = omega (arith, below, from) in
    let here : c.args.left + n ≡ j = omega (arith, from) in
    let word : List ℕ = column (answer_bytes old) (c.args.left + n) in
    subst (λ (m : ℕ). column_answer (map answer_word new) m ≡ Some (column (answer_bytes new) m)) here
    (patched-completed old new (c.args.left + n) marks (take (marked marks) (column c.new-patches.result.bytes n)) c.requires.rows
    (c.add_patches.ensures.same.size ∙ c.requires.rows) c.add_patches.ensures.same c.requires.marks c.args.erasures.now.size c.requires.within
    (c.add_patches.ensures.bytes n under) (c.add_patches.ensures.patched n under)
    (c.new-patches.ensures n word under (column-long old (c.args.left + n) c.requires.rows) (λ k few. c.column_values_by-values.ensures.values k n few under)
    (c.are_right-are_right.ensures c.if-are_right.true n under)))
