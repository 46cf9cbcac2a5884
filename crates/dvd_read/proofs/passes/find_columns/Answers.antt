-- The proof of `find_columns` in src/passes.rt.
use Rattle.std.proofs.Common.{◌≡◌, ◌≤◌, ◌∙◌, None, map, sym, ap, subst, arith}
use Rattle.std.proofs.lemmas.List.{length-map}
use Rattle.coding.specs.Filling.{marked}
use Rattle.coding.specs.TwoPass.{AgreesWith, failed_of, from_columns}
use Rattle.dvd_decoding.specs.Causes.{two_pass_cause}
use Rattle.coding.specs.Found.{block_found}
use Rattle.dvd_read.specs.Inner.Found.{words_of_columns}
use Rattle.dvd_read.specs.Parts.{answer_word}
use Rattle.dvd_read.proofs.ColumnAnswers.{columns-whole}
use Rattle.dvd_read.proofs.NotedRows.{many-failed}
use Rattle.dvd_read.proofs.Outcomes.{rows_cause}
use Rattle.dvd_read.proofs.FoundColumns.{column_refused, row_refused, block_accepted, rows_all-vanish, words-found}
use Rattle.dvd_read.proofs.Holding.{held-kept}
use Rattle.dvd_read.proofs.Standing.{kept-vanish, rows-kept}
use Rattle.dvd_read.proofs.passes.find_columns.Goals as goal

pub returns-then-not-are_few-clause-refused : goal.returns-then-not-are_few-clause-refused
returns-then-not-are_few-clause-refused c =
    let failed = c.args.answered.now.failed.marks in
    rows_cause (map answer_word c.args.answers.now) c.count-failed_rows.result (c.count-failed_rows.ensures.count ∙ ap marked c.requires.failed)
    (omega (arith, c.count-failed_rows.ensures.count, many-failed (marked failed) c.are_few.result c.are_few.ensures c.if-not-are_few.true))

pub returns-in-Some-clause-refused : goal.returns-in-Some-clause-refused
returns-in-Some-clause-refused c =
    let few : marked (failed_of (map answer_word c.args.answers.now)) ≤ 16 = omega (arith, c.are_few.ensures.0 c.if-not-are_few.false, ap marked c.requires.failed) in
    column_refused (map answer_word c.args.answers.now) c.args.columns.now c.in-Some.j c.requires.columns
    (columns-whole (map answer_word c.args.answers.now) c.args.columns.now c.requires.columns (c.requires.answered few)) few
    (sym c.in-Some.ensures)

pub find_wrong-requires-clause-right : goal.find_wrong-requires-clause-right
find_wrong-requires-clause-right c = λ are_held.
    let few : marked (failed_of (map answer_word c.args.answers.now)) ≤ 16 = omega (arith, c.are_few.ensures.0 c.if-not-are_few.false, ap marked c.requires.failed) in
    rows_all-vanish (map answer_word c.args.answers.now) c.args.columns.now (length-map c.args.answers.now answer_word ∙ c.requires.rows) c.requires.columns
    (columns-whole (map answer_word c.args.answers.now) c.args.columns.now c.requires.columns (c.requires.answered few)) few
    (sym c.in_default.ensures)
    (λ i below clear.
    kept-vanish c.args.answers.now (from_columns (words_of_columns c.args.columns.now)) i c.requires.rows c.requires.codewords
    (rows-kept c.args.answers.now c.args.columns.now c.requires.rows c.requires.columns c.requires.codewords
    (held-kept c.args.answers.now c.args.columns.now c.requires.rows c.requires.columns (c.requires.held are_held)))
    below clear)

pub returns-in-Some-find_wrong-clause-refused : goal.returns-in-Some-find_wrong-clause-refused
returns-in-Some-find_wrong-clause-refused c =
    let few : marked (failed_of (map answer_word c.args.answers.now)) ≤ 16 = omega (arith, c.are_few.ensures.0 c.if-not-are_few.false, ap marked c.requires.failed) in
    row_refused (map answer_word c.args.answers.now) c.args.columns.now c.in-Some-find_wrong.i c.requires.columns
    (columns-whole (map answer_word c.args.answers.now) c.args.columns.now c.requires.columns (c.requires.answered few)) few
    (sym c.in_default.ensures) (sym c.in-Some-find_wrong.ensures)

-- the block is found
abbrev accepted : (c : goal.In-None) → (two_pass_cause (map answer_word c.args.answers.now) ≡ None) × AgreesWith (map answer_word c.args.answers.now) (block_found (map answer_word c.args.answers.now))
accepted c =
    let few : marked (failed_of (map answer_word c.args.answers.now)) ≤ 16 = omega (arith, c.are_few.ensures.0 c.if-not-are_few.false, ap marked c.requires.failed) in
    block_accepted (map answer_word c.args.answers.now) c.args.columns.now (length-map c.args.answers.now answer_word ∙ c.requires.rows) c.requires.columns
    (columns-whole (map answer_word c.args.answers.now) c.args.columns.now c.requires.columns (c.requires.answered few)) few (sym c.in_default.ensures)
    (sym c.in-None.ensures)

pub returns-in-None-clause-found : goal.returns-in-None-clause-found
returns-in-None-clause-found c = (accepted c).0

pub returns-in-None-clause-block : goal.returns-in-None-clause-block
returns-in-None-clause-block c =
    let few : marked (failed_of (map answer_word c.args.answers.now)) ≤ 16 = omega (arith, c.are_few.ensures.0 c.if-not-are_few.false, ap marked c.requires.failed) in
    words-found (map answer_word c.args.answers.now) c.args.columns.now c.requires.columns
    (columns-whole (map answer_word c.args.answers.now) c.args.columns.now c.requires.columns (c.requires.answered few)) (sym c.in_default.ensures)

pub returns-in-None-clause-agrees : goal.returns-in-None-clause-agrees
returns-in-None-clause-agrees c = subst (AgreesWith (map answer_word c.args.answers.now)) (sym (returns-in-None-clause-block c)) (accepted c).1
