-- The proof of `answer_row` in src/row_step.rt.
use Rattle.std.proofs.Common.{◌≡◌, ◌∙◌, ℕ, ◌<◌, List, [], length, map, set, ap, arith}
use Rattle.std.proofs.lemmas.List.{get_or-set_same, map-set}
use Rattle.coding.specs.Product.{line}
use Rattle.dvd_capture.specs.Parts.{marks_of_row}
use Rattle.dvd_deep.proofs.row_step.answer_row.Goals as goal

-- a row that is set to a word of 182 bytes has as many
set-wide : (rows : List (List ℕ)) (i : ℕ) (word : List ℕ) → length rows ≡ 208 → i < 208 → length word ≡ 182 → length (line (set rows i word) i) ≡ 182
set-wide rows i word height below size = ap length (get_or-set_same rows i word [] (omega (arith, height))) ∙ size

pub returns-then-answered-clause-wide : goal.returns-then-answered-clause-wide
returns-then-answered-clause-wide c = set-wide c.args.rows.now c.args.i c.answer.new.word c.told-rows c.requires.row c.answer.array_long

pub returns-then-answered-clause-marks : goal.returns-then-answered-clause-marks
returns-then-answered-clause-marks c =
    rw c.if-answered.true
    (map-set marks_of_row c.args.marks.now c.args.i c.none.result ∙ ap (set (map marks_of_row c.args.marks.now) c.args.i) c.none.ensures)
