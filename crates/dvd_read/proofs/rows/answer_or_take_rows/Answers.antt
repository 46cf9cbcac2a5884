-- The proof of `answer_or_take_rows` in src/rows.rt.
use Rattle.std.proofs.Common.{rules, ◌≡◌, ◌∙◌, ◌+◌, ◌*◌, ◌<◌, ◌≤◌, ℕ, List, length, get_or, slice_index, refl, ap, arith}
use Rattle.std.proofs.lemmas.Bool.{and_parts, both_ways}
use Rattle.std.proofs.lemmas.List.{map-id}
use Rattle.std.proofs.lemmas.Slice.{take-put_mid}
use Rattle.coding.specs.Product.{line, place}
use Rattle.dvd_capture.specs.Answers.{IsAnswer, marks_line}
use Rattle.dvd_capture.specs.Parts.{marks_rows, received_rows}
use Rattle.dvd_capture.specs.declared.parts.AnswerRow.{AnswerRow}
use Rattle.dvd_capture.specs.declared.parts.ColumnAnswer.{ColumnAnswer}
use Rattle.dvd_read.specs.Inner.Standing.{IsAsReceived}
use Rattle.dvd_read.proofs.ParityRows.{all-answered, received-own, written-after}
use Rattle.dvd_read.proofs.rows.answer_or_take_rows.Goals as goal
use Rattle.dvd_read.proofs.rows.answer_or_take_rows.Goals.{then-are_taken, else-are_taken}

pub loop-group-preserved : goal.loop-group-preserved
loop-group-preserved c =
    let top : ℕ = 32 * c.loop-group.group in
    let rows : List (List ℕ) = received_rows c.args.received.now in
    let old : List AnswerRow = c.loop-group.answers in
    let piece : List AnswerRow = c.answer_or_take_group-are_taken.new.piece in
    let size : length piece ≡ 32 = c.answer_or_take_group-are_taken.ensures.size in
    let next : 32 * (c.loop-group.group + 1) ≡ top + length piece = omega arith in
    let within : top ≤ length old = omega arith in
    let both = and_parts c.loop-group.are_taken c.answer_or_take_group-are_taken.result in
    record {
      answers_size = search rules;
      size = elim c.if-are_taken.branch [
        | then-are_taken w ↦ ap length w.columns-is ∙ w.copy_transposed.ensures.size
        | else-are_taken w ↦ ap length w.columns-is ∙ c.loop-group.invariant.size
      ];
      answered = λ i d below.
          written-after (λ n answer. IsAnswer (line rows n) (marks_line (marks_rows c.args.marks.now) n) answer) top old piece _ within
          (take-put_mid top _ old piece (top + length piece) refl within) c.loop-group.invariant.answered
          c.answer_or_take_group-are_taken.ensures.answers.are
          i d (omega (arith, next));
      taken = λ is i d below.
          written-after (λ n answer. IsAsReceived (line rows n) (marks_line (marks_rows c.args.marks.now) n) answer) top old piece _ within
          (take-put_mid top _ old piece (top + length piece) refl within) (c.loop-group.invariant.taken (both is).0)
          (c.answer_or_take_group-are_taken.ensures.taken (both is).1).are
          i d (omega (arith, next));
      copied = elim c.if-are_taken.branch [
        | then-are_taken w ↦ λ is j i d inside under.
            ap (λ (all : List ColumnAnswer). slice_index (get_or all j d).bytes i) w.columns-is
            ∙ w.copy_transposed.ensures.copied rows
            (λ k n below lane. c.row_values_by-values.ensures.transposed k n below lane ∙ ap (λ (l : List (List ℕ)). place l (top + n) k) c.rows.ensures.rows)
            (c.loop-group.invariant.copied (both is).0) j i d inside (omega (arith, next, under))
        | else-are_taken w ↦ λ is. absurd (both_ways _ w.if-are_taken.false is)
      ];
    }

pub returns-then-take_unmarked-clause-upper : goal.returns-then-take_unmarked-clause-upper
returns-then-take_unmarked-clause-upper c = λ _ i d below.
    let old : List AnswerRow = c.loop-group.answers in
    let piece : List AnswerRow = c.take_unmarked.new.piece in
    let within : 192 ≤ length old = omega arith in
    written-after (λ n answer. n < 192 → IsAnswer (line (received_rows c.args.received.now) n) (marks_line (marks_rows c.args.marks.now) n) answer) 192 old piece _ within
    (take-put_mid 192 _ old piece (192 + length piece) refl within) (λ n d under _. c.loop-group.invariant.answered n d (omega (arith, under)))
    (λ k d inside under. absurd (omega (arith, under)))
    i d (omega (arith, below)) below

pub returns-then-take_unmarked-clause-taken : goal.returns-then-take_unmarked-clause-taken
returns-then-take_unmarked-clause-taken c = λ _ i d below.
    let old : List AnswerRow = c.loop-group.answers in
    let piece : List AnswerRow = c.take_unmarked.new.piece in
    let within : 192 ≤ length old = omega arith in
    written-after (λ n answer. IsAsReceived (line (received_rows c.args.received.now) n) (marks_line (marks_rows c.args.marks.now) n) answer) 192 old piece _ within
    (take-put_mid 192 _ old piece (192 + length piece) refl within) (λ n d under. c.loop-group.invariant.taken c.if-are_taken-2.true n d (omega (arith, under)))
    (c.take_unmarked.ensures.taken c.if-take_unmarked.true).are
    i d (omega (arith, below))

pub returns-then-take_unmarked-clause-own : goal.returns-then-take_unmarked-clause-own
returns-then-take_unmarked-clause-own c = λ _.
    let rows : List (List ℕ) = received_rows c.args.received.now in
    let columns = c.copy_transposed-then-take_unmarked in
    received-own rows (marks_rows c.args.marks.now) _ columns.new.columns (search rules) columns.ensures.size (returns-then-take_unmarked-clause-taken c refl) columns.ensures.wide
    (columns.ensures.copied rows
    (λ k n below lane. c.transpose.ensures.transposed k n below lane ∙ ap (λ (l : List (List ℕ)). place l (176 + n) k) (map-id c.rows-then-take_unmarked.result.now ∙ c.rows-then-take_unmarked.ensures.rows))
    (λ j i d inside under. c.loop-group.invariant.copied c.if-are_taken-2.true j i d inside (omega (arith, under))))

pub returns-clause-answered : goal.returns-clause-answered
returns-clause-answered c = λ _.
    let old : List AnswerRow = c.loop-group.answers in
    let piece : List AnswerRow = c.answer_group.new.piece in
    let within : 192 ≤ length old = omega arith in
    all-answered (received_rows c.args.received.now) (marks_rows c.args.marks.now) 192 old piece _ within (take-put_mid 192 _ old piece (192 + length piece) refl within) (search rules)
    (λ i d under. c.loop-group.invariant.answered i d (omega (arith, under))) c.answer_group.ensures.answers
