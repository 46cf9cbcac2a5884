-- The proof of `lose_row` in src/damage.rt.
use Rattle.std.proofs.Common.{◌≡◌, ◌∙◌, ℕ, true, false, replicate, refl, sym, arith}
use Rattle.std.proofs.lemmas.List.{get_or-replicate, length-replicate}
use Rattle.dvd_capture.specs.Works.{marks_of_work, rows_of}
use Rattle.dvd_capture.proofs.WorkParts.{marks-height, marks-width, rows-height}
use Rattle.dvd_exercise.proofs.Changed.{line_more, line_none, line_whole}
use Rattle.dvd_exercise.proofs.Works.{rest-same, rest-then}
use Rattle.dvd_exercise.proofs.damage.lose_row.Goals as goal

pub loop-j-init : goal.loop-j-init
loop-j-init c = record {
  row = line_none 0 c.args.i (λ k. k) (λ _. 0) (rows_of c.args.work.now);
  width = λ more. absurd (omega arith);
  marks = line_none false c.args.i (λ k. k) (λ _. true) (marks_of_work c.args.work.now);
  rest = rest-same c.args.work.now c.requires.stage;
}

pub loop-j-preserved : goal.loop-j-preserved
loop-j-preserved c = record {
  row = line_more 0 c.args.i c.loop-j.j (λ k. k) (λ _. 0) _ _ _ 0 (omega (arith, rows-height c.args.work.now.received, c.requires.row)) (λ t below same. omega arith)
      c.loop-j.invariant.row c.damage.ensures.received (omega (arith, c.damage.ensures.width)) refl;
  width = λ more. c.damage.ensures.width;
  marks = line_more false c.args.i c.loop-j.j (λ k. k) (λ _. true) _ _ _ true (omega (arith, marks-height c.args.work.now.marks, c.requires.row)) (λ t below same. omega arith)
      c.loop-j.invariant.marks c.damage.ensures.marks (omega (arith, marks-width c.damage.new.self.marks c.args.i c.requires.row)) refl;
  rest = rest-then c.args.work.now c.loop-j.work c.damage.new.self c.loop-j.invariant.rest
      (record { stage = c.damage.ensures.stage; found = record { answers = c.damage.ensures.answers; columns = c.damage.ensures.columns; sectors = c.damage.ensures.sectors } });
}

pub returns-clause-received : goal.returns-clause-received
returns-clause-received c =
    let all : c.loop-j.j ≡ 182 = omega arith in
    line_whole 0 c.args.i c.loop-j.j (λ _. 0) (rows_of c.args.work.now) (rows_of c.loop-j.work) (replicate 182 0) c.loop-j.invariant.row
    (c.loop-j.invariant.width (omega arith) ∙ sym all) (length-replicate {A = ℕ} 182 0 ∙ sym all) (λ k below. get_or-replicate 182 k 0 0 (omega arith))

pub returns-clause-marks : goal.returns-clause-marks
returns-clause-marks c =
    let all : c.loop-j.j ≡ 182 = omega arith in
    line_whole false c.args.i c.loop-j.j (λ _. true) (marks_of_work c.args.work.now) (marks_of_work c.loop-j.work) (replicate 182 true) c.loop-j.invariant.marks
    (marks-width c.loop-j.work.marks c.args.i c.requires.row ∙ sym all) (length-replicate 182 true ∙ sym all) (λ k below. get_or-replicate 182 k true false (omega arith))
