-- The proof of `salvage_each` in src/reading.rt.
use Rattle.std.proofs.Common.{◌≡◌, ◌∙◌, ap, ℕ, List, [], cond, is_some, replicate, unwrap_or, arith}
use mir.Val.{bool_byte}
use Rattle.std.proofs.lemmas.List.{length-set}
use Rattle.std.proofs.lemmas.List.FromFn.{fill_by_all}
use Rattle.coding.specs.TwoPass.{answers_of}
use Rattle.dvd_capture.specs.Works.{marks_of_work, rows_of}
use Rattle.dvd_decoding.specs.Salvage.{block_out, rescued}
use Rattle.dvd_read.proofs.RowAnswers.{as_number}
use Rattle.dvdecc_c.specs.Reading.{saved_frames}
use Rattle.dvdecc_c.proofs.Filling.{filled-one_more}
use Rattle.dvdecc_c.proofs.reading.salvage_each.Goals as goal

pub loop-f-preserved : goal.loop-f-preserved
loop-f-preserved c =
    let answers = answers_of (rows_of c.args.work.now) (marks_of_work c.args.work.now) in record {
      size = length-set c.loop-f.sectors c.loop-f.f _ ∙ c.loop-f.invariant.size;
      places = length-set c.loop-f.saved c.loop-f.f _ ∙ c.loop-f.invariant.places;
      written = filled-one_more (λ f (sector : List ℕ). sector ≡ unwrap_or (rescued answers c.args.plan.now f) (replicate 2048 0))
          c.loop-f.sectors c.loop-f.f _ []
          (omega (arith, c.loop-f-test.true, c.loop-f.invariant.size)) c.loop-f.invariant.written c.salvage_frame.ensures.main;
      said = filled-one_more (λ f (byte : ℕ). byte ≡ bool_byte (is_some (rescued answers c.args.plan.now f))) c.loop-f.saved c.loop-f.f _ 0
          (omega (arith, c.loop-f-test.true, c.loop-f.invariant.places)) c.loop-f.invariant.said
          (c.from.ensures ∙ ap bool_byte c.salvage_frame.ensures.saved);
    }

pub returns-clause-sectors : goal.returns-clause-sectors
unfolding block_out
returns-clause-sectors c =
    let answers = answers_of (rows_of c.args.work.now) (marks_of_work c.args.work.now) in
    fill_by_all (λ f. unwrap_or (rescued answers c.args.plan.now f) (replicate 2048 0)) c.loop-f.sectors 16 [] c.loop-f.invariant.size
    (λ k below. c.loop-f.invariant.written k (omega arith))

pub returns-clause-saved : goal.returns-clause-saved
unfolding saved_frames
returns-clause-saved c =
    let answers = answers_of (rows_of c.args.work.now) (marks_of_work c.args.work.now) in
    fill_by_all (λ f. cond (is_some (rescued answers c.args.plan.now f)) 1 0) c.loop-f.saved 16 0 c.loop-f.invariant.places
    (λ k below. c.loop-f.invariant.said k (omega arith) ∙ as_number (is_some (rescued answers c.args.plan.now k)))
