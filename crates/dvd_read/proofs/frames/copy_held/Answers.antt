-- The proof of `copy_held` in src/frames.rt.
use Rattle.std.proofs.Common.{◌+◌, ◌*◌, ℕ, List, [], refl, sym, arith}
use Rattle.std.proofs.lemmas.List.{get_or-map}
use Rattle.dvd_capture.specs.declared.parts.AnswerRow.{AnswerRow}
use Rattle.dvd_read.specs.Parts.{answer_bytes}
use Rattle.dvd_read.proofs.FrameFaults.{prefixes-all, prefixes-next, width-next}
use Rattle.dvd_read.proofs.frames.copy_held.Goals as goal

pub loop-q-init : goal.loop-q-init
loop-q-init c = record { size = c.told-frame; prefix = refl; widths = λ k none. absurd (omega arith) }

pub loop-q-preserved : goal.loop-q-preserved
loop-q-preserved c =
    let rows : List (List ℕ) = answer_bytes c.args.answers.now in
    let is = sym (get_or-map (λ (answer : AnswerRow). answer.bytes) c.args.answers.now (12 * c.args.f + c.loop-q.q) _ [] (omega arith)) in
    record {
      size = c.put_data.array_long;
      prefix = prefixes-next rows c.args.f c.loop-q.q c.loop-q.frame c.put_data.new.frame _ c.put_data.ensures.prefix c.loop-q.invariant.prefix is;
      widths = width-next rows c.args.f c.loop-q.q _ is c.put_data.ensures.width c.loop-q.invariant.widths;
    }

pub returns-clause-frame : goal.returns-clause-frame
returns-clause-frame c = prefixes-all (answer_bytes c.args.answers.now) c.args.f c.loop-q.q c.loop-q.frame c.loop-q.invariant.size (omega arith) c.loop-q.invariant.prefix

pub returns-clause-widths : goal.returns-clause-widths
returns-clause-widths c = λ q below. c.loop-q.invariant.widths q (omega arith)
