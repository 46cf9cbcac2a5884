-- The proof of `copy_answered` in src/rescue.rt.
use Rattle.std.proofs.Common.{◌≡◌, ◌∙◌, ◌+◌, ◌*◌, length, map, not, refl, sym, ap, arith}
use Rattle.std.proofs.lemmas.List.{length-map}
use Rattle.dvd_read.specs.Parts.{answer_word}
use Rattle.dvd_read.specs.Inner.Saved.{answered_block}
use Rattle.dvd_read.proofs.FrameFaults.{prefixes-all, prefixes-next}
use Rattle.dvd_read.proofs.SavedFrames.{answered-line, failed-flag, lacks-at, none-more}
use Rattle.dvd_read.proofs.rescue.copy_answered.Goals as goal

pub loop-q-init : goal.loop-q-init
loop-q-init c = record { size = c.told-frame; prefix = refl; none = refl }

pub returns-then-is_none-clause-has : goal.returns-then-is_none-clause-has
returns-then-is_none-clause-has c =
    let rows = c.args.answers.now in
    let size : length (map answer_word rows) ≡ 208 = length-map rows answer_word ∙ c.requires.rows in
    sym (ap not (lacks-at (map answer_word rows) c.args.f c.loop-q.q size c.requires.frame (omega arith)
    (failed-flag rows (12 * c.args.f + c.loop-q.q) _ (omega arith) ∙ ap not (c.is_none.ensures ∙ ap not c.if-is_none.true))))

pub loop-q-preserved : goal.loop-q-preserved
loop-q-preserved c =
    let rows = c.args.answers.now in
    let f = c.args.f in
    let q = c.loop-q.q in
    let size : length (map answer_word rows) ≡ 208 = length-map rows answer_word ∙ c.requires.rows in
    let has = ap not (c.is_none.ensures ∙ ap not c.if-is_none.false) in
    record {
      size = c.put_data.array_long;
      prefix = prefixes-next (answered_block (map answer_word rows)) f q c.loop-q.frame c.put_data.new.frame _ c.put_data.ensures.prefix c.loop-q.invariant.prefix
          (sym (answered-line rows (12 * f + q) _ (omega arith) has));
      none = none-more (map answer_word rows) f q size c.requires.frame (omega arith) c.loop-q.invariant.none
          (failed-flag rows (12 * f + q) _ (omega arith) ∙ has);
    }

pub returns-clause-frame : goal.returns-clause-frame
returns-clause-frame c =
    λ yes.
    prefixes-all (answered_block (map answer_word c.args.answers.now)) c.args.f c.loop-q.q c.loop-q.frame c.loop-q.invariant.size (omega arith) c.loop-q.invariant.prefix
