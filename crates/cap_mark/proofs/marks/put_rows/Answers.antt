-- The proof of `put_rows` in src/marks.rt.
use Rattle.std.proofs.Common.{◌≡◌, ◌∙◌, ◌+◌, ◌-◌, ◌*◌, ◌++◌, ap, refl, sym, arith, append_assoc, slice_range, length, drop, length-drop, length-take}
use Rattle.cap_mark.specs.Frames.{marked_rows}
use Rattle.cap_mark.specs.Marks.{row_mark_bytes}
use Rattle.cap_mark.proofs.MarkLemmas.{row_agree, rows_more, rows_none}
use Rattle.cap_mark.proofs.SpanLemmas.{agree_later}
use Rattle.cap_mark.proofs.marks.put_rows.Goals as goal

pub loop-n-init : goal.loop-n-init
loop-n-init c = record {
  agree = λ k above. refl;
  items = c.requires.empty ∙ sym (rows_none c.args.spans.now c.args.start c.args.frame.now);
  len = ap length c.requires.empty;
}

pub loop-n-preserved : goal.loop-n-preserved
loop-n-preserved c =
    let start = c.args.start in
    let spans = c.args.spans.now in
    let n = c.loop-n.n in
    let left = c.spans_from-left.result.now in
    let agree = agree_later (start + 182 * n) (start + 182 * n) left c.loop-n.left.now spans c.spans_from-left.ensures c.loop-n.invariant.agree (omega arith) in
    let row = slice_range c.args.frame.now (182 * n) (182 * n + 182) in
    let whole : length row ≡ 182 = omega (arith, length-take (182 * n + 182 - 182 * n) (drop (182 * n) c.args.frame.now), length-drop (182 * n) c.args.frame.now, c.told-frame) in
    record {
      agree = λ k above. agree k (omega arith);
      items = c.put_marks.ensures.items ∙ ap (λ m. c.put.new.out.items ++ m) (row_agree left spans (start + 182 * n) agree)
          ∙ ap (λ l. l ++ row_mark_bytes spans (start + 182 * n)) (c.put.ensures.items ∙ ap (λ l. l ++ row) c.loop-n.invariant.items)
          ∙ append_assoc (marked_rows spans start c.args.frame.now n) row (row_mark_bytes spans (start + 182 * n)) ∙ sym (rows_more spans start n c.args.frame.now);
      len = c.put_marks.ensures.len ∙ omega (arith, c.put.ensures.len, c.loop-n.invariant.len, whole);
    }
