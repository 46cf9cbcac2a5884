-- The proof of `places_one_by_one` in src/marks.rt.
use Rattle.std.proofs.Common.{rules, ◌≡◌, ◌∙◌, ◌+◌, not, ap, arith}
use Rattle.cap_mark.specs.Marks.{is_marked}
use Rattle.dvd_capture.specs.MarkBits.{is_other}
use Rattle.cap_mark.proofs.MarkLemmas.{said-back}
use Rattle.cap_mark.proofs.SpanLemmas.{agree_later}
use Rattle.cap_mark.proofs.marks.places_one_by_one.Goals as goal

pub loop-j-preserved : goal.loop-j-preserved
loop-j-preserved c =
    let start = c.args.start in
    let spans = c.args.spans.now in
    let j = c.loop-j.j in
    let agree = agree_later (start + j) (start + j) c.spans_from-left.result.now c.loop-j.left.now spans c.spans_from-left.ensures c.loop-j.invariant.agree (omega arith) in
    let here : is_other 1 c.from.result ≡ is_marked spans start j =
    ap (is_other 1) c.from.ensures ∙ said-back c.is_rescued.result ∙ ap not (c.is_rescued.ensures ∙ agree (start + j) (omega arith)) in
    record {
      size = search rules;
      agree = λ k above. agree k (omega arith);
      said = search rules;
    }
