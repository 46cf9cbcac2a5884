-- The proof of `put_totals` in src/words.rt.
use Rattle.std.proofs.Common.{◌≡◌, ◌∙◌, ◌++◌, List, ℕ, ap}
use Rattle.cap_survey.specs.declared.totals.Totals.{Totals}
use Rattle.cap_draw.specs.Words.{counts_text, cut_text, peak_text}
use Rattle.cap_draw.proofs.Texts.{more}
use Rattle.cap_draw.proofs.words.put_totals.Goals as goal

pub returns-clause-bytes : goal.returns-clause-bytes
returns-clause-bytes c =
    let page : List ℕ = c.args.page.now in
    let t1 : List ℕ = counts_text c.totals_of-totals.result c.args.columns in
    let p1 : c.put_counts.new.page ≡ page ++ t1 = c.put_counts.ensures.bytes in
    let t2 : List ℕ = t1 ++ peak_text c.totals_of-totals.result in
    let p2 : c.put_peak.new.page ≡ page ++ t2 = more page t1 (peak_text c.totals_of-totals.result) p1 c.put_peak.ensures.bytes in
    more page t2 (cut_text c.totals_of-totals.result.blocks c.args.closed) p2 c.put_cut.ensures.bytes
    ∙ ap (λ (totals : Totals). page ++ (counts_text totals c.args.columns ++ peak_text totals ++ cut_text totals.blocks c.args.closed)) c.totals_of-totals.ensures
