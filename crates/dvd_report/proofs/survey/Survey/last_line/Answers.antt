-- The proof of `Survey::last_line` in src/survey.rt.
use Rattle.std.proofs.Common.{◌≡◌, ◌∙◌, length, ◌-◌, map, sym, ap, arith}
use Rattle.dvd_report.specs.Survey.{last_eight, pi_of, SurveyState}
use Rattle.dvd_report.proofs.Answered.{blocks-counted}
use Rattle.dvd_report.proofs.Sums.{last_line-is, window-summed}
use Rattle.dvd_report.proofs.survey.Survey.last_line.Goals as goal

pub returns : goal.returns
returns c blocks is =
    let count : c.args.self.now.totals.blocks ≡ length blocks = blocks-counted c.args.self.now blocks is in
    let window : c.self.inside.window.items ≡ map pi_of (last_eight blocks) = ap (λ (s : SurveyState). s.window) c.self.view_is ∙ is.window in
    c.line_of_block.ensures
    ∙ last_line-is c.args.plan.now blocks c.in-Some.block c.self.inside.totals.blocks c.sum_of.result
    (ap (λ (s : SurveyState). s.totals.blocks) c.self.view_is ∙ count)
    (sym is.last ∙ sym (ap (λ (s : SurveyState). s.last) c.self.view_is) ∙ c.in-Some.is)
    (c.sum_of.ensures ∙ window-summed blocks c.self.inside.window.items (length blocks - 1) (omega (arith, count, c.requires)) window)
