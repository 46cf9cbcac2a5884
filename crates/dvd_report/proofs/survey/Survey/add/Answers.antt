-- The proof of `Survey::add` in src/survey.rt.
use Rattle.std.proofs.Common.{◌≡◌, ◌∙◌, ◌∷◌, ◌++◌, [], Some, length, map, sym, ap, subst, length-append}
use Rattle.dvd_report.specs.Survey.{last_eight, pi_of, SurveyState, Represents, totals_of}
use Rattle.dvd_report.proofs.Sums.{last-is, window-moved, window-summed}
use Rattle.circular_buffer.specs.Buffer.{Buffer}
use Rattle.std.specs.Prelude.{ℕ}
use Rattle.dvd_report.proofs.survey.Survey.add.Goals as goal

pub returns-clause-added : goal.returns-clause-added
returns-clause-added c blocks is =
    let block = c.survey_block-block.result in
    let more = blocks ++ block ∷ [] in
    let totals : c.self.inside.totals ≡ totals_of blocks = ap (λ (s : SurveyState). s.totals) c.self.view_is ∙ is.totals in
    let window : c.self.inside.window.items ≡ map pi_of (last_eight blocks) = ap (λ (s : SurveyState). s.window) c.self.view_is ∙ is.window in
    let items : c.push_back.new.self.items ≡ map pi_of (last_eight more) =
    window-moved blocks block c.self.inside.window.items c.push_back.new.self.items c.self.inside.window.capacity c.self.invariant.eight window
    (ap (λ (b : Buffer ℕ). b.items) c.push_back.ensures.items) in
    let summed = c.sum_of.ensures ∙ window-summed more c.push_back.new.self.items (length blocks) (sym (length-append blocks (block ∷ []))) items in
    let state : SurveyState = record { totals = c.totals_with-self-inside.result; window = c.push_back.new.self.items; last = Some block } in
    subst (λ b. Represents state (blocks ++ b ∷ [])) c.survey_block-block.ensures record {
      totals = c.totals_with-self-inside.ensures.totals blocks totals summed;
      window = items;
      last = sym (last-is blocks block);
    }
