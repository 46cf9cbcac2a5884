-- The proof of `put` in src/text.rt.
use Rattle.std.proofs.Common.{◌≡◌, ◌∙◌, ℕ, List, ◌∷◌, length, Err, IfErr, ap, sym, subst, rules}
use Rattle.cap_survey.specs.Survey.{reading_on}
use Rattle.cap_survey.proofs.Faults.{too_long}
use Rattle.cap_survey.proofs.text.Reading.put.Goals as goal

pub returns-then-byte-eq10-clause-rule : goal.returns-then-byte-eq10-clause-rule
returns-then-byte-eq10-clause-rule c =
    subst (λ b. IfErr c.end_line.result (λ fault. (more : List ℕ) → reading_on c.args.self.now (b ∷ more) ≡ Err fault)) (sym c.if-byte-eq10.true) c.end_line.ensures.rule

pub returns-then-is_full-clause-rule : goal.returns-then-is_full-clause-rule
returns-then-is_full-clause-rule c = λ more.
    let full : length c.args.self.now.line ≡ 255 = search (rules, c.if-is_full.ensures.value, c.if-is_full.true) in
    too_long c.args.self.now c.args.byte more full c.if-byte-eq10.false ∙ ap Err (sym c.fault.ensures)
