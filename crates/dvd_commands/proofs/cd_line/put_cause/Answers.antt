-- The proof of `put_cause` in src/cd_line.rt.
use Rattle.std.proofs.Common.{◌∙◌, ◌++◌, List, ℕ, ap, sym}
use Rattle.std.specs.Prelude.{codes}
use Rattle.std.proofs.lemmas.List.{append_assoc}
use Rattle.dvd_report.specs.Lines.{hexadecimal}
use Rattle.dvd_commands.specs.CdLines.{cd_cause_text}
use Rattle.dvd_commands.proofs.cd_line.put_cause.Goals as goal

pub returns-in-Address-clause-bytes : goal.returns-in-Address-clause-bytes
unfolding cd_cause_text
returns-in-Address-clause-bytes c =
    let digits : List ℕ = hexadecimal 6 c.in-Address.found in
    c.put_hexadecimal.ensures.bytes ∙ ap (λ l. l ++ digits) c.put.ensures.bytes ∙ append_assoc c.args.line.now (codes "address found ") digits
    ∙ ap (λ x. c.args.line.now ++ cd_cause_text x) (sym c.in-Address.is)
