-- The proof of `by_own` in src/tries.rt.
use Rattle.std.proofs.Common.{◌≡◌, ◌<◌, Bool, List, None, is_some, unwrap_or, sym, ap, subst}
use Rattle.coding.specs.Filling.{marked}
use Rattle.coding.specs.Nearest.{near_of}
use Rattle.dvd_capture.specs.Parts.{marks_of_rows}
use Rattle.dvd_deep.specs.Rounds.{column_marks}
use Rattle.dvd_deep.proofs.ColumnStep.{length-column_marks, many-none}
use Rattle.dvd_deep.proofs.tries.Tries.by_own.Goals as goal

-- with more own marks than sixteen no codeword is near
missing : (c : goal.In-None) → near_of 208 16 c.args.word.now (column_marks (marks_of_rows c.args.self.now.marks.now) c.args.j) ≡ None
missing c =
    let marks = marks_of_rows c.args.self.now.marks.now in
    many-none c.args.word.now (column_marks marks c.args.j) c.told-word (length-column_marks marks c.args.j)
    (subst (λ (own : List Bool). 16 < marked own) c.own_marks.ensures c.in-None.ensures)

pub returns-in-None-clause-answered : goal.returns-in-None-clause-answered
returns-in-None-clause-answered c = sym (ap is_some (missing c))

pub returns-in-None-clause-word : goal.returns-in-None-clause-word
returns-in-None-clause-word c = sym (ap (λ found. unwrap_or found c.args.word.now) (missing c))
