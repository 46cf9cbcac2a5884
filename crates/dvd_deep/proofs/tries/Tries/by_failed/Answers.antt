-- The proof of `by_failed` in src/tries.rt.
use Rattle.std.proofs.Common.{◌≡◌, ◌∙◌, Bool, List, None, is_some, unwrap_or, sym, ap}
use Rattle.coding.specs.Nearest.{near_of}
use Rattle.dvd_deep.proofs.ColumnStep.{many-none}
use Rattle.dvd_deep.proofs.tries.Tries.by_failed.Goals as goal

-- the places are those of the failed rows
same : (c : goal.After-answer) → c.in-Some.erasures.marks ≡ c.args.self.now.failed.now
same c = (c.args.self.now.erased c.in-Some.erasures c.in-Some.is).1

pub returns-in-Some-clause-answered : goal.returns-in-Some-clause-answered
returns-in-Some-clause-answered c = c.answer.ensures.answered ∙ ap (λ (marks : List Bool). is_some (near_of 208 16 c.args.word.now marks)) (same c)

pub returns-in-Some-clause-word : goal.returns-in-Some-clause-word
returns-in-Some-clause-word c =
    c.answer.ensures.word ∙ ap (λ (marks : List Bool). unwrap_or (near_of 208 16 c.args.word.now marks) c.args.word.now) (same c)

-- with more failed rows than sixteen no codeword is near
missing : (c : goal.In-None) → near_of 208 16 c.args.word.now c.args.self.now.failed.now ≡ None
missing c =
    many-none c.args.word.now c.args.self.now.failed.now c.told-word c.args.self.now.size (c.args.self.now.many (ap is_some c.in-None.is))

pub returns-in-None-clause-answered : goal.returns-in-None-clause-answered
returns-in-None-clause-answered c = sym (ap is_some (missing c))

pub returns-in-None-clause-word : goal.returns-in-None-clause-word
returns-in-None-clause-word c = sym (ap (λ found. unwrap_or found c.args.word.now) (missing c))
