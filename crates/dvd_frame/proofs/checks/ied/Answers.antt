-- The proof of `ied` in src/checks.rt.
use Rattle.std.proofs.Common.{◌≡◌, ℕ, List, [], ◌∷◌, get_or, take, ◌∙◌, ap, subst, arith}
use Rattle.coding.specs.Words.{IsCodeword}
use Rattle.dvd_frame.specs.Id.{word_bytes}
use Rattle.dvd_frame.proofs.IdChecks.{ied_found, last_two}
use Rattle.dvd_frame.proofs.checks.ied.Goals as goal

pub returns-clause-codeword : goal.returns-clause-codeword
returns-clause-codeword c =
    let six : List ℕ = c.encode.new.word in
    let starts : take 4 six ≡ word_bytes c.args.id =
    c.encode.ensures.begins ∙ ap (λ (b : List ℕ). get_or b 0 0 ∷ get_or b 1 0 ∷ get_or b 2 0 ∷ get_or b 3 0 ∷ []) c.bytes.ensures in
    subst (IsCodeword 6 2) (last_two six (word_bytes c.args.id) c.encode.array_long starts) c.encode.ensures.codeword

pub returns-clause-value : goal.returns-clause-value
returns-clause-value c =
    let six : List ℕ = c.encode.new.word in
    ied_found c.args.id (get_or six 4 0) (get_or six 5 0) (c.encode.ensures.codeword.bytes 4 0 (omega arith)) (c.encode.ensures.codeword.bytes 5 0 (omega arith)) (returns-clause-codeword c)
