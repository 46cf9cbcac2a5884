-- The proof of `answer` in src/column_group.rt.
use Rattle.std.proofs.Common.{◌≡◌, ◌∙◌, ℕ, Bool, List, Some, length, is_some, unwrap_or, sym, ap, subst, arith}
use Rattle.std.specs.Prelude.{IfOk, OnErr, Result, Ok, Err, is_ok}
use Rattle.std.proofs.lemmas.List.Elements.{All-from_get_or}
use Rattle.coding.specs.Nearest.{near_of}
use Rattle.coding.specs.Words.{IsByte, IsNear}
use Rattle.rs_decode.specs.Errors.{HasNoneNear}
use Rattle.rs_decode.specs.declared.errors.Beyond.{Beyond}
use Rattle.rs_decode.specs.declared.errors.Fix.{Fix}
use Rattle.rs_decode.proofs.NearSearch.{near_of-some, none-near_of}
use Rattle.rs_decode.proofs.OneNear.{filling_near}
use Rattle.dvd_read.proofs.MarkedColumns.{own-marked}
use Rattle.dvd_read.proofs.column_group.ColumnGroup.answer.Goals as goal

-- a codeword is the one near itself
own : (c : goal.Then-self-n-eq0) → near_of 208 16 c.args.word.now c.args.erasures.now.marks ≡ Some c.args.word.now
own c =
    own-marked 208 16 c.args.word.now c.args.erasures.now.marks (omega arith) c.args.erasures.now.size c.requires.within
    (record {
      size = c.told-word;
      bytes = All-from_get_or IsByte c.args.word.now 0 (λ i within. c.fits-word i);
      vanishes = λ k below. sym (c.requires.values k below) ∙ c.args.self.now.zeros c.args.n c.requires.lane c.if-self-n-eq0.true k below;
    })

pub returns-then-self-n-eq0-clause-answered : goal.returns-then-self-n-eq0-clause-answered
returns-then-self-n-eq0-clause-answered c = sym (ap is_some (own c))

pub returns-then-self-n-eq0-clause-word : goal.returns-then-self-n-eq0-clause-word
returns-then-self-n-eq0-clause-word c = sym (ap (λ found. unwrap_or found c.args.word.now) (own c))

-- what is filled is the codeword near it
filled : (c : goal.Then-fill) → near_of 208 16 c.args.word.now c.args.erasures.now.marks ≡ Some c.fill.new.word
filled c =
    near_of-some 208 16 c.args.word.now c.fill.new.word c.args.erasures.now.marks (omega arith)
    (filling_near 208 16 c.args.word.now c.args.erasures.now.marks c.fill.new.word c.told-word c.args.erasures.now.size (c.fill.ensures.filled c.if-fill.true))

pub returns-then-fill-clause-answered : goal.returns-then-fill-clause-answered
returns-then-fill-clause-answered c = sym (ap is_some (filled c))

pub returns-then-fill-clause-word : goal.returns-then-fill-clause-word
returns-then-fill-clause-word c = sym (ap (λ found. unwrap_or found c.args.word.now) (filled c))

-- a decoder answers where a codeword is near, and sets the word to it
by_result : (old new : List ℕ) (marks : List Bool) (r : Result Fix Beyond) → length old ≡ 208 → length marks ≡ 208 → IfOk r (λ _. IsNear 208 16 old marks new)
    → OnErr r (HasNoneNear 208 16 old marks) → OnErr r (new ≡ old) → (is_ok r ≡ is_some (near_of 208 16 old marks)) × (new ≡ unwrap_or (near_of 208 16 old marks) old)
by_result old new marks (Ok fix) size marks_size near none same =
    let found = near_of-some 208 16 old new marks (omega arith) near in
    (sym (ap is_some found), sym (ap (λ word. unwrap_or word old) found))
by_result old new marks (Err beyond) size marks_size near none same =
    let missing = none-near_of 208 16 old marks size marks_size none in
    (sym (ap is_some missing), same ∙ sym (ap (λ word. unwrap_or word old) missing))

-- so does this one
decoded : (c : goal.After-is_ok)
    → (is_ok c.decode_from.result ≡ is_some (near_of 208 16 c.args.word.now c.args.erasures.now.marks)) × (c.decode_from.new.word ≡ unwrap_or (near_of 208 16 c.args.word.now c.args.erasures.now.marks) c.args.word.now)
decoded c =
    let same : c.fill.new.word ≡ c.args.word.now = c.fill.ensures.same c.if-fill.false in
    let marks = c.args.erasures.now.marks in
    by_result c.args.word.now c.decode_from.new.word marks c.decode_from.result c.told-word c.args.erasures.now.size
    (subst (λ (old : List ℕ). IfOk c.decode_from.result (λ _. IsNear 208 16 old marks c.decode_from.new.word)) same c.decode_from.ensures.near)
    (subst (λ (old : List ℕ). OnErr c.decode_from.result (HasNoneNear 208 16 old marks)) same c.decode_from.ensures.beyond)
    (subst (λ (old : List ℕ). OnErr c.decode_from.result (c.decode_from.new.word ≡ old)) same c.decode_from.ensures.same)

pub returns-clause-answered : goal.returns-clause-answered
returns-clause-answered c = c.is_ok.ensures.value ∙ (decoded c).0

pub returns-clause-word : goal.returns-clause-word
returns-clause-word c = (decoded c).1
