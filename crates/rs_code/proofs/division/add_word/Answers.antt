-- The proof of `add_word` in src/division.rt.
use Rattle.std.proofs.Common.{◌≡◌, length, sym, ◌∙◌, arith}
use Rattle.std.proofs.lemmas.Grind.{same_number_lists}
use Rattle.std.proofs.lemmas.List.Elements.{All-from_get_or}
use Rattle.coding.specs.Words.{IsByte}
use Rattle.rs_code.specs.Inner.Polynomials.{sum_of}
use Rattle.rs_code.proofs.Values.{length-sum_of, get_or-sum_of}
use Rattle.rs_code.proofs.division.add_word.Goals as goal

pub returns-clause-sum : goal.returns-clause-sum
returns-clause-sum c =
    let sum = c.args.sum.now in
    let word = c.args.word.now in
    let same : length sum ≡ length word = sym c.requires in
    let long : length (sum_of sum word) ≡ length sum = length-sum_of sum word same in
    same_number_lists c.loop-i.sum (sum_of sum word) (c.loop-i.invariant.size ∙ sym long)
    (λ k below. c.loop-i.invariant.added k (omega (arith, c.loop-i.invariant.size)) ∙ sym (get_or-sum_of sum word k same))

pub returns-clause-word_bytes : goal.returns-clause-word_bytes
returns-clause-word_bytes c = All-from_get_or IsByte c.args.word.now 0 (λ i inside. omega (arith, c.type_inv.word i))
