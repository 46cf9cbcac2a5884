-- The proof of `read_byte` in src/division.rt.
use Rattle.std.proofs.Common.{◌≡◌, ◌+◌, ◌-◌, length, get_or, set, ◌∙◌, inl, inr, arith, length-set, get_or-set_other}
use Rattle.std.proofs.lemmas.Grind.{get_or-set_at}
use Rattle.std.proofs.lemmas.List.{get_or_past}
use Rattle.std.proofs.lemmas.Bool.{cases_eq}
use Rattle.rs_code.proofs.Remainders.{IsRemainder-from_places}
use Rattle.rs_code.proofs.division.read_byte.Goals as goal

pub returns : goal.returns
returns c = λ read before.
    let register = c.args.register.now in
    let last = length register - 1 in
    IsRemainder-from_places c.args.generator.now read register (set c.loop-i.register last c.mul-2.result) c.args.byte (omega arith) (omega arith) (simp length-set (omega arith))
    (λ k below.
    elim (cases_eq k last) [
      | inl same ↦
          let past : get_or register (k + 1) 0 ≡ 0 = get_or_past register (k + 1) 0 (omega arith) in
          get_or-set_at c.loop-i.register last k c.mul-2.result 0 same (omega arith)
          ∙ c.mul-2.ensures
          ∙ rw (past, same)
      | inr other ↦
          get_or-set_other c.loop-i.register last k c.mul-2.result 0 other ∙ c.loop-i.invariant.moved k (omega arith)
    ])
    before
