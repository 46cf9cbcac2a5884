-- The proof of `add_at` in src/counting.rt.
use Rattle.std.proofs.Common.{◌≡◌, ◌==◌, not, get_or, refl, set, ap, arith, ◌∙◌}
use Rattle.std.proofs.lemmas.Grind.{get_or-set_at}
use mir.Val.{bool_byte}
use Rattle.coding.specs.Field.{plus}
use Rattle.rs_propose.proofs.AddedBytes.{differ-set, differ-some, unlike-number}
use Rattle.rs_propose.proofs.counting.add_at.Goals as goal

pub overflow_sub-result : goal.overflow_sub-result
overflow_sub-result c =
    let old = get_or c.args.row.now c.args.place 0 in
    let got = get_or c.args.received.now c.args.place 0 in
    omega (arith, c.from-before.ensures, unlike-number old got, c.requires.counted, differ-some 182 c.args.received.now c.args.row.now c.args.place c.told-received c.told-row c.requires.place)

pub returns-clause-counted : goal.returns-clause-counted
returns-clause-counted c =
    let place = c.args.place in
    let old = get_or c.args.row.now place 0 in
    let got = get_or c.args.received.now place 0 in
    let new = plus old c.args.byte in
    let new_is : get_or (set c.args.row.now place new) place 0 ≡ new = get_or-set_at c.args.row.now place place new 0 refl (omega (arith, c.told-row, c.requires.place)) in
    let after = c.from-after.ensures ∙ ap (λ byte. bool_byte (not (byte == got))) new_is ∙ unlike-number new got in
    omega (
      arith,
      c.from-before.ensures,
      after,
      unlike-number old got,
      c.requires.counted,
      differ-set 182 c.args.received.now c.args.row.now place new c.told-received c.told-row c.requires.place,
    )
