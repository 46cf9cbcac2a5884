-- The proof of `put_digits` in src/map.rt.
use Rattle.std.proofs.Common.{◌≡◌, ◌-◌, ◌/◌, ◌%◌, ◌<◌, ◌^◌, ◌++◌, ◌∙◌, ℕ, true, sym, ap, arith, append-nil}
use Rattle.std.proofs.Math.Nat.{pow-le-pow_right}
use Rattle.std.specs.Fmt.{digit_glyph}
use Rattle.dvd_report.specs.Lines.{hexadecimal}
use Rattle.dvd_report.proofs.Hexadecimal.{digit-next, place-some}
use Rattle.cap_lost.proofs.map.put_digits.Goals as goal

-- the weight of a place fits into 64 bits
fits : (place : ℕ) → place < 9 → 16 ^ place < 2 ^ 64
fits place within = omega (arith, pow-le-pow_right {n = 16} (omega arith) {i = place} {j = 8} (omega arith))

pub pow-requires : goal.pow-requires
pow-requires c = fits (c.loop-place.place - 1) (omega arith)

pub nonzero_div-number : goal.nonzero_div-number
nonzero_div-number c = rw c.pow.ensures (place-some (c.loop-place.place - 1))

pub loop-place-preserved : goal.loop-place-preserved
loop-place-preserved c = record {
  text = ap (λ bytes. bytes ++ hexadecimal (c.loop-place.place - 1) c.args.number) c.put.ensures.items
      ∙ digit-next c.loop-place.lines.items c.loop-place.place c.args.number c.hexadecimal_digit.result c.loop-place-test.true
      (c.hexadecimal_digit.ensures ∙ ap (λ power. digit_glyph true (c.args.number / power % 16)) c.pow.ensures)
      ∙ c.loop-place.invariant.text;
  len = omega (arith, c.put.ensures.len, c.loop-place.invariant.len);
}

pub returns-clause-items : goal.returns-clause-items
unfolding hexadecimal
returns-clause-items c =
    let none : c.loop-place.place ≡ 0 = omega arith in
    sym (append-nil c.loop-place.lines.items)
    ∙ ap (λ place. c.loop-place.lines.items ++ hexadecimal place c.args.number) (sym none)
    ∙ c.loop-place.invariant.text
