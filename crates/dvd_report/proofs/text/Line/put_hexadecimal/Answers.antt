-- The proof of `Line::put_hexadecimal` in src/text.rt.
use Rattle.std.proofs.Common.{◌≡◌, ◌-◌, ◌/◌, ◌%◌, ◌++◌, true, sym, ap, ◌∙◌, arith, append-nil}
use Rattle.std.specs.Fmt.{digit_glyph}
use Rattle.dvd_report.specs.Lines.{hexadecimal}
use Rattle.dvd_report.proofs.Hexadecimal.{digit-next, place-fits, place-some}
use Rattle.dvd_report.proofs.text.Line.put_hexadecimal.Goals as goal

pub pow-requires : goal.pow-requires
pow-requires c = place-fits (c.loop-place.place - 1) (omega arith)

pub nonzero_div-number : goal.nonzero_div-number
nonzero_div-number c = rw c.pow.ensures (place-some (c.loop-place.place - 1))

pub loop-place-preserved : goal.loop-place-preserved
loop-place-preserved c = (
  ap (λ bytes. bytes ++ hexadecimal (c.loop-place.place - 1) c.args.number) c.put.ensures.bytes
      ∙ digit-next c.loop-place.self c.loop-place.place c.args.number c.hexadecimal_digit.result c.loop-place-test.true
      (c.hexadecimal_digit.ensures ∙ ap (λ power. digit_glyph true (c.args.number / power % 16)) c.pow.ensures)
      ∙ c.loop-place.invariant.0,
  omega arith,
)

pub returns-clause-bytes : goal.returns-clause-bytes
unfolding hexadecimal
returns-clause-bytes c =
    let none : c.loop-place.place ≡ 0 = omega arith in
    sym (append-nil c.loop-place.self)
    ∙ ap (λ place. c.loop-place.self ++ hexadecimal place c.args.number) (sym none)
    ∙ c.loop-place.invariant.0
