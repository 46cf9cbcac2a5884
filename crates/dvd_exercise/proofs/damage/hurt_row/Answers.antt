-- The proof of `hurt_row` in src/damage.rt.
use Rattle.std.proofs.Common.{◌≡◌, ◌∙◌, ℕ, ◌+◌, ◌*◌, ◌/◌, ◌%◌, ◌^◌, ◌<◌, bit_or, bit_xor, ap, subst, arith, add_assoc}
use Rattle.coding.specs.Product.{line, place}
use Rattle.dvd_capture.specs.Works.{rows_of}
use Rattle.dvd_capture.proofs.WorkParts.{rows-height}
use Rattle.dvd_exercise.specs.Damage.{IsChanged, error_byte, drawn_errors, error_place}
use Rattle.dvd_exercise.specs.Generator.{drawn_byte, state_after, state_of, step}
use Rattle.dvd_exercise.proofs.Changed.{line_combined, line_none}
use Rattle.dvd_exercise.proofs.Draws.{byte_more, state_more, two_words, state_one}
use Rattle.dvd_exercise.proofs.Rows.{place-new}
use Rattle.dvd_exercise.proofs.Works.{but_bytes-same, but_bytes-then}
use Rattle.dvd_exercise.proofs.damage.hurt_row.Goals as goal

-- the first word says how many errors there are
counted : (y word : ℕ) → word ≡ step y → word % 6 ≡ drawn_errors y
counted y word is = ap (λ (w : ℕ). w % 6) (is ∙ state_one y)

-- the second word of a row is the state after two steps
second : (y state word : ℕ) → state ≡ step y → word ≡ step state → word ≡ state_after y 2
second y state word first is = is ∙ ap step first ∙ two_words y

pub loop-u-init : goal.loop-u-init
loop-u-init c = record {
  row = line_none 0 c.args.i (error_place (state_of c.args.rand.now))
      (λ u. bit_xor (place (rows_of c.args.work.now) c.args.i (error_place (state_of c.args.rand.now) u)) (error_byte (state_of c.args.rand.now) u)) (rows_of c.args.work.now);
  drawn = second (state_of c.args.rand.now) _ _ c.word.ensures.state c.word-2.ensures.state;
  rest = but_bytes-same c.args.work.now c.requires.stage;
}

pub loop-u-preserved : goal.loop-u-preserved
loop-u-preserved c =
    let y : ℕ = state_of c.args.rand.now in
    let u : ℕ = c.loop-u.u in
    let below : u < 6 = omega arith in
    let here : (c.word-2.result % 182 + 31 * u) % 182 ≡ error_place y u = ap (λ (w : ℕ). (w % 182 + 31 * u) % 182) (second y _ _ c.word.ensures.state c.word-2.ensures.word) in
    let byte : c.byte-byte.result ≡ drawn_byte y (2 + u) = c.byte-byte.ensures.byte ∙ ap (λ (x : ℕ). step x / 2 ^ 56) c.loop-u.invariant.drawn ∙ byte_more y (2 + u) in record {
      row = line_combined c.args.i u (error_place y) (error_byte y) _ _ _ _ _ (omega (arith, rows-height c.args.work.now.received, c.requires.row))
          (λ t before. place-new (state_after y 2 % 182) u t below before) c.loop-u.invariant.row here (ap (λ (b : ℕ). bit_or b 1) byte)
          c.combine.ensures.received (omega (arith, c.combine.ensures.width));
      drawn = c.byte-byte.ensures.state ∙ ap step c.loop-u.invariant.drawn ∙ state_more y (2 + u) ∙ ap (state_after y) (add_assoc 2 u 1);
      rest = but_bytes-then c.args.work.now c.loop-u.work c.combine.new.work c.loop-u.invariant.rest c.combine.ensures.rest;
    }

pub returns-clause-received : goal.returns-clause-received
returns-clause-received c =
    let rows = rows_of c.args.work.now in
    let y : ℕ = state_of c.args.rand.now in
    subst (λ (n : ℕ). IsChanged 0 n (error_place y) (λ u. bit_xor (place rows c.args.i (error_place y u)) (error_byte y u)) (line rows c.args.i) (line (rows_of c.loop-u.work) c.args.i))
    (omega (arith, counted y c.word.result c.word.ensures.word)) c.loop-u.invariant.row.line

pub returns-clause-drawn : goal.returns-clause-drawn
returns-clause-drawn c =
    let y : ℕ = state_of c.args.rand.now in
    let all : c.loop-u.u ≡ drawn_errors y = omega (arith, counted y c.word.result c.word.ensures.word) in
    c.loop-u.invariant.drawn ∙ ap (λ (n : ℕ). state_after y (2 + n)) all
