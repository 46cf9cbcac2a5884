-- The proof of `combine_row` in src/damage.rt.
use Rattle.std.proofs.Common.{◌≡◌, ◌∙◌, ℕ, ◌/◌, ◌^◌, ◌<◌, slice_index, bit_xor, refl, sym, ap, arith}
use Rattle.coding.specs.Product.{line, place}
use Rattle.dvd_capture.specs.Works.{rows_of}
use Rattle.dvd_capture.proofs.WorkParts.{rows-height}
use Rattle.dvd_exercise.specs.Damage.{combined}
use Rattle.dvd_exercise.specs.Generator.{drawn_byte, state_of, step}
use Rattle.dvd_exercise.proofs.Changed.{line_combined, line_none, line_whole}
use Rattle.dvd_exercise.proofs.Draws.{byte_more, state_more, state_none}
use Rattle.dvd_exercise.proofs.Rows.{get_or-combined, length-combined}
use Rattle.dvd_exercise.proofs.Works.{but_bytes-same, but_bytes-then}
use Rattle.dvd_exercise.proofs.damage.combine_row.Goals as goal

pub loop-j-init : goal.loop-j-init
loop-j-init c = record {
  row = line_none 0 c.args.i (λ k. k) (λ k. bit_xor (place (rows_of c.args.work.now) c.args.i k) (drawn_byte (state_of c.args.rand.now) k)) (rows_of c.args.work.now);
  width = λ more. absurd (omega arith);
  drawn = sym (state_none (state_of c.args.rand.now));
  rest = but_bytes-same c.args.work.now c.requires.stage;
}

pub loop-j-preserved : goal.loop-j-preserved
loop-j-preserved c =
    let y : ℕ = state_of c.args.rand.now in
    let j : ℕ = c.loop-j.j in
    let byte : c.byte-byte.result ≡ drawn_byte y j = c.byte-byte.ensures.byte ∙ ap (λ (x : ℕ). step x / 2 ^ 56) c.loop-j.invariant.drawn ∙ byte_more y j in record {
      row = line_combined c.args.i j (λ k. k) (drawn_byte y) _ _ _ j _ (omega (arith, rows-height c.args.work.now.received, c.requires.row)) (λ t below same. omega arith)
          c.loop-j.invariant.row refl byte c.combine.ensures.received (omega (arith, c.combine.ensures.width));
      width = λ more. c.combine.ensures.width;
      drawn = c.byte-byte.ensures.state ∙ ap step c.loop-j.invariant.drawn ∙ state_more y j;
      rest = but_bytes-then c.args.work.now c.loop-j.work c.combine.new.work c.loop-j.invariant.rest c.combine.ensures.rest;
    }

pub returns-clause-received : goal.returns-clause-received
returns-clause-received c =
    let row = line (rows_of c.args.work.now) c.args.i in
    let y : ℕ = state_of c.args.rand.now in
    let all : c.loop-j.j ≡ 182 = omega arith in
    line_whole 0 c.args.i c.loop-j.j (λ k. bit_xor (slice_index row k) (drawn_byte y k)) (rows_of c.args.work.now) (rows_of c.loop-j.work) (combined y row) c.loop-j.invariant.row
    (c.loop-j.invariant.width (omega arith) ∙ sym all) (length-combined y row ∙ sym all) (λ k below. get_or-combined y row k (omega arith))
