-- The proof of `fill` in src/generator.rt.
use Rattle.std.proofs.Common.{◌≡◌, ◌∙◌, ℕ, ◌/◌, ◌^◌, length, get_or-set_other, get_or-set_same, sym, ap, arith, below_more}
use Rattle.std.proofs.lemmas.List.{ext_get_or}
use Rattle.dvd_exercise.specs.Generator.{bytes_from, state_of, step}
use Rattle.dvd_exercise.proofs.Draws.{byte_more, get_or-bytes_from, length-bytes_from, state_more, state_none}
use Rattle.dvd_exercise.proofs.generator.fill.Goals as goal

pub loop-byte-init : goal.loop-byte-init
loop-byte-init c = record {
  state = sym (state_none (state_of c.args.rand.now));
  drawn = λ k below. absurd (omega arith);
}

pub loop-byte-preserved : goal.loop-byte-preserved
loop-byte-preserved c = record {
  state = c.byte.ensures.state ∙ ap step c.loop-byte.invariant.state ∙ state_more (state_of c.args.rand.now) c.loop-byte.byte-index;
  drawn = below_more _ _
      (λ k below. get_or-set_other c.loop-byte.bytes c.loop-byte.byte-index k c.byte.result 0 (omega arith) ∙ c.loop-byte.invariant.drawn k below)
      (get_or-set_same c.loop-byte.bytes c.loop-byte.byte-index c.byte.result 0 (omega arith)
      ∙ c.byte.ensures.byte ∙ ap (λ (y : ℕ). step y / 2 ^ 56) c.loop-byte.invariant.state ∙ byte_more (state_of c.args.rand.now) c.loop-byte.byte-index);
}

pub returns-clause-bytes : goal.returns-clause-bytes
returns-clause-bytes c =
    let size : length c.loop-byte.bytes ≡ length c.args.bytes.now = omega arith in
    ext_get_or 0 c.loop-byte.bytes (bytes_from (state_of c.args.rand.now) (length c.args.bytes.now)) (size ∙ sym (length-bytes_from (state_of c.args.rand.now) (length c.args.bytes.now)))
    (λ k below. c.loop-byte.invariant.drawn k (omega arith) ∙ sym (get_or-bytes_from (state_of c.args.rand.now) (length c.args.bytes.now) k (omega arith)))
