-- The proof of `set_keys` in src/scrambling.rt.
use Rattle.std.proofs.Common.{◌≡◌, ℕ, ◌+◌, ◌*◌, take, sym, ◌∙◌, ap, arith}
use Rattle.dvd_frame.specs.Inner.Registers.{keys_from}
use Rattle.dvd_frame.proofs.KeyWords.{keys_whole}
use Rattle.dvd_frame.proofs.scrambling.set_keys.Goals as goal

pub loop-step-preserved : goal.loop-step-preserved
loop-step-preserved c =
    let past : 32 * c.loop-step.step + 32 ≡ 32 * (c.loop-step.step + 1) = omega arith in
    record {
      size = omega arith;
      written = ap (λ (m : ℕ). take m c.set_vector.new.keys) (sym past)
          ∙ c.set_vector.ensures c.args.preset c.loop-step.invariant.written
          ∙ ap (keys_from c.args.preset 0) past;
    }

pub returns : goal.returns
returns c = keys_whole c.args.preset (32 * c.loop-step.step) 2048 c.loop-step.keys c.loop-step.invariant.size (omega arith) c.loop-step.invariant.written
