-- The proof of `write_word` in src/repairing.rt.
use Rattle.std.proofs.Common.{ℕ, List, get_or, set, ap₂, ◌∙◌, arith}
use Rattle.std.proofs.lemmas.List.{length-set}
use Rattle.cd_sector.proofs.NearWords.{with_word_bytes-next, with_word_bytes-none}
use Rattle.cd_sector.proofs.repairing.write_word.Goals as goal

pub loop-m-init : goal.loop-m-init
loop-m-init c = record { size = omega arith; word = with_word_bytes-none c.args.sector.now c.args.word c.args.bytes.now }

pub loop-m-preserved : goal.loop-m-preserved
loop-m-preserved c =
    let byte : ℕ = get_or c.args.bytes.now c.loop-m.m 0 in
    record {
      size = length-set c.loop-m.sector c.place.result byte ∙ c.loop-m.invariant.size;
      word = ap₂ (λ (l : List ℕ) (at : ℕ). set l at byte) c.loop-m.invariant.word c.place.ensures.value
          ∙ with_word_bytes-next c.args.sector.now c.args.word c.args.bytes.now c.loop-m.m;
    }
