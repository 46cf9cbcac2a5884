-- The proof of `syndromes` in src/evaluation.rt.
use Rattle.std.proofs.Common.{sym, ◌∙◌, rules}
use Rattle.rs_code.proofs.Syndromes.{syndromes_of-none, syndromes_of-more}
use Rattle.rs_code.proofs.evaluation.syndromes.Goals as goal

pub loop-k-init : goal.loop-k-init
loop-k-init c = record {
  filled = search rules;
  so_far = c.new-syndromes.ensures ∙ sym (syndromes_of-none c.args.word.now);
}

pub loop-k-preserved : goal.loop-k-preserved
loop-k-preserved c =
    let more = syndromes_of-more c.loop-k.k c.args.word.now in
    record {
      filled = search rules;
      so_far = cc;
    }
