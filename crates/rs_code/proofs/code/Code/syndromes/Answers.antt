-- The proof of `Code::syndromes` in src/code.rt.
use Rattle.std.proofs.Common.{◌∙◌}
use Rattle.rs_code.proofs.Syndromes.{syndromes_of-same}
use Rattle.rs_code.proofs.code.Code.syndromes.Goals as goal

pub returns : goal.returns
returns g c = c.syndromes.ensures ∙ syndromes_of-same g.row.R c.remainder.result c.args.word.now c.remainder.ensures.values
