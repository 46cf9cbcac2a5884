-- The proof of `begin_with` in src/proposals.rt.
use Rattle.std.proofs.lemmas.Bool.{eqb-true}
use Rattle.rs_propose.proofs.EqualPrefixes.{same_prefix}
use Rattle.rs_propose.proofs.proposals.begin_with.Goals as goal

pub returns : goal.returns
returns c = λ none. same_prefix c.args.sums c.args.syndromes.now c.requires.lanes c.requires.size (eqb-true _ _ none)
