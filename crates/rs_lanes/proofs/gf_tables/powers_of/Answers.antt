-- The proof of `powers_of` in src/gf_tables.rt.
use Rattle.rs_lanes.proofs.FactorLemmas.{POWERS-power}
use Rattle.rs_lanes.proofs.gf_tables.powers_of.Goals as goal

pub returns : goal.returns
returns c = λ k below. POWERS-power c.args.exponent k _ c.requires below c.bytes_of.ensures
