-- The proof of `moved_down` in src/register.rt.
use Rattle.std.proofs.Common.{ℕ, List, ◌+◌, ◌++◌, get_or, replicate, ◌∙◌, arith}
use Rattle.std.proofs.lemmas.List.FromFn.{get_or-map-range_with_len}
use Rattle.std.proofs.lemmas.List.{get_or_append_left}
use Rattle.rs_decode.proofs.register.moved_down.Goals as goal

pub returns-clause-each : goal.returns-clause-each
returns-clause-each c = λ k below.
    let zeros : List ℕ = replicate 32 0 in
    get_or-map-range_with_len (λ j. get_or (c.args.lanes ++ zeros) j 0) 1 32 k (k + 1) 0 (omega arith) (omega arith)
    ∙ get_or_append_left c.args.lanes zeros 0 (k + 1) (omega (arith, c.fits-lanes.0))
