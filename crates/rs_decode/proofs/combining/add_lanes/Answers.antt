-- The proof of `add_lanes` in src/combining.rt.
use Rattle.std.proofs.Common.{◌≡◌, ◌+◌, ◌≤◌, ℕ, List, length, get_or, take, drop, ap, ◌∙◌, arith}
use Rattle.std.specs.Simd.Lanes.{zip2}
use Rattle.std.proofs.lemmas.Simd.{length-chunk, get_or-chunk, get_or-put_chunk_below, get_or-put_chunk_at, get_or-put_chunk_above}
use Rattle.coding.specs.Field.{plus}
use Rattle.rs_lanes.specs.Inner.Lanes.{HoldsLanes}
use Rattle.rs_lanes.proofs.LaneLemmas.{HoldsLanes-zip2}
use Rattle.rs_decode.proofs.combining.add_lanes.Goals as goal

-- the sums that are written
sums : (bytes lanes : List ℕ) (at : ℕ) → at + 16 ≤ length bytes → length lanes ≡ 16
    → HoldsLanes 16 (zip2 plus (take 16 (drop at bytes)) lanes) (λ k. plus (get_or (take 16 (drop at bytes)) k 0) (get_or lanes k 0))
sums bytes lanes at room many = HoldsLanes-zip2 16 plus (take 16 (drop at bytes)) lanes (length-chunk at 16 bytes room) many

pub returns-clause-added : goal.returns-clause-added
returns-clause-added c = λ k below.
    let bytes = c.args.bytes.now in
    let lanes = c.args.lanes in
    let at = c.args.at in
    let are = sums bytes lanes at c.requires c.fits-lanes.0 in
    get_or-put_chunk_at at bytes _ k 0 (omega (arith, are.size)) (omega (arith, are.size, c.requires))
    ∙ are.each k below
    ∙ ap (λ byte. plus byte (get_or lanes k 0)) (get_or-chunk at 16 bytes k 0 below)

pub returns-clause-below : goal.returns-clause-below
returns-clause-below c = λ k below. get_or-put_chunk_below c.args.at c.args.bytes.now _ k 0 below

pub returns-clause-above : goal.returns-clause-above
returns-clause-above c = λ k above.
    let are = sums c.args.bytes.now c.args.lanes c.args.at c.requires c.fits-lanes.0 in
    get_or-put_chunk_above c.args.at c.args.bytes.now _ k 0 (omega (arith, are.size))
