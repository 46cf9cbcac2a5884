-- The proof of `moved_up` in src/combining.rt.
use Rattle.std.proofs.Common.{◌≡◌, ℕ, zero, suc, ◌<◌, List, ◌∷◌, get_or, map, refl, arith}
use Rattle.std.specs.List.{range_with_len}
use Rattle.std.proofs.lemmas.List.FromFn.{get_or-map-range_with_len}
use Rattle.rs_decode.proofs.combining.moved_up.Goals as goal

-- a byte, followed by the first 31 lanes
each : (first : ℕ) (lanes : List ℕ) (k : ℕ) → k < 32 → get_or (first ∷ map (λ j. get_or lanes j 0) (range_with_len 0 31)) k 0 ≡ get_or (first ∷ lanes) k 0
each first lanes zero below = refl
each first lanes (suc k) below = get_or-map-range_with_len (λ j. get_or lanes j 0) 0 31 k k 0 (omega arith) (omega arith)

pub returns : goal.returns
returns c = record { size = refl; each = each c.args.first c.args.lanes }
