-- How the sectors of a block are written.
use Rattle.std.proofs.Common.{◌≡◌, ℕ, zero, suc, ◌+◌, List, [], ◌∷◌, ◌++◌, take, drop, refl, sym, ap, ◌∙◌, append-nil}
use Rattle.std.specs.List.{flat_map}
use Rattle.std.proofs.Math.Seq.{take-add}
use Rattle.std.proofs.lemmas.Grind.{flat_map-append}
use Rattle.coding.specs.Product.{line}
use Rattle.dvd_commands.specs.Inner.Performing.{sectors_out}

-- fewer sectors are the front of more
pub sectors_prefix : (sectors : List (List ℕ)) (f more : ℕ)
    → sectors_out f sectors ++ flat_map (λ sector. sector) (take more (drop f sectors)) ≡ sectors_out (f + more) sectors
sectors_prefix sectors f more =
    sym (flat_map-append (λ (sector : List ℕ). sector) (take f sectors) (take more (drop f sectors))) ∙ ap (flat_map (λ (sector : List ℕ). sector)) (sym (take-add f more sectors))

-- one sector more
one_sector : (sectors : List (List ℕ)) (f : ℕ) → flat_map (λ sector. sector) (take 1 (drop f sectors)) ≡ line sectors f
one_sector [] zero = refl
one_sector (sector ∷ sectors) zero = append-nil sector
one_sector [] (suc f) = refl
one_sector (sector ∷ sectors) (suc f) = one_sector sectors f

-- and so f + 1 sectors are f sectors and the one after them
pub sectors_more : (sectors : List (List ℕ)) (f : ℕ) → sectors_out f sectors ++ line sectors f ≡ sectors_out (f + 1) sectors
sectors_more sectors f = ap (λ l. sectors_out f sectors ++ l) (sym (one_sector sectors f)) ∙ sectors_prefix sectors f 1
