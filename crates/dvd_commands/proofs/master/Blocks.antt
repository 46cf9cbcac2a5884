-- One block that `master` reads, makes and writes.
use Rattle.std.proofs.Common.{◌≡◌, ℕ, ◌-◌, ◌≤◌, List, [], ◌∷◌, ◌++◌, length, take, drop, replicate, slice_get, Some, refl, sym, ap, subst, ◌∙◌, arith, take-append-drop}
use Rattle.std.proofs.lemmas.List.{length-take-le}
use Rattle.coding.specs.Product.{IsBlockOf}
use Rattle.coding.specs.Recording.{recording}
use Rattle.dvd_layout.specs.Plan.{plan_of}
use Rattle.dvd_layout.specs.declared.entry.BlockPlan.{BlockPlan}
use Rattle.dvd_layout.specs.declared.layout.Layout.{Layout}
use Rattle.dvd_layout.specs.declared.layout.Zones.{Zones}
use Rattle.dvd_loop.specs.Machine.Step.{Write}
use Rattle.dvd_loop.specs.declared.ends.UnitKind.TheVariants.{Good}
use Rattle.dvd_commands.specs.Master.{IsMastered, bytes_of_block, bytes_of_entry, filled_block, frames_of, image_bytes}

-- the image bytes of a piece, and the zeros after them, are the piece
filled_is : (piece : List ℕ) (size : ℕ) → length piece ≡ 32768 → size ≤ 32768 → drop size piece ≡ replicate (32768 - size) 0
    → filled_block (take size piece) ≡ piece
filled_is piece size long most zeros =
    ap (λ n. take size piece ++ replicate (32768 - n) 0) (length-take-le size piece (omega arith)) ∙ ap (λ l. take size piece ++ l) (sym zeros) ∙ take-append-drop size piece

module _ (layout : Layout) (zones : Zones) (k : ℕ) (entry : BlockPlan) (is_there : slice_get (plan_of layout zones) k ≡ Some entry) where
  -- how many bytes block k takes
  pub size_is : bytes_of_block layout zones k ≡ image_bytes layout entry
  size_is = ap (bytes_of_entry layout) is_there

  -- as many bytes of a piece that is filled with zeros as block k takes: their frames' block is what mastering may
  -- write for them
  pub mastered : (cpr piece sectors : List ℕ) (size : ℕ) → size ≡ image_bytes layout entry → length piece ≡ 32768 → size ≤ 32768 → drop size piece ≡ replicate (32768 - size) 0
      → sectors ≡ piece → (block : List (List ℕ)) → IsBlockOf (frames_of layout entry cpr sectors) block
      → (length (take size piece) ≡ bytes_of_block layout zones k) × IsMastered layout zones cpr k (take size piece) (Write (recording block) ∷ []) Good
  mastered cpr piece sectors size is long most zeros same block is_block = (
    length-take-le size piece (omega arith) ∙ is ∙ sym size_is,
    record {
      entry = entry;
      is_there = is_there;
      block = block;
      is_block = subst (λ l. IsBlockOf (frames_of layout entry cpr l) block) (same ∙ sym (filled_is piece size long most zeros)) is_block;
      writes = refl;
      good = refl;
    },
  )
