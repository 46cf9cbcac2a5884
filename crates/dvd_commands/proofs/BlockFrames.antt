-- Frames that are put into a block one after the other.
use Rattle.std.proofs.Common.{◌≡◌, ◌⊎◌, inl, ℕ, ◌+◌, ◌*◌, ◌<◌, ◌≤◌, List, [], sym, ap, subst, ◌∙◌, slice_index, arith}
use Rattle.std.proofs.lemmas.List.FromFn.{get_or-map-range_with_len}
use Rattle.coding.specs.Product.{line, place, IsProduct, HoldsFrame, IsBlockOf}
use Rattle.dvd_layout.specs.declared.entry.BlockPlan.{BlockPlan}
use Rattle.dvd_layout.specs.declared.layout.Layout.{Layout}
use Rattle.dvd_commands.specs.Master.{frame_for, frames_of}

-- a frame stays where the rows of another are written
pub holds_other : (g f : ℕ) (frame : List ℕ) (old new : List (List ℕ)) → g < f
    → ((i : ℕ) → (i < 12 * f) ⊎ (12 * f + 12 ≤ i) → line new i ≡ line old i) → HoldsFrame g frame old → HoldsFrame g frame new
unfolding HoldsFrame
holds_other g f frame old new lt same holds q p few within =
    ap (λ (row : List ℕ). slice_index row p) (same (12 * g + q) (inl (omega arith))) ∙ holds q p few within

-- a frame stays where its bytes do
pub holds_kept : (g : ℕ) (frame : List ℕ) (old new : List (List ℕ)) → g < 16 → ((i j : ℕ) → i < 192 → j < 172 → place new i j ≡ place old i j)
    → HoldsFrame g frame old → HoldsFrame g frame new
unfolding HoldsFrame
holds_kept g frame old new lt kept holds q p few within = kept (12 * g + q) p (omega arith) within ∙ holds q p few within

-- frame f of those of a block
pub line-frames_of : (layout : Layout) (entry : BlockPlan) (cpr sectors : List ℕ) (f : ℕ) → f < 16
    → line (frames_of layout entry cpr sectors) f ≡ frame_for layout entry cpr sectors f
unfolding frames_of
line-frames_of layout entry cpr sectors f lt = get_or-map-range_with_len (frame_for layout entry cpr sectors) 0 16 f f [] lt (omega arith)

-- a product code block that holds the sixteen frames is their block
pub block_of : (layout : Layout) (entry : BlockPlan) (cpr sectors : List ℕ) (block : List (List ℕ)) → IsProduct block
    → ((f : ℕ) → f < 16 → HoldsFrame f (frame_for layout entry cpr sectors f) block) → IsBlockOf (frames_of layout entry cpr sectors) block
block_of layout entry cpr sectors block product holds = record {
  product = product;
  holds = λ f lt. subst (λ frame. HoldsFrame f frame block) (sym (line-frames_of layout entry cpr sectors f lt)) (holds f lt);
}
