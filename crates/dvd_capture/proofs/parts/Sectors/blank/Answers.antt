-- The proof of `Sectors::blank` in src/parts.rt.
use Rattle.std.proofs.Common.{◌∙◌, ℕ, refl, replicate, ap}
use Rattle.dvd_block.proofs.Taken.{same_array}
use Rattle.dvd_capture.proofs.parts.Sectors.blank.Goals as goal

pub returns : goal.returns
returns c = c.fill.ensures.items (λ y same. same_array 2048 (replicate 2048 0) y refl same) ∙ ap (λ (n : ℕ). replicate n (replicate 2048 0)) c.args.self.now.size
