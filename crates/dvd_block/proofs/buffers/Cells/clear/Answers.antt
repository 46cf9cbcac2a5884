-- The proof of `Cells::clear` in src/buffers.rt.
use Rattle.std.proofs.Common.{◌∙◌, ap, refl, replicate}
use Rattle.dvd_block.proofs.Taken.{same_array}
use Rattle.dvd_block.proofs.buffers.Cells.clear.Goals as goal

pub returns : goal.returns
returns c =
    c.fill.ensures.items (λ y same. same_array 16 (replicate 16 0) y refl same) ∙ ap (λ n. replicate n (replicate 16 0)) c.args.self.now.size
