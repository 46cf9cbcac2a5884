-- The proof of `Merge::clear` in src/merge.rt.
use Rattle.std.proofs.Common.{◌∙◌, ℕ, refl, replicate, ap}
use Rattle.dvd_block.proofs.Taken.{same_array}
use Rattle.dvd_merge.proofs.Tables.{zeros-unseen}
use Rattle.dvd_merge.proofs.merge.Merge.clear.Goals as goal

pub returns : goal.returns
returns c =
    zeros-unseen c.fill.new.self.items c.fill-2.new.self.items
    (c.fill.ensures.items (λ y same. same_array 182 (replicate 182 0) y refl same) ∙ ap (λ (n : ℕ). replicate n (replicate 182 0)) c.args.self.now.values_size)
    (c.fill-2.ensures.items (λ y same. same_array 182 (replicate 182 0) y refl same) ∙ ap (λ (n : ℕ). replicate n (replicate 182 0)) c.args.self.now.codes_size)
