-- The proof of `preset_for` in src/scrambling.rt.
use Rattle.std.proofs.Common.{ℕ, ◌/◌, ap, ◌∙◌}
use Rattle.std.specs.Prelude.{bit_and, slice_index}
use Rattle.std.proofs.lemmas.Nat.{and_mask}
use Rattle.dvd_frame.specs.Scrambling.{presets}
use Rattle.dvd_frame.proofs.scrambling.preset_for.Goals as goal

pub returns-clause-value : goal.returns-clause-value
returns-clause-value c =
    c.preset.ensures.value ∙ ap (λ (w : ℕ). slice_index presets (bit_and (w / 16) 15)) c.word.ensures
    ∙ ap (slice_index presets) (and_mask (c.args.id / 16) 4)
