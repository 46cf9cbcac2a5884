-- A run of recovery keeps the bound, and the good frames of the blocks that two passes refuse.
use Rattle.std.proofs.Common.{◌≡◌, ◌∙◌, inl, inr, ℕ, ◌+◌, ◌*◌, List, [], ◌∷◌, ◌++◌, take, drop, sym, subst, arith}
use Rattle.dvd_capture.specs.declared.form.Form.{Form}
use Rattle.dvd_layout.specs.Content.{image_from}
use Rattle.dvd_layout.specs.declared.entry.BlockPlan.{BlockPlan}
use Rattle.dvd_layout.specs.declared.layout.Layout.{Layout}
use Rattle.dvd_layout.specs.declared.layout.Zones.{Zones}
use Rattle.dvd_loop.specs.Laws.{AreTotal, IsFaultless, IsPrefixOf}
use Rattle.dvd_loop.specs.Machine.{IsOutcome, Outcome, Step}
use Rattle.dvd_loop.specs.Machine.Step.{Write}
use Rattle.dvd_loop.specs.UnitCommand.{written}
use Rattle.dvd_loop.specs.declared.ends.UnitKind.{UnitKind}
use Rattle.dvd_loop.specs.declared.ends.UnitKind.TheVariants.{Good}
use Rattle.dvd_commands.specs.Bound.{GivesBack, IsBlockWithinBound, IsRescued, KeepsBound, KeepsGoodFrames, Rescues}
use Rattle.dvd_commands.specs.Captured.{block_bytes}
use Rattle.dvd_commands.specs.Commands.{GoesOver, meaning}
use Rattle.dvd_commands.specs.Meaning.{GoesBy}
use Rattle.dvd_commands.specs.Deep.{IsDeepened}
use Rattle.dvd_commands.specs.Master.{bytes_of_block, image_bytes, image_part}
use Rattle.dvd_commands.specs.Recover.{IsRecovered}
use Rattle.dvd_top.specs.Laws.{BoundIsKept, GoodFramesAreKept, LoopsKeepTheBound}
use Rattle.dvd_words.specs.Settings.{IsLayoutOf}
use Rattle.dvd_words.specs.declared.table.Command.{Command}
use Rattle.dvd_words.specs.declared.table.Command.TheVariants.{Recover, Deep}
use Rattle.dvd_words.specs.declared.settings.Settings.{Settings}
use Rattle.dvd_commands.proofs.CapturedBlocks.{block-whole}
use Rattle.dvd_top.proofs.OpenedRuns.{after_header}
use Rattle.dvd_commands.proofs.RecoveredWidths.{IsWide, block_units, deepened-wide, recovered-wide}
use Rattle.dvd_commands.proofs.AnyEnd.{at_any_end, part-begun}
use Rattle.dvd_commands.proofs.BlocksWithinBound.{RepairsBy, repaired, repaired_deep}
use Rattle.dvd_commands.proofs.ForRuns.{deep_total, loops_keep_good, recover_total}
use Rattle.dvd_commands.proofs.BlockUnits.{has_unit, length-part, part_there}

-- what may be done for a block within the bound, where such damage is repaired
alone : (Performs : Layout → Zones → Form → ℕ → List ℕ → List Step → UnitKind → Type 0) → RepairsBy Performs
    → (layout : Layout) (zones : Zones) (form : Form) (bytes cpr image : List ℕ) (k : ℕ) (entry : BlockPlan)
    → IsBlockWithinBound layout zones form bytes cpr image k entry
    → (steps : List Step) (kind : UnitKind) → Performs layout zones form k (block_bytes form bytes k) steps kind
    → (steps ≡ Write (image_part layout entry image) ∷ []) × (kind ≡ Good)
alone Performs repairs layout zones form bytes cpr image k entry b steps kind does =
    let m = b.mastered in
    repairs layout zones form cpr k entry (image_part layout entry image) (block_bytes form bytes k) m.block steps kind m.is_there m.is_image m.cpr_size
    (length-part layout entry.content image m.image_size) m.is_block (block-whole form bytes (k + 1) m.whole k (omega arith)) b.within does

-- Units that are the captured blocks of a plan, and write the image bytes that each holds.
module _ (layout : Layout) (zones : Zones) (form : Form) (May : ℕ → List ℕ → List Step → UnitKind → Type 0)
    (wide : (k : ℕ) (own : List ℕ) (steps : List Step) (kind : UnitKind) → May k own steps kind → IsWide (bytes_of_block layout zones k) steps kind) where
  -- Where its image sectors alone may be written of a block within the bound, they are at their place.
  module _ (cpr image : List ℕ) (bytes : List ℕ) (k : ℕ) (entry : BlockPlan) (b : IsBlockWithinBound layout zones form bytes cpr image k entry)
      (alone : (steps : List Step) (kind : UnitKind) → May k (block_bytes form bytes k) steps kind → (steps ≡ Write (image_part layout entry image) ∷ []) × (kind ≡ Good)) where
    -- in a run that no fault ended, the image sectors of the block are written where they are in the image
    at_place : (a : Outcome) → IsOutcome (block_units layout zones form May) bytes a → IsFaultless a.end
        → take (image_bytes layout entry) (drop (2048 * image_from entry.content) a.out) ≡ image_part layout entry image
    at_place a runs none =
        let m = b.mastered in
        let t = has_unit layout zones form May wide bytes a runs none k entry m.is_there m.is_image m.whole in
        let back = alone t.steps t.kind t.does in
        part_there (2048 * image_from entry.content) (image_bytes layout entry) t.before (image_part layout entry image) a.out t.size
        (length-part layout entry.content image m.image_size) (subst (λ s. IsPrefixOf (t.before ++ written s) a.out) back.0 t.out)

-- The bound is kept by units that write, of a block within the bound, its image sectors alone.
units_keep : (settings : Settings) (command : Command) (layout : Layout) → IsLayoutOf settings layout
    → ((k : ℕ) (own : List ℕ) (steps : List Step) (kind : UnitKind) → IsRescued command layout settings.zones settings.form k own steps kind → IsWide (bytes_of_block layout settings.zones k) steps kind)
    → AreTotal (block_units layout settings.zones settings.form (IsRescued command layout settings.zones settings.form))
    → ((bytes cpr image : List ℕ) (k : ℕ) (entry : BlockPlan) → IsBlockWithinBound layout settings.zones settings.form bytes cpr image k entry
    → (steps : List Step) (kind : UnitKind) → IsRescued command layout settings.zones settings.form k (block_bytes settings.form bytes k) steps kind
    → (steps ≡ Write (image_part layout entry image) ∷ []) × (kind ≡ Good))
    → settings.command ≡ command
    → (bytes : List ℕ) (loop : Outcome)
    → IsOutcome (block_units layout settings.zones settings.form (IsRescued command layout settings.zones settings.form)) bytes loop
    → KeepsBound settings bytes loop
units_keep settings command layout is_layout wide total alone is bytes loop runs =
    let May = IsRescued command layout settings.zones settings.form in
    let any = at_any_end (GivesBack layout settings) (block_units layout settings.zones settings.form May) total
    (λ own a goes none cpr image k entry b. at_place layout settings.zones settings.form May wide cpr image own k entry b (alone own cpr image k entry b) a goes none)
    bytes loop runs in
    record {
      layout = layout;
      is_layout = is_layout;
      given = any.given;
      begun = λ cpr image k entry b.
          part-begun any (image_bytes layout entry) (2048 * image_from entry.content) (image_part layout entry image) (any.gives cpr image k entry b);
      alone = λ cpr image k entry b steps kind does.
          alone bytes cpr image k entry b steps kind (subst (λ word. IsRescued word layout settings.zones settings.form k (block_bytes settings.form bytes k) steps kind) is does);
    }

-- so both commands that rescue keep the bound
kept_by : (settings : Settings) (bytes : List ℕ) (loop : Outcome) → Rescues settings.command → GoesOver settings bytes loop → KeepsBound settings bytes loop
kept_by settings bytes loop (inl is) goes =
    let (layout, is_layout, runs) = subst (λ command. GoesBy (meaning command) settings bytes loop) is goes in
    units_keep settings Recover layout is_layout (recovered-wide layout settings.zones settings.form) (recover_total layout settings.zones settings.form)
    (alone IsRecovered repaired layout settings.zones settings.form) is bytes loop runs
kept_by settings bytes loop (inr is) goes =
    let (layout, is_layout, runs) = subst (λ command. GoesBy (meaning command) settings bytes loop) is goes in
    units_keep settings Deep layout is_layout (deepened-wide layout settings.zones settings.form) (deep_total layout settings.zones settings.form)
    (alone IsDeepened repaired_deep layout settings.zones settings.form) is bytes loop runs

-- the law: a loop over the blocks gives back the image sectors of each block within the bound
pub loops_keep : LoopsKeepTheBound
loops_keep = kept_by

-- the law: and so does one over a capture with a header
pub kept : BoundIsKept
kept settings bytes loop is runs =
    after_header GoesOver KeepsBound loop settings.form settings bytes
    (λ stated left after same loops. loops_keep stated left after (subst Rescues (sym same) is) loops) runs

-- the law: a loop of `recover` gives the good frames of each refused block
pub kept_good : GoodFramesAreKept
kept_good settings bytes outcome is runs =
    after_header GoesOver KeepsGoodFrames outcome settings.form settings bytes
    (λ stated left after same loops. loops_keep_good stated left after (same ∙ is) loops) runs
