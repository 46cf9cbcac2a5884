-- The units of captured blocks that hold image: what each writes is at its place in the image.
use Rattle.std.proofs.Common.{◌≡◌, ◌∙◌, min, ℕ, ◌+◌, ◌-◌, ◌*◌, List, [], ◌++◌, length, length-append, take, drop, slice_get, Some, refl, ap, subst, append-nil, arith}
use Rattle.std.proofs.lemmas.List.{length-drop, length-take-le}
use Rattle.std.proofs.lemmas.Option.{slice_get_within}
use Rattle.dvd_capture.specs.declared.form.Form.{Form}
use Rattle.dvd_capture.proofs.Fetching.{part-append, part-after}
use Rattle.dvd_layout.specs.Content.{IsImage, image_from}
use Rattle.dvd_layout.specs.Place.{image_sectors, total_sectors}
use Rattle.dvd_layout.specs.Plan.{plan_of}
use Rattle.dvd_layout.specs.declared.entry.BlockPlan.{BlockPlan}
use Rattle.dvd_layout.specs.declared.entry.Content.{Content}
use Rattle.dvd_layout.specs.declared.entry.Content.TheVariants.{Zero, Reference, Control, Image}
use Rattle.dvd_layout.specs.declared.layout.Layout.{Layout}
use Rattle.dvd_layout.specs.declared.layout.Zones.{Zones}
use Rattle.dvd_layout.proofs.InOrder.{plan_of-in_order}
use Rattle.dvd_loop.specs.Laws.{IsFaultless, IsPrefixOf, first}
use Rattle.dvd_loop.specs.Machine.{IsOutcome, Outcome, Step}
use Rattle.dvd_loop.specs.UnitCommand.{written}
use Rattle.dvd_loop.specs.declared.ends.LoopEnd.TheVariants.{Done}
use Rattle.dvd_loop.specs.declared.ends.UnitKind.{UnitKind}
use Rattle.dvd_loop.proofs.Apart.{takes_unit}
use Rattle.dvd_commands.specs.Captured.{HasBlocks, block_bytes, from_block}
use Rattle.dvd_commands.specs.Master.{bytes_of_block}
use Rattle.dvd_commands.proofs.CapturedBlocks.{begin_blocks, blocks_break, blocks_stay}
use Rattle.dvd_commands.proofs.PlanBytes.{start-blocks}
use Rattle.dvd_commands.proofs.RecoveredWidths.{IsWide, block_units, length-first, never_last}

-- the image has the bytes that a block holds of it
pub length-part : (layout : Layout) (content : Content) (image : List ℕ) → length image ≡ 2048 * total_sectors layout
    → length (take (2048 * image_sectors layout content) (drop (2048 * image_from content) image)) ≡ 2048 * image_sectors layout content
length-part layout (Image sector) image size =
    length-take-le (2048 * min 16 (total_sectors layout - sector)) (drop (2048 * sector) image) (omega (arith, size, length-drop (2048 * sector) image))
length-part layout Zero image size = refl
length-part layout Reference image size = refl
length-part layout Control image size = refl

-- a part that comes after so many bytes
pub part_there : (a n : ℕ) (before part out : List ℕ) → length before ≡ a → length part ≡ n → IsPrefixOf (before ++ (part ++ [])) out
    → take n (drop a out) ≡ part
part_there a n before part out at size (left, is) =
    let own : length (part ++ []) ≡ n = ap length (append-nil part) ∙ size in
    ap (λ l. take n (drop a l)) is
    ∙ part-append (before ++ (part ++ [])) left a n (omega (arith, length-append before (part ++ []), own))
    ∙ part-after before (part ++ []) a n at own
    ∙ append-nil part

-- Units that are the captured blocks of a plan, and write the image bytes that each holds.
module _ (layout : Layout) (zones : Zones) (form : Form) (May : ℕ → List ℕ → List Step → UnitKind → Type 0)
    (wide : (k : ℕ) (own : List ℕ) (steps : List Step) (kind : UnitKind) → May k own steps kind → IsWide (bytes_of_block layout zones k) steps kind) where
  -- the blocks before a data block write the bytes before its first image sector, or as many zeros
  length-before : (k : ℕ) (entry : BlockPlan) (bytes : List ℕ) (a : Outcome) → slice_get (plan_of layout zones) k ≡ Some entry → IsImage entry.content
      → IsOutcome (first k (block_units layout zones form May)) bytes a → a.end ≡ Done → length a.out ≡ 2048 * image_from entry.content
  length-before k entry bytes a is_there is_image runs done =
      let within = slice_get_within (plan_of layout zones) k entry is_there in
      length-first layout zones form May wide k bytes a runs done
      ∙ start-blocks layout zones k (omega arith)
      ∙ ap (λ n. 2048 * n) (plan_of-in_order layout zones k entry is_there is_image)

  -- In a run whose loop ended without a fault a data block that is whole is processed, and what it writes comes after
  -- the bytes before its first image sector.
  pub record HasTurn (bytes : List ℕ) (a : Outcome) (k : ℕ) (entry : BlockPlan) : Type 0 where
    pub steps : List Step
    pub kind : UnitKind
    pub does : May k (block_bytes form bytes k) steps kind
    pub before : List ℕ
    pub size : length before ≡ 2048 * image_from entry.content
    pub out : IsPrefixOf (before ++ written steps) a.out

  -- so in such a run a data block that is whole in the input is processed
  pub has_unit : (bytes : List ℕ) (a : Outcome) → IsOutcome (block_units layout zones form May) bytes a
      → IsFaultless a.end → (k : ℕ) (entry : BlockPlan) → slice_get (plan_of layout zones) k ≡ Some entry → IsImage entry.content
      → HasBlocks form bytes (k + 1) → HasTurn bytes a k entry
  has_unit bytes a runs none k entry is_there is_image whole =
      let in_plan = slice_get_within (plan_of layout zones) k entry is_there in
      let units = block_units layout zones form May in
      let (steps, kind, t) = takes_unit units (never_last layout zones form May wide) (blocks_stay units form (λ j l. refl)) (blocks_break units form (λ j l. refl)) refl
      bytes a runs none k in_plan (block_bytes form bytes) (from_block form bytes) (begin_blocks units form (λ j l. refl) bytes (k + 1) whole) in record {
        steps = steps;
        kind = kind;
        does = subst (λ j. May j (block_bytes form bytes k) steps kind) t.number t.unit.does;
        before = t.alone.out;
        size = length-before k entry bytes t.alone is_there is_image t.runs t.ends;
        out = t.out;
      }
