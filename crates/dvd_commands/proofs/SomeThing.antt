-- Something may be done for a unit: what the commands have in common.
use Rattle.std.proofs.Common.{◌≡◌, ◌⊎◌, inl, inr, ℕ, List, ◌∷◌, [], length, Bool, Some, None, refl, Option, ◌<◌}
use Rattle.dvd_capture.specs.Captured.{captured_marks, captured_rows}
use Rattle.dvd_capture.specs.declared.form.Form.{Form}
use Rattle.dvd_layout.specs.Place.{image_sectors}
use Rattle.dvd_layout.specs.declared.entry.BlockPlan.{BlockPlan}
use Rattle.dvd_layout.specs.declared.entry.Content.{Content}
use Rattle.dvd_layout.specs.declared.entry.Content.TheVariants.{Image}
use Rattle.dvd_layout.specs.declared.layout.Layout.{Layout}
use Rattle.dvd_layout.specs.declared.layout.Zones.{Zones}
use Rattle.dvd_layout.specs.Plan.{plan_of}
use Rattle.dvd_decoding.specs.declared.cause.Cause.{Cause}
use Rattle.dvd_loop.specs.Laws.{AreTotal}
use Rattle.dvd_loop.specs.Machine.{Step}
use Rattle.dvd_loop.specs.Machine.Step.{Write, Report}
use Rattle.dvd_loop.specs.declared.ends.UnitKind.{UnitKind}
use Rattle.dvd_decoding.specs.Salvage.{block_out, saved_in}
use Rattle.dvd_report.specs.Lines.{damage_line}
use Rattle.dvd_commands.specs.Recover.{IsRefused}
use Rattle.dvd_commands.specs.Inner.Performing.{sectors_out}
use Rattle.dvd_commands.specs.Captured.{ForImage, IfImage, IsDoneByEntry, IsPassedOver, image_units}
use Rattle.dvd_loop.specs.declared.ends.UnitKind.TheVariants.{Good, Bad}
use Rattle.dvd_commands.proofs.CapturedBlocks.{blocks_total}
use Rattle.dvd_commands.proofs.EntryBlocks.{length-captured_marks, length-captured_rows}
use Rattle.dvd_commands.proofs.FrameBytes.{HasBytes}
use Rattle.dvd_commands.proofs.PlanEntries.{some_entry}

-- something may be done
abbrev pub MaySome : (List Step → UnitKind → Type 0) → Type 0
MaySome May = (steps : List Step) × (kind : UnitKind) × May steps kind

-- nothing closes these
pub no_closing : (steps : List Step) × (steps ≡ [])
no_closing = ([], refl)

-- a block may be passed over
pub passed_some : MaySome IsPassedOver
passed_some = ([], Good, (refl, refl))

-- where something may be done for image, something may whatever a block holds
if_image_some : (Performs : List Step → UnitKind → Type 0) → MaySome Performs → (content : Content) → MaySome (IfImage Performs content)
if_image_some Performs some (Image sector) = some
if_image_some Performs some content = passed_some

-- something may be done for a block, where something may for each entry
pub entry_some : (entries : List BlockPlan) (Performs : BlockPlan → List (List ℕ) → List (List Bool) → List Step → UnitKind → Type 0)
    → ((entry : BlockPlan) (rows : List (List ℕ)) (marks : List (List Bool)) → length rows ≡ 208 → length marks ≡ 208 → MaySome (Performs entry rows marks))
    → (form : Form) (k : ℕ) (own : List ℕ) → k < length entries → MaySome (IsDoneByEntry entries Performs form k own)
entry_some entries Performs some form k own within =
    let at = some_entry entries k within in
    let done = some at.0 (captured_rows form own) (captured_marks form own) (length-captured_rows form own) (length-captured_marks form own) in
    (done.0, done.1, record { entry = at.0; is_there = at.1; does = done.2 })

-- so it may where that is for image, and any other block is passed over
pub image_some : (entries : List BlockPlan) (Performs : BlockPlan → List (List ℕ) → List (List Bool) → List Step → UnitKind → Type 0)
    → ((entry : BlockPlan) (rows : List (List ℕ)) (marks : List (List Bool)) → length rows ≡ 208 → length marks ≡ 208 → MaySome (Performs entry rows marks))
    → (form : Form) (k : ℕ) (own : List ℕ) → k < length entries → MaySome (IsDoneByEntry entries (ForImage Performs) form k own)
image_some entries Performs some =
    entry_some entries (ForImage Performs)
    (λ entry rows marks size marks_size. if_image_some (Performs entry rows marks) (some entry rows marks size marks_size) entry.content)

-- a block may be refused for a cause that it has
pub refused_some : (has : Option Cause) (cause : Cause) → has ≡ Some cause → (layout : Layout) (k : ℕ) (entry : BlockPlan) (rows : List (List ℕ)) (marks : List (List Bool))
    → (steps : List Step) × (kind : UnitKind) × IsRefused has layout k entry rows marks steps kind
refused_some has cause first layout k entry rows marks = (
  Report (damage_line k entry cause (saved_in rows marks entry)) ∷ Write (sectors_out (image_sectors layout entry.content) (block_out rows marks entry)) ∷ [],
  Bad,
  record { cause = cause; first = first; reports = refl; bad = refl },
)

-- so something may where it is read without a cause, and refused for one
pub read_or_refused : {Reads : List Step → UnitKind → Type 0} (has : Option Cause) → (has ≡ None → MaySome Reads)
    → (layout : Layout) (k : ℕ) (entry : BlockPlan) (rows : List (List ℕ)) (marks : List (List Bool)) (cause : Option Cause) → has ≡ cause
    → MaySome (λ steps kind. Reads steps kind ⊎ IsRefused has layout k entry rows marks steps kind)
read_or_refused has reads layout k entry rows marks None none =
    let some = reads none in
    (some.0, some.1, inl some.2)
read_or_refused has reads layout k entry rows marks (Some cause) first =
    let some = refused_some has cause first layout k entry rows marks in
    (some.0, some.1, inr some.2)

-- Units of which this is done for image are total where something may be done.
pub image_total : (Performs : Layout → ℕ → BlockPlan → List (List ℕ) → List (List Bool) → List Step → UnitKind → Type 0)
    → ((layout : Layout) (k : ℕ) (entry : BlockPlan) (rows : List (List ℕ)) (marks : List (List Bool)) → length rows ≡ 208 → length marks ≡ 208
    → MaySome (Performs layout k entry rows marks))
    → (layout : Layout) (zones : Zones) (form : Form) → AreTotal (image_units Performs layout zones form)
image_total Performs some layout zones form =
    blocks_total (image_units Performs layout zones form) form (λ k own. refl)
    (λ before own lt whole. image_some (plan_of layout zones) (Performs layout (length before)) (some layout (length before)) form (length before) own lt)
    (λ before all. no_closing)

-- something may be done for each of so many units of given sizes
abbrev pub MayEach : ℕ → (ℕ → ℕ) → (ℕ → List ℕ → List Step → UnitKind → Type 0) → Type 0
MayEach count size does = (k : ℕ) (own : List ℕ) → k < count → HasBytes (size k) own → MaySome (does k own)
