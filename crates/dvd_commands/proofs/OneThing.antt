-- One thing alone may be done for a unit: what the commands have in common.
use Rattle.std.proofs.Common.{◌≡◌, inl, inr, ℕ, List, ◌∷◌, [], length, Bool, Some, ap, sym, ◌∙◌, ◌⊎◌, Option}
use Rattle.dvd_capture.specs.Captured.{captured_marks, captured_rows}
use Rattle.dvd_capture.specs.declared.form.Form.{Form}
use Rattle.dvd_layout.specs.Place.{image_sectors}
use Rattle.dvd_layout.specs.declared.entry.BlockPlan.{BlockPlan}
use Rattle.dvd_layout.specs.declared.entry.Content.{Content}
use Rattle.dvd_layout.specs.declared.entry.Content.TheVariants.{Image}
use Rattle.dvd_layout.specs.declared.layout.Layout.{Layout}
use Rattle.dvd_decoding.specs.declared.cause.Cause.{Cause}
use Rattle.dvd_commands.proofs.EntryBlocks.{done_at, length-captured_marks, length-captured_rows}
use Rattle.dvd_loop.specs.Machine.{Step}
use Rattle.dvd_loop.specs.Machine.Step.{Write, Report}
use Rattle.dvd_loop.specs.declared.ends.UnitKind.{UnitKind}
use Rattle.dvd_decoding.specs.Salvage.{block_out, saved_in}
use Rattle.dvd_report.specs.Lines.{damage_line}
use Rattle.dvd_commands.specs.Recover.{IsRefused}
use Rattle.dvd_commands.specs.Inner.Performing.{sectors_out}
use Rattle.dvd_commands.specs.Captured.{ForImage, IfImage, IsDoneByEntry, IsPassedOver}

-- one thing alone may be done
abbrev pub MayOne : (List Step → UnitKind → Type 0) → Type 0
MayOne May = (steps others : List Step) (kind other : UnitKind) → May steps kind → May others other → (steps ≡ others) × (kind ≡ other)

-- two ways that exclude each other are one, where each is
pub either_is_one : {A B : List Step → UnitKind → Type 0} → MayOne A → MayOne B
    → ((steps others : List Step) (kind other : UnitKind) → A steps kind → B others other → ⊥) → MayOne (λ steps kind. A steps kind ⊎ B steps kind)
either_is_one one two apart steps others kind other (inl p) (inl q) = one steps others kind other p q
either_is_one one two apart steps others kind other (inl p) (inr q) = absurd (apart steps others kind other p q)
either_is_one one two apart steps others kind other (inr p) (inl q) = absurd (apart others steps other kind q p)
either_is_one one two apart steps others kind other (inr p) (inr q) = two steps others kind other p q

-- for a block that is passed over nothing is done, and the unit is good
pub passed_is_one : MayOne IsPassedOver
passed_is_one steps others kind other p q = (p.0 ∙ sym q.0, p.1 ∙ sym q.1)

-- so where one thing alone is done for image, it is whatever a block holds
if_image_is_one : (Performs : List Step → UnitKind → Type 0) → MayOne Performs → (content : Content) → MayOne (IfImage Performs content)
if_image_is_one Performs one (Image sector) = one
if_image_is_one Performs one content = passed_is_one

-- what is done for a block is one thing, where what is done for its entry is
pub entry_is_one : (entries : List BlockPlan) (Performs : BlockPlan → List (List ℕ) → List (List Bool) → List Step → UnitKind → Type 0)
    → ((entry : BlockPlan) (rows : List (List ℕ)) (marks : List (List Bool)) → length rows ≡ 208 → length marks ≡ 208 → MayOne (Performs entry rows marks))
    → (form : Form) (k : ℕ) (own : List ℕ) → MayOne (IsDoneByEntry entries Performs form k own)
entry_is_one entries Performs one form k own steps others kind other p q =
    one p.entry (captured_rows form own) (captured_marks form own) (length-captured_rows form own) (length-captured_marks form own) steps others kind other
    p.does (done_at entries Performs form k p.entry p.is_there own others other q)

-- so it is where that is done for image, and any other block is passed over
pub image_is_one : (entries : List BlockPlan) (Performs : BlockPlan → List (List ℕ) → List (List Bool) → List Step → UnitKind → Type 0)
    → ((entry : BlockPlan) (rows : List (List ℕ)) (marks : List (List Bool)) → length rows ≡ 208 → length marks ≡ 208 → MayOne (Performs entry rows marks))
    → (form : Form) (k : ℕ) (own : List ℕ) → MayOne (IsDoneByEntry entries (ForImage Performs) form k own)
image_is_one entries Performs one =
    entry_is_one entries (ForImage Performs)
    (λ entry rows marks size marks_size. if_image_is_one (Performs entry rows marks) (one entry rows marks size marks_size) entry.content)

-- a refused block has one first cause, so one line and one set of saved sectors
pub refused_is_one : (has : Option Cause) (layout : Layout) (k : ℕ) (entry : BlockPlan) (rows : List (List ℕ)) (marks : List (List Bool))
    → MayOne (IsRefused has layout k entry rows marks)
refused_is_one has layout k entry rows marks steps others kind other p q =
    let cause : p.cause ≡ q.cause = (let is : Some p.cause ≡ Some q.cause = sym p.first ∙ q.first in cc) in (
      p.reports
          ∙ ap (λ c. Report (damage_line k entry c (saved_in rows marks entry)) ∷ Write (sectors_out (image_sectors layout entry.content) (block_out rows marks entry)) ∷ []) cause ∙ sym q.reports,
      p.bad ∙ sym q.bad,
    )
