-- One block that `recover` reads: its image sectors are written, or its line is reported and those salvaged are
-- written.
use Rattle.std.proofs.Common.{◌≡◌, inl, ℕ, ◌≤◌, Bool, List, [], ◌∷◌, ap, Option, Some, refl, subst, ◌∙◌}
use Rattle.dvd_capture.specs.Parts.{marks_rows, received_rows}
use Rattle.dvd_capture.specs.Works.{marks_of_work, rows_of}
use Rattle.dvd_capture.specs.declared.work.Work.{Work}
use Rattle.dvd_capture.proofs.WorkParts.{marks-height, rows-height}
use Rattle.dvd_layout.specs.Place.{image_sectors}
use Rattle.dvd_layout.specs.declared.entry.BlockPlan.{BlockPlan}
use Rattle.dvd_layout.specs.declared.layout.Layout.{Layout}
use Rattle.dvd_loop.specs.Machine.{Step}
use Rattle.dvd_loop.specs.Machine.Step.{Write}
use Rattle.dvd_loop.specs.declared.ends.UnitKind.{UnitKind}
use Rattle.dvd_loop.specs.declared.ends.UnitKind.TheVariants.{Good}
use Rattle.dvd_decoding.specs.Reading.{IsReadAs}
use Rattle.dvd_decoding.specs.Salvage.{saved_in}
use Rattle.dvd_decoding.specs.declared.cause.Cause.{Cause}
use Rattle.dvd_read.proofs.SavedLaws.{sixteen-sectors}
use Rattle.dvd_report.specs.Lines.{damage_line}
use Rattle.dvd_commands.specs.Recover.{IsImageDone, IsRefused}
use Rattle.dvd_commands.specs.Inner.Performing.{IsRefusedFor, sectors_out}

-- the line of a refused block and its sectors, by the numbers that were given
pub line_same : (k number : ℕ) (entry : BlockPlan) (cause : Cause) (saved frames : ℕ) → number ≡ k → saved ≡ frames
    → damage_line number entry cause saved ≡ damage_line k entry cause frames
line_same k number entry cause saved frames is saved_is = ap (λ n. damage_line n entry cause saved) is ∙ ap (damage_line k entry cause) saved_is

-- the same number of the same sectors is written as the same bytes
pub sectors_same : (count number : ℕ) (sectors others : List (List ℕ)) → count ≡ number → sectors ≡ others → sectors_out count sectors ≡ sectors_out number others
sectors_same count number sectors others is sectors_are = ap (λ n. sectors_out n sectors) is ∙ ap (sectors_out number) sectors_are

-- Two passes leave what was received and its marks: what is then said of them is said of the block that was captured.
pub same_work : (P : List (List ℕ) → List (List Bool) → Type 0) (old after : Work) → after.received ≡ old.received → after.marks ≡ old.marks
    → P (rows_of after) (marks_of_work after) → P (rows_of old) (marks_of_work old)
same_work P old after received marks holds =
    subst (λ m. P (rows_of old) (marks_rows m)) marks (subst (λ r. P (received_rows r) (marks_of_work after)) received holds)

-- and at most sixteen frames are saved
pub few_saved : (work : Work) (entry : BlockPlan) → saved_in (rows_of work) (marks_of_work work) entry ≤ 16
few_saved work entry =
    (sixteen-sectors (rows_of work) (marks_of_work work) (rows-height work.received) (marks-height work.marks) entry).2

module _ (layout : Layout) (k : ℕ) (entry : BlockPlan) (rows : List (List ℕ)) (marks : List (List Bool)) where
  -- a block of which sectors are read: they are written, and the unit is good
  pub given : (sectors : List (List ℕ)) → IsReadAs rows marks entry sectors
      → IsImageDone layout k entry rows marks (Write (sectors_out (image_sectors layout entry.content) sectors) ∷ []) Good
  given sectors read = inl (record { sectors = sectors; read = read; writes = refl; good = refl })

  -- a block that is refused for its cause
  pub refused : (has : Option Cause) (cause : Cause) → has ≡ Some cause → (steps : List Step) (kind : UnitKind) → IsRefusedFor layout k entry rows marks cause steps kind
      → IsRefused has layout k entry rows marks steps kind
  refused has cause first steps kind is = record { cause = cause; first = first; reports = is.0; bad = is.1 }
