-- What `recover` does for a block is one thing, and it does something for each.
use Rattle.std.proofs.Common.{◌≡◌, ℕ, List, ◌∷◌, [], length, Bool, Some, None, refl, ap, sym, ◌∙◌}
use Rattle.dvd_capture.specs.declared.form.Form.{Form}
use Rattle.dvd_layout.specs.Place.{image_sectors}
use Rattle.dvd_layout.specs.declared.entry.BlockPlan.{BlockPlan}
use Rattle.dvd_layout.specs.declared.layout.Layout.{Layout}
use Rattle.dvd_layout.specs.declared.layout.Zones.{Zones}
use Rattle.dvd_loop.specs.Machine.Step.{Write}
use Rattle.dvd_read.proofs.BlockRead.{read-determined, no_cause-read}
use Rattle.dvd_decoding.specs.Reading.{block_cause, block_sectors}
use Rattle.dvd_commands.specs.Recover.{IsGiven, IsImageDone, recover_units}
use Rattle.dvd_commands.specs.Inner.Performing.{sectors_out}
use Rattle.dvd_loop.specs.Laws.{AreTotal}
use Rattle.dvd_loop.specs.declared.ends.UnitKind.TheVariants.{Good}
use Rattle.dvd_commands.proofs.OneThing.{MayOne, either_is_one, refused_is_one}
use Rattle.dvd_commands.proofs.SomeThing.{MaySome, image_total, read_or_refused}

-- What is read of a block is one, and where something is read it has no cause.
module _ (layout : Layout) (k : ℕ) (entry : BlockPlan) (rows : List (List ℕ)) (marks : List (List Bool)) (size : length rows ≡ 208) (marks_size : length marks ≡ 208) where
  -- what two passes give of a block is one set of sectors, so what is written of it is one thing
  given_is_one : MayOne (IsGiven layout entry rows marks)
  given_is_one steps others kind other p q =
      let sectors : p.sectors ≡ q.sectors =
      (read-determined rows marks entry p.sectors size marks_size p.read).1 ∙ sym (read-determined rows marks entry q.sectors size marks_size q.read).1 in
      (p.writes ∙ ap (λ s. Write (sectors_out (image_sectors layout entry.content) s) ∷ []) sectors ∙ sym q.writes, p.good ∙ sym q.good)

  -- a block that is given has no cause, so it isn't refused
  pub done_is_one : MayOne (IsImageDone layout k entry rows marks)
  done_is_one =
      either_is_one given_is_one (refused_is_one (block_cause rows marks entry) layout k entry rows marks)
      (λ steps others kind other p q. let no : None ≡ Some q.cause = sym (read-determined rows marks entry p.sectors size marks_size p.read).0 ∙ q.first in cc)

  -- a block of image sectors without a cause may be given, and one with a cause may be refused for it
  pub done_some : MaySome (IsImageDone layout k entry rows marks)
  done_some =
      read_or_refused (block_cause rows marks entry)
      (λ none. (
        Write (sectors_out (image_sectors layout entry.content) (block_sectors rows marks entry)) ∷ [],
        Good,
        record { sectors = block_sectors rows marks entry; read = no_cause-read rows marks entry size marks_size none; writes = refl; good = refl },
      ))
      layout k entry rows marks (block_cause rows marks entry) refl

-- so its units are total
pub recover_total : (layout : Layout) (zones : Zones) (form : Form) → AreTotal (recover_units layout zones form)
recover_total = image_total IsImageDone done_some
