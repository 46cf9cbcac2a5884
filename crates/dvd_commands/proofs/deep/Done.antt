-- What `deep` does for a block is one thing, and it does something for each.
use Rattle.std.proofs.Common.{◌≡◌, ℕ, List, ◌∷◌, ◌++◌, [], length, Bool, Some, None, refl, ap, sym, ◌∙◌}
use Rattle.dvd_capture.specs.declared.form.Form.{Form}
use Rattle.dvd_layout.specs.Place.{image_sectors}
use Rattle.dvd_layout.specs.declared.entry.BlockPlan.{BlockPlan}
use Rattle.dvd_layout.specs.declared.layout.Layout.{Layout}
use Rattle.dvd_layout.specs.declared.layout.Zones.{Zones}
use Rattle.dvd_deep.specs.Reading.{deep_cause}
use Rattle.dvd_loop.specs.Machine.Step.{Write}
use Rattle.coding.specs.TwoPass.{answers_of}
use Rattle.dvd_deep.proofs.Readings.{deep-no_cause, deep-once, deep-some}
use Rattle.dvd_decoding.specs.Causes.{two_pass_cause}
use Rattle.dvd_commands.specs.Deep.{IsGivenBack, IsImageRead, deep_units, round_report}
use Rattle.dvd_commands.specs.Inner.Performing.{sectors_out}
use Rattle.dvd_loop.specs.Laws.{AreTotal}
use Rattle.dvd_loop.specs.declared.ends.UnitKind.TheVariants.{Good}
use Rattle.dvd_commands.proofs.OneThing.{MayOne, either_is_one, refused_is_one}
use Rattle.dvd_commands.proofs.SomeThing.{MaySome, image_total, read_or_refused}

-- What rounds read of a block is one, and it has no cause.
module _ (layout : Layout) (k : ℕ) (entry : BlockPlan) (rows : List (List ℕ)) (marks : List (List Bool)) where
  -- what rounds give back of a block is one set of sectors, and the round whose line is reported is one
  given_back_is_one : MayOne (IsGivenBack layout k entry rows marks)
  given_back_is_one steps others kind other p q =
      let same = deep-once rows marks entry p.round q.round p.sectors q.sectors p.read q.read in (
        p.writes
            ∙ ap (λ (t : ℕ). round_report (two_pass_cause (answers_of rows marks)) k entry t ++ Write (sectors_out (image_sectors layout entry.content) p.sectors) ∷ []) same.0
            ∙ ap (λ (s : List (List ℕ)). round_report (two_pass_cause (answers_of rows marks)) k entry q.round ++ Write (sectors_out (image_sectors layout entry.content) s) ∷ []) same.1
            ∙ sym q.writes,
        p.good ∙ sym q.good,
      )

  -- a block that rounds give back has no cause, so it isn't refused
  pub image_read_is_one : MayOne (IsImageRead layout k entry rows marks)
  image_read_is_one =
      either_is_one given_back_is_one (refused_is_one (deep_cause rows marks entry) layout k entry rows marks)
      (λ steps others kind other p q. let no : None ≡ Some q.cause = sym (deep-no_cause rows marks entry p.round p.sectors p.read) ∙ q.first in cc)

-- A captured block has a cause, or rounds give it back.
module _ (layout : Layout) (k : ℕ) (entry : BlockPlan) (rows : List (List ℕ)) (marks : List (List Bool)) (size : length rows ≡ 208) (marks_size : length marks ≡ 208) where
  -- a block without a cause may be given back by rounds, and one with a cause may be refused for it
  pub image_read_some : MaySome (IsImageRead layout k entry rows marks)
  image_read_some =
      read_or_refused (deep_cause rows marks entry)
      (λ none.
      let some = deep-some rows marks entry size marks_size none in (
        round_report (two_pass_cause (answers_of rows marks)) k entry some.0 ++ Write (sectors_out (image_sectors layout entry.content) some.1) ∷ [],
        Good,
        record { round = some.0; sectors = some.1; read = some.2; writes = refl; good = refl },
      ))
      layout k entry rows marks (deep_cause rows marks entry) refl

-- so its units are total
pub deep_total : (layout : Layout) (zones : Zones) (form : Form) → AreTotal (deep_units layout zones form)
deep_total = image_total IsImageRead image_read_some
