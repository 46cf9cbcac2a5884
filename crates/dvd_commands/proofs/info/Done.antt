-- What `info` does for a block is one thing, and it does something for each.
use Rattle.std.proofs.Common.{◌≡◌, inl, inr, ℕ, ◌+◌, List, ◌∷◌, [], length, Bool, Some, None, refl, ap, sym, ◌∙◌, Option, ◌<◌, arith}
use Rattle.coding.specs.Product.{line}
use Rattle.dvd_capture.specs.declared.form.Form.{Form}
use Rattle.dvd_control.specs.Format.{control_fault, fields_in}
use Rattle.dvd_layout.specs.Plan.{lead_in_blocks}
use Rattle.dvd_layout.specs.declared.entry.BlockPlan.{BlockPlan}
use Rattle.dvd_layout.specs.declared.entry.Content.{Content}
use Rattle.dvd_layout.specs.declared.entry.Content.TheVariants.{Control}
use Rattle.dvd_decoding.specs.declared.cause.Cause.{Cause}
use Rattle.dvd_loop.specs.Machine.{Step}
use Rattle.dvd_loop.specs.Machine.Step.{Write}
use Rattle.dvd_loop.specs.declared.ends.UnitKind.{UnitKind}
use Rattle.dvd_read.proofs.BlockRead.{read-determined, no_cause-read}
use Rattle.dvd_decoding.specs.Reading.{block_cause, block_sectors}
use Rattle.dvd_commands.specs.Info.{GivesFormat, IsAsked, IsControlDone, GivesNoFormat, IsSought, format_lines}
use Rattle.dvd_control.specs.declared.format.ControlFault.{ControlFault}
use Rattle.dvd_layout.proofs.LeadIn.{length-lead_in_blocks}
use Rattle.dvd_loop.specs.declared.ends.UnitKind.TheVariants.{Good, Last}
use Rattle.dvd_commands.proofs.OneThing.{MayOne, either_is_one, passed_is_one, entry_is_one}
use Rattle.dvd_commands.proofs.SomeThing.{MaySome, passed_some, entry_some}

-- A block answers with one format or with none.
module _ (entry : BlockPlan) (rows : List (List ℕ)) (marks : List (List Bool)) (size : length rows ≡ 208) (marks_size : length marks ≡ 208) where
  -- the format that a block of control data answers with is one
  answer_is_one : MayOne (GivesFormat entry rows marks)
  answer_is_one steps others kind other p q =
      let sectors : p.sectors ≡ q.sectors =
      (read-determined rows marks entry p.sectors size marks_size p.read).1 ∙ sym (read-determined rows marks entry q.sectors size marks_size q.read).1 in
      (p.writes ∙ ap (λ s. Write (format_lines (fields_in (line s 0))) ∷ []) sectors ∙ sym q.writes, p.last ∙ sym q.last)

  -- a block that answers has neither a cause nor a broken format, so that it isn't one without an answer
  not_answered : (steps others : List Step) (kind other : UnitKind) → GivesFormat entry rows marks steps kind → GivesNoFormat entry rows marks others other → ⊥
  not_answered steps others kind other p q = elim q.why [
    | inl (cause, first) ↦ (let no : None ≡ Some cause = sym (read-determined rows marks entry p.sectors size marks_size p.read).0 ∙ first in cc)
    | inr (sectors, fault, read, broken) ↦
        let same : p.sectors ≡ sectors =
        (read-determined rows marks entry p.sectors size marks_size p.read).1 ∙ sym (read-determined rows marks entry sectors size marks_size read).1 in
        let no : None ≡ Some fault = sym p.valid ∙ ap (λ s. control_fault (line s 0)) same ∙ broken in
        cc
  ]

  -- so a block of control data answers in one way, or not at all
  control_is_one : MayOne (IsControlDone entry rows marks)
  control_is_one =
      either_is_one answer_is_one (λ steps others kind other p q. (p.nothing ∙ sym q.nothing, p.good ∙ sym q.good)) not_answered

  -- whatever a block holds, one thing alone is done when it is asked for its format
  asked_is_one : (content : Content) → MayOne (IsAsked content entry rows marks)
  asked_is_one Control = control_is_one
  asked_is_one content = passed_is_one

-- so what `info` does for a block is one thing
pub sought_is_one : (initial : ℕ) (form : Form) (k : ℕ) (own : List ℕ) → MayOne (IsSought initial form k own)
sought_is_one initial =
    entry_is_one (lead_in_blocks initial) (λ e. IsAsked e.content e) (λ e rows marks size marks_size. asked_is_one e rows marks size marks_size e.content)

-- A block of control data answers or it doesn't.
module _ (entry : BlockPlan) (rows : List (List ℕ)) (marks : List (List Bool)) (size : length rows ≡ 208) (marks_size : length marks ≡ 208) where
  -- a block without a cause may answer with its format, or with none where that breaks a rule
  format_some : block_cause rows marks entry ≡ None → (fault : Option ControlFault) → control_fault (line (block_sectors rows marks entry) 0) ≡ fault
      → MaySome (IsControlDone entry rows marks)
  format_some none None valid = (
    Write (format_lines (fields_in (line (block_sectors rows marks entry) 0))) ∷ [],
    Last,
    inl (record { sectors = block_sectors rows marks entry; read = no_cause-read rows marks entry size marks_size none; valid = valid; writes = refl; last = refl }),
  )
  format_some none (Some fault) broken = (
    [],
    Good,
    inr (record { why = inr (block_sectors rows marks entry, fault, no_cause-read rows marks entry size marks_size none, broken); nothing = refl; good = refl }),
  )

  -- a block of control data with a cause may go without an answer, and one without may be asked for its format
  control_some : (cause : Option Cause) → block_cause rows marks entry ≡ cause → MaySome (IsControlDone entry rows marks)
  control_some None none = format_some none (control_fault (line (block_sectors rows marks entry) 0)) refl
  control_some (Some cause) first = ([], Good, inr (record { why = inl (cause, first); nothing = refl; good = refl }))

  -- whatever a block holds, something may be done when it is asked for its format
  asked_some : (content : Content) → MaySome (IsAsked content entry rows marks)
  asked_some Control = control_some (block_cause rows marks entry) refl
  asked_some content = passed_some

-- so something is done for each block that `info` asks
pub sought_some : (initial : ℕ) (form : Form) (k : ℕ) (own : List ℕ) → k < initial + 224 → MaySome (IsSought initial form k own)
sought_some initial form k own within =
    entry_some (lead_in_blocks initial) (λ e. IsAsked e.content e) (λ e rows marks size marks_size. asked_some e rows marks size marks_size e.content) form k own
    (let size = length-lead_in_blocks initial in omega arith)
