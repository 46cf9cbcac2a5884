-- For every input of bytes a command has a run that no fault ended.
use Rattle.std.proofs.Common.{◌≡◌, inl, inr, ℕ, zero, suc, ◌+◌, ◌<◌, List, [], ◌∷◌, ◌++◌, length, take, drop, All, None, sym, ◌∙◌, take-append-drop, arith}
use Rattle.std.proofs.lemmas.Bool.{cases_lt}
use Rattle.std.proofs.lemmas.List.{length-take-le}
use Rattle.std.proofs.lemmas.List.Elements.{All-drop, All-take}
use Rattle.dvd_capture.specs.declared.form.Form.{Form}
use Rattle.dvd_layout.specs.declared.layout.Layout.{Layout}
use Rattle.dvd_loop.specs.Machine.{Continues, IsOutcome, Step, Units, bad_of, sized}
use Rattle.dvd_loop.proofs.Sizes.{sized_fewer, sized_whole}
use Rattle.dvd_loop.proofs.Totality.{Exists, closed_exists, cut_exists, exists, one_fewer, steps_exist, taken_exists}
use Rattle.dvd_commands.specs.Captured.{captured_part}
use Rattle.dvd_commands.specs.Meaning.{GoesBy, by_layout}
use Rattle.dvd_commands.proofs.CapturedBlocks.{blocks_total}
use Rattle.dvd_commands.proofs.FrameBytes.{HasBytes, IsByte}
use Rattle.dvd_commands.proofs.Layouts.{layout_for}
use Rattle.dvd_commands.proofs.SomeThing.{MaySome}
use Rattle.dvd_words.specs.Settings.{broken_rule}
use Rattle.dvd_words.specs.declared.settings.Settings.{Settings}

-- Units of given sizes: where something may be done for each unit of bytes and after all of them, every input of
-- bytes has an outcome without a fault.
module _ (units : Units) (size : ℕ → ℕ) (begins : (k : ℕ) (own : List ℕ) → units.begins k own ≡ sized (size k) own)
    (may : (before : List (List ℕ)) (own : List ℕ) → length before < units.count → HasBytes (size (length before)) own → MaySome (units.does (length before) before own))
    (closing : (before : List (List ℕ)) → length before ≡ units.count → (steps : List Step) × units.closes before steps) where
  -- with n units to come an outcome without a fault exists: the input ends in the next, or it is taken
  goes_exist : (n : ℕ) (before : List (List ℕ)) (bad : ℕ) (bytes : List ℕ) → length before + n ≡ units.count → All IsByte bytes
      → Exists (Continues units n before bad bytes)
  goes_exist zero before bad bytes all are = let closes = closing before (omega arith) in closed_exists units before bad bytes closes.0 closes.1
  goes_exist (suc n) before bad bytes all are = elim (cases_lt (length bytes) (size (length before))) [
    | inl fewer ↦ cut_exists units n before bad bytes (begins (length before) bytes ∙ sized_fewer (size (length before)) bytes fewer)
    | inr le ↦
        let here = size (length before) in
        let own = take here bytes in
        let long = length-take-le here bytes le in
        let (steps, kind, does) = may before own (omega arith) (record { size = long; bytes = All-take IsByte here bytes are }) in
        taken_exists units n before bad bytes own (drop here bytes) (sym (take-append-drop here bytes)) (begins (length before) own ∙ (sized_whole here own).1 long) steps kind does
        (goes_exist n (before ++ own ∷ []) (bad + bad_of kind) (drop here bytes) (one_fewer before own n units.count all) (All-drop IsByte here bytes are))
  ]

  -- so every input of bytes has an outcome without a fault
  pub runs_exist : (bytes : List ℕ) → All IsByte bytes → Exists (IsOutcome units bytes)
  runs_exist bytes are = steps_exist units.opens (Continues units units.count [] 0 bytes) (goes_exist units.count [] 0 bytes (omega arith) are)

-- Captured blocks: where something may be done for each block and after all of them, every input has an outcome
-- without a fault.
pub captures_exist : (units : Units) (form : Form) → ((k : ℕ) (own : List ℕ) → units.begins k own ≡ captured_part form own)
    → ((before : List (List ℕ)) (own : List ℕ) → length before < units.count → MaySome (units.does (length before) before own))
    → ((before : List (List ℕ)) → length before ≡ units.count → (steps : List Step) × units.closes before steps)
    → (bytes : List ℕ) → Exists (IsOutcome units bytes)
captures_exist units form begins may closing bytes = exists units (blocks_total units form begins (λ before own lt whole. may before own lt) closing) bytes

-- Where the units of each layout have a run, those of the layout of the settings have, if it breaks no rule.
pub some_by_layout : (units : Settings → Layout → Units) (settings : Settings) (bytes : List ℕ) → broken_rule settings ≡ None
    → ((layout : Layout) → Exists (IsOutcome (units settings layout) bytes)) → Exists (GoesBy (by_layout units) settings bytes)
some_by_layout units settings bytes none some =
    let (layout, is) = layout_for settings none in
    let (outcome, runs, faultless) = some layout in (outcome, (layout, is, runs), faultless)
