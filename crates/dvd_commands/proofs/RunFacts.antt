-- What the laws of whole runs rest on of each command. Its own page of facts gives it.
use Rattle.std.proofs.Common.{◌≡◌, ◌<◌, ℕ, Bool, List, All, None, length, refl}
use Rattle.dvd_capture.specs.declared.form.Form.{Form}
use Rattle.dvd_layout.specs.Plan.{plan_of}
use Rattle.dvd_layout.specs.declared.entry.BlockPlan.{BlockPlan}
use Rattle.dvd_layout.specs.declared.layout.Layout.{Layout}
use Rattle.dvd_layout.specs.declared.layout.Zones.{Zones}
use Rattle.dvd_loop.specs.Machine.{IsOutcome, Outcome, Step, Units, sized}
use Rattle.dvd_loop.specs.declared.ends.UnitKind.{UnitKind}
use Rattle.dvd_loop.proofs.Totality.{Exists}
use Rattle.dvd_commands.specs.Captured.{captured_part, image_units}
use Rattle.dvd_commands.specs.CdMake.{HasAddresses}
use Rattle.dvd_commands.specs.Commands.{meaning}
use Rattle.dvd_commands.specs.Meaning.{GoesBy, Meaning, by_layout, by_settings}
use Rattle.dvd_commands.proofs.FrameBytes.{HasBytes, IsByte}
use Rattle.dvd_commands.proofs.OneRun.{RunsOnce, one_capture, one_closing, one_run, once_by_layout}
use Rattle.dvd_commands.proofs.OneThing.{MayOne, image_is_one}
use Rattle.dvd_commands.proofs.OtherWorkers.{layout_with, set_workers}
use Rattle.dvd_commands.proofs.SomeRun.{captures_exist, runs_exist, some_by_layout}
use Rattle.dvd_commands.proofs.SomeThing.{MaySome, image_some, no_closing}
use Rattle.dvd_words.specs.Settings.{broken_rule}
use Rattle.dvd_words.specs.declared.table.Command.{Command}
use Rattle.dvd_words.specs.declared.table.Command.TheVariants.{CdMake}
use Rattle.dvd_words.specs.declared.settings.Settings.{Settings}

-- Of a meaning: its runs over the same bytes do the same; over bytes it has one, where no rule is broken and the
-- settings have what it needs; other workers change none; and lengths that are those of a layout break no rule of it.
pub record MeaningFacts (m : Meaning) (Needs : Settings → Type 0) : Type 0 where
  pub once : (settings : Settings) (bytes : List ℕ) → RunsOnce (GoesBy m settings bytes)
  pub some : (settings : Settings) (bytes : List ℕ) → HasBytes 6 settings.cpr → All IsByte bytes → m.breaks settings ≡ None → Needs settings
      → Exists (GoesBy m settings bytes)
  pub alike : (workers : ℕ) (settings : Settings) (bytes : List ℕ) (outcome : Outcome) → GoesBy m settings bytes outcome
      → GoesBy m (set_workers workers settings) bytes outcome
  pub valid : (settings : Settings) → broken_rule settings ≡ None → m.breaks settings ≡ None

-- of a command: `cdmake` alone needs something, that the addresses of the sectors that it makes exist
abbrev pub RunFacts : Command → Type 0
RunFacts command = MeaningFacts (meaning command) (λ settings. command ≡ CdMake → HasAddresses settings)

-- Units by the settings and their layout, of which other workers change none: it is enough to know the runs over those
-- of any layout.
facts_by_layout : {Needs : Settings → Type 0} (units : Settings → Layout → Units)
    → ((workers : ℕ) (settings : Settings) (layout : Layout) (bytes : List ℕ) (outcome : Outcome) → IsOutcome (units settings layout) bytes outcome
    → IsOutcome (units (set_workers workers settings) layout) bytes outcome)
    → ((settings : Settings) (layout : Layout) (bytes : List ℕ) → RunsOnce (IsOutcome (units settings layout) bytes))
    → ((settings : Settings) (layout : Layout) (bytes : List ℕ) → HasBytes 6 settings.cpr → All IsByte bytes → Exists (IsOutcome (units settings layout) bytes))
    → MeaningFacts (by_layout units) Needs
facts_by_layout units alike once some = record {
  once = λ settings bytes. once_by_layout units settings bytes (λ layout. once settings layout bytes);
  some = λ settings bytes six are none needs. some_by_layout units settings bytes none (λ layout. some settings layout bytes six are);
  alike = λ workers settings bytes outcome goes.
      (goes.0, layout_with workers settings goes.0 goes.1, alike workers settings goes.0 bytes outcome goes.2);
  valid = λ settings none. none;
}

-- Units of given sizes, by the settings and their layout: one thing alone, and something, may be done for each and
-- after all of them.
pub facts_of_sized : {Needs : Settings → Type 0} (units : Settings → Layout → Units) (size : Settings → Layout → ℕ → ℕ)
    → ((workers : ℕ) (settings : Settings) (layout : Layout) (bytes : List ℕ) (outcome : Outcome) → IsOutcome (units settings layout) bytes outcome
    → IsOutcome (units (set_workers workers settings) layout) bytes outcome)
    → ((settings : Settings) (layout : Layout) (k : ℕ) (own : List ℕ) → (units settings layout).begins k own ≡ sized (size settings layout k) own)
    → ((settings : Settings) (layout : Layout) (before : List (List ℕ)) (own : List ℕ) → MayOne ((units settings layout).does (length before) before own))
    → ((settings : Settings) (layout : Layout) (before : List (List ℕ)) (steps others : List Step) → (units settings layout).closes before steps
    → (units settings layout).closes before others → steps ≡ others)
    → ((settings : Settings) (layout : Layout) → HasBytes 6 settings.cpr → (before : List (List ℕ)) (own : List ℕ) → length before < (units settings layout).count
    → HasBytes (size settings layout (length before)) own → MaySome ((units settings layout).does (length before) before own))
    → ((settings : Settings) (layout : Layout) (before : List (List ℕ)) → length before ≡ (units settings layout).count
    → (steps : List Step) × (units settings layout).closes before steps)
    → MeaningFacts (by_layout units) Needs
facts_of_sized units size alike begins one one_closes some some_closes =
    facts_by_layout units alike
    (λ settings layout. one_run (units settings layout) (size settings layout) (begins settings layout) (one settings layout) (one_closes settings layout))
    (λ settings layout bytes six are.
    runs_exist (units settings layout) (size settings layout) (begins settings layout) (some settings layout six) (some_closes settings layout) bytes are)

-- Likewise units of given sizes by the settings alone.
pub facts_by_settings : {Needs : Settings → Type 0} (units : Settings → Units) (size : ℕ)
    → ((workers : ℕ) (settings : Settings) (bytes : List ℕ) (outcome : Outcome) → IsOutcome (units settings) bytes outcome
    → IsOutcome (units (set_workers workers settings)) bytes outcome)
    → ((settings : Settings) (k : ℕ) (own : List ℕ) → (units settings).begins k own ≡ sized size own)
    → ((settings : Settings) (before : List (List ℕ)) (own : List ℕ) → MayOne ((units settings).does (length before) before own))
    → ((settings : Settings) (before : List (List ℕ)) (steps others : List Step) → (units settings).closes before steps → (units settings).closes before others → steps ≡ others)
    → ((settings : Settings) → Needs settings → (before : List (List ℕ)) (own : List ℕ) → length before < (units settings).count → HasBytes size own
    → MaySome ((units settings).does (length before) before own))
    → ((settings : Settings) (before : List (List ℕ)) → length before ≡ (units settings).count → (steps : List Step) × (units settings).closes before steps)
    → MeaningFacts (by_settings units) Needs
facts_by_settings units size alike begins one one_closes some some_closes = record {
  once = λ settings bytes a b goes others.
      one_run (units settings) (λ k. size) (begins settings) (one settings) (one_closes settings) bytes a b goes.2 others.2;
  some = λ settings bytes six are none needs.
      let (outcome, runs, faultless) = runs_exist (units settings) (λ k. size) (begins settings) (some settings needs) (some_closes settings) bytes are in
      (outcome, (tt, tt, runs), faultless);
  alike = λ workers settings bytes outcome goes. (tt, tt, alike workers settings bytes outcome goes.2);
  valid = λ settings none. refl;
}

-- Captured blocks of a layout: one thing alone, and something, may be done for each and after all of them.
pub facts_of_captured : {Needs : Settings → Type 0} (units : Layout → Zones → Form → Units)
    → ((layout : Layout) (zones : Zones) (form : Form) (k : ℕ) (own : List ℕ) → (units layout zones form).begins k own ≡ captured_part form own)
    → ((layout : Layout) (zones : Zones) (form : Form) (before : List (List ℕ)) (own : List ℕ)
    → MayOne ((units layout zones form).does (length before) before own))
    → ((layout : Layout) (zones : Zones) (form : Form) (before : List (List ℕ)) (steps others : List Step) → (units layout zones form).closes before steps
    → (units layout zones form).closes before others → steps ≡ others)
    → ((layout : Layout) (zones : Zones) (form : Form) (before : List (List ℕ)) (own : List ℕ) → length before < (units layout zones form).count
    → MaySome ((units layout zones form).does (length before) before own))
    → ((layout : Layout) (zones : Zones) (form : Form) (before : List (List ℕ)) → length before ≡ (units layout zones form).count
    → (steps : List Step) × (units layout zones form).closes before steps)
    → MeaningFacts (by_layout (λ settings layout. units layout settings.zones settings.form)) Needs
facts_of_captured units begins one one_closes some some_closes =
    facts_by_layout (λ settings layout. units layout settings.zones settings.form)
    (λ workers settings layout bytes outcome runs. runs)
    (λ settings layout.
    let zones = settings.zones in
    let form = settings.form in
    one_capture (units layout zones form) form (begins layout zones form) (one layout zones form) (one_closes layout zones form))
    (λ settings layout bytes six are.
    let zones = settings.zones in
    let form = settings.form in
    captures_exist (units layout zones form) form (begins layout zones form) (some layout zones form) (some_closes layout zones form) bytes)

-- Likewise those of which this is done for image: one thing alone, and something, may be done for each that holds any.
pub facts_of_image : {Needs : Settings → Type 0} (Performs : Layout → ℕ → BlockPlan → List (List ℕ) → List (List Bool) → List Step → UnitKind → Type 0)
    → ((layout : Layout) (k : ℕ) (entry : BlockPlan) (rows : List (List ℕ)) (marks : List (List Bool)) → length rows ≡ 208 → length marks ≡ 208
    → MayOne (Performs layout k entry rows marks))
    → ((layout : Layout) (k : ℕ) (entry : BlockPlan) (rows : List (List ℕ)) (marks : List (List Bool)) → length rows ≡ 208 → length marks ≡ 208
    → MaySome (Performs layout k entry rows marks))
    → MeaningFacts (by_layout (λ settings layout. image_units Performs layout settings.zones settings.form)) Needs
facts_of_image Performs one some =
    facts_of_captured (image_units Performs) (λ layout zones form k own. refl)
    (λ layout zones form before own. image_is_one (plan_of layout zones) (Performs layout (length before)) (one layout (length before)) form (length before) own)
    (λ layout zones form before. one_closing)
    (λ layout zones form before own. image_some (plan_of layout zones) (Performs layout (length before)) (some layout (length before)) form (length before) own)
    (λ layout zones form before all. no_closing)
