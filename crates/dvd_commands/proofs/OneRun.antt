-- Two runs of a command over the same bytes, which no fault ended, do the same.
use Rattle.std.proofs.Common.{◌≡◌, ℕ, List, length, subst, sym, ◌∙◌}
use Rattle.dvd_capture.specs.declared.form.Form.{Form}
use Rattle.dvd_layout.specs.declared.layout.Layout.{Layout}
use Rattle.dvd_layout.proofs.SameLengths.{same_lengths-same}
use Rattle.dvd_loop.specs.Laws.{AreDetermined, IsFaultless, IsNotBadMarks}
use Rattle.dvd_loop.specs.Machine.{IsOutcome, Outcome, Step, Units, sized}
use Rattle.dvd_loop.proofs.Determinacy.{agrees}
use Rattle.dvd_loop.proofs.Sizes.{broken_stays, whole_stays}
use Rattle.dvd_commands.specs.Captured.{captured_part}
use Rattle.dvd_commands.specs.Meaning.{GoesBy, by_layout}
use Rattle.dvd_commands.proofs.CapturedBlocks.{blocks_determined}
use Rattle.dvd_commands.proofs.OneThing.{MayOne}
use Rattle.dvd_words.specs.Settings.{IsLayoutOf}
use Rattle.dvd_words.specs.declared.settings.Settings.{Settings}

-- they are one, but for what was taken of a block that breaks a rule
abbrev pub AreSame : Outcome → Outcome → Type 0
AreSame a b = (a.out ≡ b.out) × (a.lines ≡ b.lines) × (a.end ≡ b.end) × (IsNotBadMarks a.end → a.taken ≡ b.taken)

-- two runs over the same bytes that no fault ended are the same
abbrev pub RunsOnce : (Outcome → Type 0) → Type 0
RunsOnce Runs = (a b : Outcome) → Runs a → Runs b → IsFaultless a.end → IsFaultless b.end → AreSame a b

-- Units of given sizes: where one thing alone may be done for each and after all of them, two runs without a fault
-- are one.
module _ (units : Units) (size : ℕ → ℕ) (begins : (k : ℕ) (own : List ℕ) → units.begins k own ≡ sized (size k) own)
    (one : (before : List (List ℕ)) (own : List ℕ) → MayOne (units.does (length before) before own))
    (closing : (before : List (List ℕ)) (steps others : List Step) → units.closes before steps → units.closes before others → steps ≡ others) where
  -- what such units do is determined: how bytes begin, what each does, and what closes them
  are_determined : AreDetermined units
  are_determined = record {
    whole = whole_stays units size begins;
    broken = broken_stays units size begins;
    does = λ before own steps others kind other p q. one before own steps others kind other p.does q.does;
    closes = closing;
  }

  -- two runs of these units over the same bytes, which no fault ended, are the same
  pub one_run : (bytes : List ℕ) → RunsOnce (IsOutcome units bytes)
  one_run bytes a b p q none other = agrees units are_determined bytes a b p q none other

-- Captured blocks: two runs are one but for what was taken of a block that breaks a rule.
module _ (units : Units) (form : Form) (begins : (k : ℕ) (own : List ℕ) → units.begins k own ≡ captured_part form own)
    (one : (before : List (List ℕ)) (own : List ℕ) → MayOne (units.does (length before) before own))
    (closing : (before : List (List ℕ)) (steps others : List Step) → units.closes before steps → units.closes before others → steps ≡ others) where
  -- two runs over captured blocks that no fault ended are the same, but for what was taken of the broken one
  pub one_capture : (bytes : List ℕ) → RunsOnce (IsOutcome units bytes)
  one_capture bytes a b p q none other = agrees units (blocks_determined units form begins one closing) bytes a b p q none other

-- one list of steps closes these
pub one_closing : {closing : List Step} (steps others : List Step) → steps ≡ closing → others ≡ closing → steps ≡ others
one_closing steps others p q = p ∙ sym q

-- the layout of the settings is one
pub one_layout : (settings : Settings) (a b : Layout) → IsLayoutOf settings a → IsLayoutOf settings b → a ≡ b
one_layout settings a b p q =
    same_lengths-same a b (p.shape ∙ sym q.shape) (p.sectors0 ∙ sym q.sectors0) (p.sectors1 ∙ sym q.sectors1) (p.initial ∙ sym q.initial) (p.tail ∙ sym q.tail)

-- so runs over the units of the layout of the settings are, where those of any layout are
pub once_by_layout : (units : Settings → Layout → Units) (settings : Settings) (bytes : List ℕ)
    → ((layout : Layout) → RunsOnce (IsOutcome (units settings layout) bytes)) → RunsOnce (GoesBy (by_layout units) settings bytes)
once_by_layout units settings bytes once a b (layout, is, p) (same, so, q) none other =
    once layout a b p (subst (λ l. IsOutcome (units settings l) bytes b) (one_layout settings same layout so is) q) none other
