-- Every input has an outcome without a fault.
use Rattle.std.proofs.Common.{◌≡◌, inl, inr, ℕ, zero, suc, ◌+◌, List, [], ◌∷◌, ◌++◌, length, length-append, refl, sym, subst, append-nil, arith}
use Rattle.dvd_loop.specs.Laws.{AreTotal, IsFaultless, OutcomeExists}
use Rattle.dvd_loop.specs.Machine.{Performs, EndsAfterLast, EndsWithin, Continues, ContinuesAfter, Outcome, Step, Units, bad_of, end_by, ended, taking}
use Rattle.dvd_loop.specs.Machine.Prefix.{Whole, Cut}
use Rattle.dvd_loop.specs.UnitCommand.{reported, written}
use Rattle.dvd_loop.specs.declared.ends.AfterLast.{AfterLast}
use Rattle.dvd_loop.specs.declared.ends.AfterLast.TheVariants as after_last
use Rattle.dvd_loop.specs.declared.ends.LoopEnd.{LoopEnd}
use Rattle.dvd_loop.specs.declared.ends.LoopEnd.TheVariants.{BadMarks, Done, Long, NoControl, Short}
use Rattle.dvd_loop.specs.declared.ends.UnitKind.{UnitKind}
use Rattle.dvd_loop.specs.declared.ends.UnitKind.TheVariants.{Good, Bad, Last}
use Rattle.dvd_loop.proofs.StepLemmas.{does_all, onto, taken_then}

-- some outcome without a fault is there
abbrev pub Exists : (Outcome → Type 0) → Type 0
Exists A = (outcome : Outcome) × A outcome × IsFaultless outcome.end

-- steps have an outcome without a fault where what comes after them does
pub steps_exist : (steps : List Step) (A : Outcome → Type 0) → Exists A → Exists (Performs steps A)
steps_exist steps A (after, holds, none) = (onto [] (written steps) (reported steps) after, does_all steps A after holds, none)

-- whether the unit is the last or not, there is one where there is one of the units to come
pub kinds_exist : (kind : UnitKind) (A : Outcome → Type 0) → Exists A → Exists (ContinuesAfter kind A)
kinds_exist Good A exists = exists
kinds_exist Bad A exists = exists
kinds_exist Last A exists = (ended Done, refl, tt)

-- the end of an input is no fault
pub end_by_none : (bad : ℕ) → IsFaultless (end_by bad)
end_by_none zero = tt
end_by_none (suc bad) = tt

-- after the last unit there is an outcome without a fault
pub behind_exists : (rule : AfterLast) (bad : ℕ) (left : List ℕ) → Exists (EndsAfterLast rule bad left)
behind_exists after_last.Done bad left = (ended Done, refl, tt)
behind_exists after_last.NoControl bad left = (ended NoControl, refl, tt)
behind_exists after_last.EndOfInput bad [] = (ended (end_by bad), inl refl, end_by_none bad)
behind_exists after_last.EndOfInput bad (byte ∷ left) = (taking (byte ∷ []) (ended Long), inl refl, tt)

-- one unit fewer is to come
pub one_fewer : (before : List (List ℕ)) (own : List ℕ) (n count : ℕ) → length before + suc n ≡ count → length (before ++ own ∷ []) + n ≡ count
one_fewer before own n count all = omega (arith, length-append before (own ∷ []))

module _ (units : Units) where
  -- the input ends within the unit after those
  pub cut_exists : (n : ℕ) (before : List (List ℕ)) (bad : ℕ) (bytes : List ℕ) → units.begins (length before) bytes ≡ Cut
      → Exists (Continues units (suc n) before bad bytes)
  unfolding Continues
  cut_exists n before bad bytes cut =
      let short : LoopEnd = Short (length before) (length bytes) in (
        taking bytes (ended short),
        inl (record {
          own = bytes;
          left = [];
          prefix = sym (append-nil bytes);
          ends = subst (λ part. EndsWithin part (length before) (length bytes) [] short) (sym cut) (inl (refl, refl));
          takes = refl;
        }),
        tt,
      )

  -- the unit is taken, and there is an outcome of the units to come
  pub taken_exists : (n : ℕ) (before : List (List ℕ)) (bad : ℕ) (bytes own left : List ℕ) → bytes ≡ own ++ left
      → units.begins (length before) own ≡ Whole (length own)
      → (steps : List Step) (kind : UnitKind) → units.does (length before) before own steps kind
      → Exists (Continues units n (before ++ own ∷ []) (bad + bad_of kind) left) → Exists (Continues units (suc n) before bad bytes)
  unfolding Continues
  taken_exists n before bad bytes own left prefix whole steps kind does later =
      let Next = Continues units n (before ++ own ∷ []) (bad + bad_of kind) left in
      let exists = steps_exist steps (ContinuesAfter kind Next) (kinds_exist kind Next later) in (
        taking own exists.0,
        inr (taken_then units before _ bytes own left steps kind _ exists.0 prefix (record { whole = whole; does = does }) exists.1 refl),
        exists.2,
      )

  -- after the last unit these steps close them
  pub closed_exists : (before : List (List ℕ)) (bad : ℕ) (bytes : List ℕ) (steps : List Step) → units.closes before steps
      → Exists (Continues units 0 before bad bytes)
  unfolding Continues
  closed_exists before bad bytes steps closes =
      let exists = steps_exist steps (EndsAfterLast units.after_last bad bytes) (behind_exists units.after_last bad bytes) in
      (exists.0, (steps, closes, exists.1), exists.2)

module _ (units : Units) (total : AreTotal units) where
  -- with n units to come there is an outcome without a fault for any bytes
  pub goes_exist : (n : ℕ) (before : List (List ℕ)) (bad : ℕ) (bytes : List ℕ) → length before + n ≡ units.count
      → Exists (Continues units n before bad bytes)
  unfolding Continues
  goes_exist zero before bad bytes all =
      let closing = total.closes before (omega arith) in
      closed_exists units before bad bytes closing.0 closing.1
  goes_exist (suc n) before bad bytes all = elim (total.begins (length before) bytes (omega arith)) [
    | inl (own, left, prefix, whole) ↦
        let unit = total.does before own (omega arith) whole in
        taken_exists units n before bad bytes own left prefix whole unit.0 unit.1 unit.2
        (goes_exist n (before ++ own ∷ []) (bad + bad_of unit.1) left (one_fewer before own n units.count all))
    | inr (inl cut) ↦ cut_exists units n before bad bytes cut
    | inr (inr (own, left, at, prefix, broken)) ↦ (
      taking own (ended (BadMarks (length before) at)),
      inl (record {
        own = own;
        left = left;
        prefix = prefix;
        ends = subst (λ part. EndsWithin part (length before) (length own) left (BadMarks (length before) at)) (sym broken) (inl refl);
        takes = refl;
      }),
      tt,
    )
  ]

  -- so there is one with all units to come
  pub all_exist : (bytes : List ℕ) → Exists (Continues units units.count [] 0 bytes)
  all_exist bytes = goes_exist units.count [] 0 bytes (omega arith)

-- every input has an outcome without a fault
pub exists : (units : Units) → OutcomeExists units
exists units total bytes = steps_exist units.opens (Continues units units.count [] 0 bytes) (all_exist units total bytes)
