-- What the loop has reached before a unit: what may follow, added to what was done, is an outcome of all units.
use Rattle.std.proofs.Common.{◌≡◌, ◌≢◌, inl, inr, ℕ, zero, suc, ◌+◌, ◌<◌, List, [], ◌∷◌, ◌++◌, length, refl, ap, sym, subst, append_assoc, append-nil, length-append, arith}
use Rattle.dvd_loop.specs.Machine.{Performs, EndsAfterLast, Continues, ContinuesAfter, IsOutcome, IsUnit, Outcome, Step, Units, bad_of, ended, taking}
use Rattle.dvd_loop.specs.Streams.{HaveReached, HaveMoved, Streams}
use Rattle.dvd_loop.specs.UnitCommand.{EndsAt, IsUnitDone, Nothing, reported, written}
use Rattle.dvd_loop.specs.declared.ends.LoopEnd.{LoopEnd}
use Rattle.dvd_loop.specs.declared.ends.LoopEnd.TheVariants.{Done}
use Rattle.dvd_loop.specs.declared.ends.UnitKind.{UnitKind}
use Rattle.dvd_loop.specs.declared.ends.UnitKind.TheVariants.{Good, Bad, Last}
use Rattle.dvd_loop.proofs.StepLemmas.{does_all, does_as, onto, taken_then}
use Rattle.dvd_loop.proofs.StreamLemmas.{comes_after, left_of, moves_on, stays}

-- k units were taken, these; so many are to come
pub record Reached (units : Units) (k : ℕ) (before : List (List ℕ)) (old now : Streams) (bad : ℕ) : Type 0 where
  pub to_come : ℕ
  pub all : k + to_come ≡ units.count
  pub number : length before ≡ k
  pub taken : List ℕ
  pub out : List ℕ
  pub lines : List ℕ
  pub moved : HaveMoved old now taken out lines
  pub reaches : (left : List ℕ) (after : Outcome) → Continues units to_come before bad left after
      → IsOutcome units (taken ++ left) (onto taken out lines after)

-- the steps of a unit, after what was done before it
onto_unit : (taken out lines own w t : List ℕ) (after : Outcome)
    → onto taken out lines (taking own (onto [] w t after)) ≡ onto (taken ++ own) (out ++ w) (lines ++ t) after
onto_unit taken out lines own w t after = simp append_assoc

-- a unit that isn't the last is followed by those to come
pub goes_on : (kind : UnitKind) (Continues : Outcome → Type 0) (outcome : Outcome) → kind ≢ Last → Continues outcome → ContinuesAfter kind Continues outcome
goes_on Good Continues outcome not goes = goes
goes_on Bad Continues outcome not goes = goes
goes_on Last Continues outcome not goes = absurd (not refl)

-- and what comes after it is that
pub goes_further : (kind : UnitKind) (Continues : Outcome → Type 0) (outcome : Outcome) → kind ≢ Last → ContinuesAfter kind Continues outcome → Continues outcome
goes_further Good Continues outcome not goes = goes
goes_further Bad Continues outcome not goes = goes
goes_further Last Continues outcome not goes = absurd (not refl)

module _ (units : Units) where
  -- the opening was done
  pub reached_first : (old now : Streams) → HaveMoved old now [] (written units.opens) (reported units.opens) → Reached units 0 [] old now 0
  reached_first old now moved = record {
    to_come = units.count;
    all = omega arith;
    number = refl;
    taken = [];
    out = written units.opens;
    lines = reported units.opens;
    moved = moved;
    reaches = λ left after goes. does_all units.opens (Continues units units.count [] 0 left) after goes;
  }

  -- the opening ended the loop
  pub opening_ends : (old new : Streams) (end : LoopEnd) → HaveReached (λ bytes. Performs units.opens Nothing) old new end → HaveReached (IsOutcome units) old new end
  opening_ends old new end comes = record {
    bytes = comes.bytes;
    known = comes.known;
    outcome = comes.outcome;
    holds = does_as units.opens Nothing (Continues units units.count [] 0 comes.bytes) (λ after none. absurd none) comes.outcome comes.holds;
    ends = comes.ends;
    moved = comes.moved;
  }

  -- what may come of a unit that was taken and done
  pub taken_unit : (n : ℕ) (before : List (List ℕ)) (own left : List ℕ) (steps : List Step) (kind : UnitKind) (bad : ℕ) (after : Outcome)
      → IsUnit units before own steps kind
      → ContinuesAfter kind (Continues units n (before ++ own ∷ []) (bad + bad_of kind) left) after
      → Continues units (suc n) before bad (own ++ left) (taking own (onto [] (written steps) (reported steps) after))
  unfolding Continues
  taken_unit n before own left steps kind bad after unit goes =
      inr (taken_then units before _ (own ++ left) own left steps kind _ (onto [] (written steps) (reported steps) after) refl unit
      (does_all steps (ContinuesAfter kind (Continues units n (before ++ own ∷ []) (bad + bad_of kind) left)) after goes) refl)

  -- a loop that ends within a unit or its steps
  ends_at : (n : ℕ) (before : List (List ℕ)) (bad : ℕ) (bytes : List ℕ) (outcome : Outcome) → EndsAt units before bytes outcome
      → Continues units (suc n) before bad bytes outcome
  unfolding Continues
  ends_at n before bad bytes outcome at = elim at [
    | inl within ↦ inl within
    | inr t ↦
        inr (taken_then units before _ bytes t.own t.left t.steps t.kind outcome t.after t.prefix t.unit
        (does_as t.steps Nothing (ContinuesAfter t.kind (Continues units n (before ++ t.own ∷ []) (bad + bad_of t.kind) t.left)) (λ after none. absurd none) t.after t.does) t.takes)
  ]

  module _ (k : ℕ) (before : List (List ℕ)) (old now : Streams) (bad : ℕ) (r : Reached units k before old now bad) where
    -- there is one unit to come at least
    more : k < units.count → (n : ℕ) × (r.to_come ≡ suc n)
    more lt = elim r.to_come as (λ m. k + m ≡ units.count → (n : ℕ) × (m ≡ suc n)) [
      | zero ↦ λ all. absurd (omega arith)
      | suc n ↦ λ all. (n, refl)
    ] r.all

    -- the outcome of all where the loop goes on with that unit
    reaches_next : (n : ℕ) → r.to_come ≡ suc n → (left : List ℕ) (after : Outcome) → Continues units (suc n) before bad left after
        → IsOutcome units (r.taken ++ left) (onto r.taken r.out r.lines after)
    reaches_next n is left after goes = r.reaches left after (subst (λ m. Continues units m before bad left after) (sym is) goes)

    -- the outcome of all where that unit was taken and done
    reaches_taken : (n : ℕ) → r.to_come ≡ suc n → (own left : List ℕ) (steps : List Step) (kind : UnitKind) (after : Outcome)
        → IsUnit units before own steps kind
        → ContinuesAfter kind (Continues units n (before ++ own ∷ []) (bad + bad_of kind) left) after
        → IsOutcome units ((r.taken ++ own) ++ left) (onto (r.taken ++ own) (r.out ++ written steps) (r.lines ++ reported steps) after)
    reaches_taken n is own left steps kind after unit goes =
        subst (λ l. IsOutcome units l (onto (r.taken ++ own) (r.out ++ written steps) (r.lines ++ reported steps) after)) (sym (append_assoc r.taken own left))
        (subst (IsOutcome units (r.taken ++ (own ++ left))) (onto_unit r.taken r.out r.lines own (written steps) (reported steps) after)
        (reaches_next n is (own ++ left) (taking own (onto [] (written steps) (reported steps) after)) (taken_unit n before own left steps kind bad after unit goes)))

    module _ (ready : List (List ℕ) → Type 0) (new : Streams) (kind : UnitKind) (t : IsUnitDone units before ready now new kind) (lt : k < units.count) where
      -- what was taken, written and reported up to the end of this unit: that before it, and then its own
      moved_next : HaveMoved old new (r.taken ++ t.own) (r.out ++ written t.steps) (r.lines ++ reported t.steps)
      moved_next = moves_on old now new r.taken r.out r.lines t.own (written t.steps) (reported t.steps) r.moved t.moved

      -- the unit was taken and done, and more may come
      pub reached_next : kind ≢ Last → (more_bad : ℕ) → more_bad ≡ bad + bad_of kind → Reached units (k + 1) (before ++ t.own ∷ []) old new more_bad
      reached_next not more_bad is_bad =
          let n = more lt in record {
            to_come = n.0;
            all = omega (arith, r.all, n.1);
            number = omega (arith, length-append before (t.own ∷ []), r.number);
            taken = r.taken ++ t.own;
            out = r.out ++ written t.steps;
            lines = r.lines ++ reported t.steps;
            moved = moved_next;
            reaches = λ left after goes.
                reaches_taken n.0 n.1 t.own left t.steps kind after t.unit
                (goes_on kind (Continues units n.0 (before ++ t.own ∷ []) (bad + bad_of kind) left) after not (subst (λ b. Continues units n.0 (before ++ t.own ∷ []) b left after) is_bad goes));
          }

      -- the unit was the last
      pub last_ends : kind ≡ Last → HaveReached (IsOutcome units) old new Done
      last_ends is_last =
          let n = more lt in
          let left = left_of new.source.bytes in
          let goes : ContinuesAfter kind (Continues units n.0 (before ++ t.own ∷ []) (bad + bad_of kind) left.0) (ended Done) =
          subst (λ u. ContinuesAfter u (Continues units n.0 (before ++ t.own ∷ []) (bad + bad_of kind) left.0) (ended Done)) (sym is_last) refl in
          comes_after (λ bytes outcome. (bytes ≡ left.0) × (outcome ≡ ended Done)) (IsOutcome units) old new new Done
          (r.taken ++ t.own) (r.out ++ written t.steps) (r.lines ++ reported t.steps) moved_next
          (λ bytes after is.
          subst (λ l. IsOutcome units ((r.taken ++ t.own) ++ l) (onto (r.taken ++ t.own) (r.out ++ written t.steps) (r.lines ++ reported t.steps) after)) (sym is.0)
          (subst (λ o. IsOutcome units ((r.taken ++ t.own) ++ left.0) (onto (r.taken ++ t.own) (r.out ++ written t.steps) (r.lines ++ reported t.steps) o)) (sym is.1)
          (reaches_taken n.0 n.1 t.own left.0 t.steps kind (ended Done) t.unit goes)))
          (record {
            bytes = left.0;
            known = left.1;
            outcome = ended Done;
            holds = (refl, refl);
            ends = refl;
            moved = stays new;
          })

    -- the unit ended the loop
    pub unit_ends : (new : Streams) (end : LoopEnd) → k < units.count → HaveReached (EndsAt units before) now new end → HaveReached (IsOutcome units) old new end
    unit_ends new end lt comes =
        let n = more lt in
        comes_after (EndsAt units before) (IsOutcome units) old now new end r.taken r.out r.lines r.moved
        (λ left after at. reaches_next n.0 n.1 left after (ends_at n.0 before bad left after at)) comes

    module _ (all : k ≡ units.count) (steps : List Step) (closes : units.closes before steps) where
      -- after all units and the closing steps, what comes of the bytes left is an outcome of all
      reaches_closed : (left : List ℕ) (after : Outcome) → Performs steps (EndsAfterLast units.after_last bad left) after
          → IsOutcome units (r.taken ++ left) (onto r.taken r.out r.lines after)
      unfolding Continues
      reaches_closed left after does =
          let none : r.to_come ≡ 0 = omega (arith, r.all) in
          r.reaches left after (subst (λ m. Continues units m before bad left after) (sym none) (steps, closes, does))

      -- the closing ended the loop
      pub closing_ends : (new : Streams) (end : LoopEnd) → HaveReached (λ bytes. Performs steps Nothing) now new end → HaveReached (IsOutcome units) old new end
      closing_ends new end comes =
          comes_after (λ bytes. Performs steps Nothing) (IsOutcome units) old now new end r.taken r.out r.lines r.moved
          (λ left after does. reaches_closed left after (does_as steps Nothing (EndsAfterLast units.after_last bad left) (λ o none. absurd none) after does)) comes

      -- what comes after the closing ended it
      pub behind_ends : (mid new : Streams) (end : LoopEnd) → HaveMoved now mid [] (written steps) (reported steps)
          → HaveReached (EndsAfterLast units.after_last bad) mid new end → HaveReached (IsOutcome units) old new end
      behind_ends mid new end moved comes =
          comes_after (EndsAfterLast units.after_last bad) (IsOutcome units) old mid new end (r.taken ++ []) (r.out ++ written steps) (r.lines ++ reported steps)
          (moves_on old now mid r.taken r.out r.lines [] (written steps) (reported steps) r.moved moved)
          (λ left after holds.
          subst (λ l. IsOutcome units l (onto (r.taken ++ []) (r.out ++ written steps) (r.lines ++ reported steps) after)) (ap (λ l. l ++ left) (sym (append-nil r.taken)))
          (subst (IsOutcome units (r.taken ++ left)) (onto_unit r.taken r.out r.lines [] (written steps) (reported steps) after)
          (reaches_closed left (onto [] (written steps) (reported steps) after) (does_all steps (EndsAfterLast units.after_last bad left) after holds))))
          comes
