-- Units that have a size whatever their bytes are.
use Rattle.std.proofs.Common.{◌≡◌, ◌≢◌, inl, inr, ◌⊎◌, ℕ, suc, ◌+◌, ◌<◌, ◌≤◌, cond, List, [], ◌∷◌, ◌++◌, length, length-append, take, drop, ap, sym, subst, ◌∙◌, arith}
use Rattle.std.specs.Prelude.{◌↔◌}
use Rattle.std.proofs.lemmas.Bool.{cases_lt, le-leb, lt-leb}
use Rattle.std.proofs.lemmas.List.{length-take-le, take-append-drop}
use Rattle.dvd_loop.specs.Laws.{IsFaultless}
use Rattle.dvd_loop.specs.Machine.{Continues, ContinuesAfter, IsUnit, IsEndedWithin, Outcome, Step, Units, bad_of, ended, taking, sized}
use Rattle.dvd_loop.specs.Machine.Prefix.{Whole, Cut, Broken}
use Rattle.dvd_loop.specs.UnitCommand.{reported, written}
use Rattle.dvd_loop.specs.declared.ends.LoopEnd.TheVariants.{Short}
use Rattle.dvd_loop.specs.declared.ends.UnitKind.{UnitKind}
use Rattle.dvd_loop.specs.declared.ends.UnitKind.TheVariants.{Last}
use Rattle.dvd_loop.proofs.Faultless.{all_done, faultless_after, short_or_broken}
use Rattle.dvd_loop.proofs.Reached.{goes_further}
use Rattle.dvd_loop.proofs.StepLemmas.{onto}

-- enough bytes begin with the whole unit
pub sized_enough : (size : ℕ) (bytes : List ℕ) → size ≤ length bytes → sized size bytes ≡ Whole size
sized_enough size bytes le = ap (λ b. cond b (Whole size) Cut) (le-leb size (length bytes) le)

-- fewer are a part of it
pub sized_fewer : (size : ℕ) (bytes : List ℕ) → length bytes < size → sized size bytes ≡ Cut
sized_fewer size bytes lt = ap (λ b. cond b (Whole size) Cut) (lt-leb size (length bytes) lt)

-- all of them are the unit exactly where they are so many
pub sized_whole : (size : ℕ) (own : List ℕ) → (sized size own ≡ Whole (length own)) ↔ (length own ≡ size)
sized_whole size own = (
  λ whole. elim (cases_lt (length own) size) [
    | inl lt ↦ absurd (let no : Cut ≡ Whole (length own) = sym (sized_fewer size own lt) ∙ whole in cc)
    | inr le ↦ (let is : Whole size ≡ Whole (length own) = sym (sized_enough size own le) ∙ whole in cc)
  ],
  λ is. sized_enough size own (omega arith) ∙ ap Whole (sym is),
)

-- and a part of it exactly where they are fewer
pub sized_cut : (size : ℕ) (own : List ℕ) → (sized size own ≡ Cut) ↔ (length own < size)
sized_cut size own = (
  λ cut. elim (cases_lt (length own) size) [
    | inl lt ↦ lt
    | inr le ↦ absurd (let no : Whole size ≡ Cut = sym (sized_enough size own le) ∙ cut in cc)
  ],
  sized_fewer size own,
)

-- no bytes break a rule
pub sized_never_broken : (size at : ℕ) (own : List ℕ) → sized size own ≢ Broken at
sized_never_broken size at own broken = elim (cases_lt (length own) size) [
  | inl lt ↦ (let no : Cut ≡ Broken at = sym (sized_fewer size own lt) ∙ broken in cc)
  | inr le ↦ (let no : Whole size ≡ Broken at = sym (sized_enough size own le) ∙ broken in cc)
]

module _ (units : Units) (size : ℕ → ℕ) (begins : (k : ℕ) (bytes : List ℕ) → units.begins k bytes ≡ sized (size k) bytes) where
  -- a whole unit has its size
  pub unit_size : (k : ℕ) (own : List ℕ) → units.begins k own ≡ Whole (length own) → length own ≡ size k
  unit_size k own whole = (sized_whole (size k) own).0 (sym (begins k own) ∙ whole)

  -- its bytes are one whatever follows them
  pub whole_stays : (k : ℕ) (own more : List ℕ) → units.begins k own ≡ Whole (length own) → units.begins k (own ++ more) ≡ Whole (length own)
  whole_stays k own more whole =
      let is = unit_size k own whole in
      begins k (own ++ more) ∙ sized_enough (size k) (own ++ more) (omega (arith, length-append own more)) ∙ ap Whole (sym is)

  -- bytes that break a rule would break it whatever follows, but none of such a unit do
  pub broken_stays : (k at : ℕ) (own more : List ℕ) → units.begins k own ≡ Broken at → units.begins k (own ++ more) ≡ Broken at
  broken_stays k at own more broken = absurd (sized_never_broken (size k) at own (sym (begins k own) ∙ broken))

  -- whatever bytes there are, they begin somehow
  pub begins_somehow : (k : ℕ) (bytes : List ℕ) → k < units.count
      → ((own left : List ℕ) × (bytes ≡ own ++ left) × (units.begins k own ≡ Whole (length own))) ⊎ (units.begins k bytes ≡ Cut)
      ⊎ ((own left : List ℕ) × (at : ℕ) × (bytes ≡ own ++ left) × (units.begins k own ≡ Broken at))
  begins_somehow k bytes lt = elim (cases_lt (length bytes) (size k)) [
    | inl fewer ↦ inr (inl (begins k bytes ∙ sized_fewer (size k) bytes fewer))
    | inr le ↦
        let own = take (size k) bytes in
        inl (own, drop (size k) bytes, sym (take-append-drop (size k) bytes), begins k own ∙ (sized_whole (size k) own).1 (length-take-le (size k) bytes le))
  ]

  -- the bytes are too few for the unit, and the loop ends within it with all of them taken
  pub record IsShort (k : ℕ) (bytes : List ℕ) (outcome : Outcome) : Type 0 where
    pub fewer : length bytes < size k
    pub is : outcome ≡ taking bytes (ended (Short k (length bytes)))

  -- an end within a unit without a fault is that of an input with too few bytes for it
  pub within_short : (k : ℕ) (bytes : List ℕ) (outcome : Outcome) → IsEndedWithin units k bytes outcome → IsFaultless outcome.end → IsShort k bytes outcome
  within_short k bytes outcome w none = elim (short_or_broken units k bytes outcome w none) [
    | inl (cut, is) ↦ record { fewer = (sized_cut (size k) bytes).0 (sym (begins k bytes) ∙ cut); is = is }
    | inr (at, own, left, prefix, broken, is) ↦ absurd (sized_never_broken (size k) at own (sym (begins k own) ∙ broken))
  ]

  -- The unit after those is taken and done without a fault, and then the units to come.
  pub record TakesOne (n : ℕ) (before : List (List ℕ)) (bad : ℕ) (bytes : List ℕ) (outcome : Outcome) : Type 0 where
    pub own : List ℕ
    pub left : List ℕ
    pub steps : List Step
    pub kind : UnitKind
    pub prefix : bytes ≡ own ++ left
    pub size_is : length own ≡ size (length before)
    pub unit : IsUnit units before own steps kind
    pub after : Outcome
    pub goes : Continues units n (before ++ own ∷ []) (bad + bad_of kind) left after
    pub is : outcome ≡ onto own (written steps) (reported steps) after
    pub faultless : IsFaultless after.end

  -- one unit of a run without a fault: too few bytes are left for it, or it is taken and done
  pub goes_one : (n : ℕ) (before : List (List ℕ)) → ((own : List ℕ) (steps : List Step) → IsUnit units before own steps Last → ⊥)
      → (bad : ℕ) (bytes : List ℕ) (outcome : Outcome) → Continues units (suc n) before bad bytes outcome → IsFaultless outcome.end
      → IsShort (length before) bytes outcome ⊎ TakesOne n before bad bytes outcome
  unfolding Continues
  goes_one n before never bad bytes outcome goes none = elim goes [
    | inl w ↦ inl (within_short (length before) bytes outcome w none)
    | inr t ↦
        let Next = Continues units n (before ++ t.own ∷ []) (bad + bad_of t.kind) t.left in
        let faultless = subst (λ (o : Outcome). IsFaultless o.end) t.takes none in
        let done = all_done t.steps (ContinuesAfter t.kind Next) t.after t.does faultless in
        inr (record {
          own = t.own;
          left = t.left;
          steps = t.steps;
          kind = t.kind;
          prefix = t.prefix;
          size_is = unit_size (length before) t.own t.unit.whole;
          unit = t.unit;
          after = done.after;
          goes = goes_further t.kind Next done.after (λ is. never t.own t.steps (subst (IsUnit units before t.own t.steps) is t.unit)) done.holds;
          is = t.takes ∙ ap (taking t.own) done.is;
          faultless = faultless_after t.steps (ContinuesAfter t.kind Next) t.after done faultless;
        })
  ]
