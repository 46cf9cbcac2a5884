-- Units of one size: the end by the length of the input.
use Rattle.std.proofs.Common.{◌≡◌, inl, inr, ◌⊎◌, ℕ, zero, suc, ◌+◌, ◌*◌, ◌<◌, List, [], ◌∷◌, ◌++◌, length, length-append, take, refl, ap, sym, subst, ◌∙◌, append-nil, arith}
use Rattle.std.proofs.Math.Nat.{mul-le-mul_right, suc-mul, zero-mul}
use Rattle.std.proofs.Math.Seq.{take-append-add}
use Rattle.std.proofs.lemmas.Bool.{cases_lt}
use Rattle.std.proofs.lemmas.List.{take_all}
use Rattle.dvd_loop.specs.Laws.{AreOfOneSize, EndsBySize, IsFaultless, IsOver, GivesLength}
use Rattle.dvd_loop.specs.Machine.{EndsAfterLast, Continues, IsUnit, Outcome, Step, Units, bad_of, end_by, ended, taking}
use Rattle.dvd_loop.specs.UnitCommand.{reported, written}
use Rattle.dvd_loop.specs.declared.ends.AfterLast.TheVariants.{EndOfInput}
use Rattle.dvd_loop.specs.declared.ends.LoopEnd.TheVariants.{Long, Short}
use Rattle.dvd_loop.specs.declared.ends.UnitKind.TheVariants.{Last}
use Rattle.dvd_loop.proofs.Faultless.{all_done, faultless_after, not_by_fault}
use Rattle.dvd_loop.proofs.Sizes.{goes_one}
use Rattle.dvd_loop.proofs.StepLemmas.{onto}

-- How it ends with n units to come after so many: within the j-th of them, after the last, or with a byte more.
record Ends (n size before : ℕ) (bytes : List ℕ) (a : Outcome) : Type 0 where
  taken : a.taken ≡ take (n * size + 1) bytes
  by : ((j held : ℕ) × (j < n) × (held < size) × (length bytes ≡ j * size + held) × (a.end ≡ Short (before + j) held))
      ⊎ ((length bytes ≡ n * size) × IsOver a.end) ⊎ ((n * size < length bytes) × (a.end ≡ Long))

-- an input that ended after the last unit is over
end_by_over : (bad : ℕ) → IsOver (end_by bad)
end_by_over zero = tt
end_by_over (suc bad) = tt

module _ (size before : ℕ) where
  -- an outcome that equals another ends in the same way
  ends_as : (n : ℕ) (bytes : List ℕ) (a x : Outcome) → a ≡ x → Ends n size before bytes x → Ends n size before bytes a
  ends_as n bytes a x is ends = subst (Ends n size before bytes) (sym is) ends

  -- after the last unit the input is over, or has a byte more
  ends_behind : (bad : ℕ) (bytes : List ℕ) (a : Outcome) → EndsAfterLast EndOfInput bad bytes a → IsFaultless a.end → Ends 0 size before bytes a
  ends_behind bad [] a ends none = elim ends [
    | inr fault ↦ absurd (not_by_fault a _ fault (λ f. f) none)
    | inl is ↦ ends_as 0 [] a _ is (record { taken = sym (take_all (0 * size + 1) [] (omega arith)); by = inr (inl (sym (zero-mul size), end_by_over bad)) })
  ]
  ends_behind bad (byte ∷ left) a ends none = elim ends [
    | inr fault ↦ absurd (not_by_fault a _ fault (λ f. f) none)
    | inl is ↦
        let one : 1 ≡ 0 * size + 1 = omega (arith, zero-mul size) in
        ends_as 0 (byte ∷ left) a _ is (record { taken = ap (λ n. take n (byte ∷ left)) one; by = inr (inr (omega (arith, zero-mul size), refl)) })
  ]

  -- with fewer bytes than one unit the loop ends within the next one
  ends_short : (n : ℕ) (bytes : List ℕ) (a : Outcome) → length bytes < size → a ≡ taking bytes (ended (Short before (length bytes)))
      → Ends (suc n) size before bytes a
  ends_short n bytes a fewer is =
      let zeroth : before ≡ before + 0 = omega arith in
      ends_as (suc n) bytes a _ is (record {
        taken = append-nil bytes ∙ sym (take_all (suc n * size + 1) bytes (omega (arith, suc-mul n size)));
        by = inl (0, length bytes, omega arith, fewer, omega (arith, zero-mul size), ap (λ k. Short k (length bytes)) zeroth);
      })

  -- after one unit that was taken, what ends the units to come ends it with these, one further on
  ends_later : (n : ℕ) (own left w t : List ℕ) (a after : Outcome) → length own ≡ size → a ≡ onto own w t after
      → Ends n size (before + 1) left after → Ends (suc n) size before (own ++ left) a
  ends_later n own left w t a after whole is r =
      let long = length-append own left in
      let more : length own + (n * size + 1) ≡ suc n * size + 1 = omega (arith, suc-mul n size) in
      ends_as (suc n) (own ++ left) a _ is (record {
        taken = ap (λ l. own ++ l) r.taken ∙ sym (take-append-add own left (n * size + 1)) ∙ ap (λ m. take m (own ++ left)) more;
        by = elim r.by [
          | inl (j, held, few, fewer, so, end) ↦
              let later : (before + 1) + j ≡ before + suc j = omega arith in
              inl (suc j, held, omega arith, fewer, omega (arith, long, suc-mul j size), end ∙ ap (λ k. Short k held) later)
          | inr (inl (so, over)) ↦ inr (inl (omega (arith, long, suc-mul n size), over))
          | inr (inr (more, end)) ↦ inr (inr (omega (arith, long, suc-mul n size), end))
        ];
      })

module _ (units : Units) (size : ℕ) (are : AreOfOneSize units size) where
  -- with n units to come, a run that no fault ended ends as the length of the bytes left requires
  goes_end : (n : ℕ) (before : List (List ℕ)) (bad : ℕ) (bytes : List ℕ) (a : Outcome) → Continues units n before bad bytes a → IsFaultless a.end
      → Ends n size (length before) bytes a
  unfolding Continues
  goes_end zero before bad bytes a (steps, closes, does) none =
      let done = all_done steps (EndsAfterLast units.after_last bad bytes) a does none in
      let holds = subst (λ b. EndsAfterLast b bad bytes done.after) are.asks done.holds in
      let ends = ends_behind size (length before) bad bytes done.after holds (faultless_after steps (EndsAfterLast units.after_last bad bytes) a done none) in
      ends_as size (length before) 0 bytes a _ done.is (record { taken = ends.taken; by = ends.by })
  goes_end (suc n) before bad bytes a goes none =
      let not_last = λ (own : List ℕ) (steps : List Step) (unit : IsUnit units before own steps Last). are.never_last (length before) before own steps unit.does in
      elim (goes_one units (λ k. size) are.begins n before not_last bad bytes a goes none) [
        | inl short ↦ ends_short size (length before) n bytes a short.fewer short.is
        | inr t ↦
            let count : length (before ++ t.own ∷ []) ≡ length before + 1 = length-append before (t.own ∷ []) in
            subst (λ l. Ends (suc n) size (length before) l a) (sym t.prefix)
            (ends_later size (length before) n t.own t.left (written t.steps) (reported t.steps) a t.after t.size_is t.is
            (subst (λ k. Ends n size k t.left t.after) count (goes_end n (before ++ t.own ∷ []) (bad + bad_of t.kind) t.left t.after t.goes t.faultless)))
      ]

-- a part of an earlier unit ends before a later unit begins
earlier : (size j k held : ℕ) → held < size → j < k → j * size + held < k * size
earlier size j k held fewer lt = omega (arith, suc-mul j size, mul-le-mul_right {m = suc j} {n = k} size lt)

-- a place in units of one size names one unit
one_place : (size j k held other : ℕ) → held < size → other < size → j * size + held ≡ k * size + other → j ≡ k
one_place size j k held other p q is = elim (cases_lt j k) [
  | inl lt ↦ absurd (omega (arith, earlier size j k held p lt))
  | inr le ↦ elim (cases_lt k j) [
    | inl lt ↦ absurd (omega (arith, earlier size k j other q lt))
    | inr same ↦ omega arith
  ]
]

-- ends within a unit that are equal name the same unit and the same bytes of it
short_is : (j k held other : ℕ) → Short (0 + j) held ≡ Short k other → (j ≡ k) × (held ≡ other)
short_is j k held other is =
    let unit : 0 + j ≡ k = cc in
    (omega arith, cc)

-- such an end says how long the input is
reports : (count size : ℕ) (bytes : List ℕ) (a : Outcome) → Ends count size 0 bytes a → GivesLength count size bytes a
reports count size bytes a ends =
    let Within : ℕ → ℕ → Type 0 = λ k held. (k < count) × (held < size) × (length bytes ≡ k * size + held) in record {
      short = λ k held. (
        λ is. elim ends.by [
          | inl (j, other, few, fewer, so, end) ↦
              let same = short_is j k other held (sym end ∙ is) in
              subst (Within k) same.1 (subst (λ n. Within n other) same.0 (few, fewer, so))
          | inr (inl (so, over)) ↦ absurd (subst IsOver is over)
          | inr (inr (more, end)) ↦ absurd (let no : Long ≡ Short k held = sym end ∙ is in cc)
        ],
        λ (few, fewer, so). elim ends.by [
          | inl (j, other, less, lesser, is, end) ↦
              let unit : j ≡ k = one_place size j k other held lesser fewer (sym is ∙ so) in
              let same : other ≡ held = omega (arith, ap (λ n. n * size) unit) in
              let at : 0 + j ≡ k = omega arith in
              end ∙ ap (λ n. Short n other) at ∙ ap (Short k) same
          | inr (inl (is, over)) ↦ absurd (omega (arith, earlier size k count held fewer few))
          | inr (inr (more, end)) ↦ absurd (omega (arith, earlier size k count held fewer few))
        ],
      );
      over = (
        λ over. elim ends.by [
          | inl (j, other, few, fewer, so, end) ↦ absurd (subst IsOver end over)
          | inr (inl (so, same)) ↦ so
          | inr (inr (more, end)) ↦ absurd (subst IsOver end over)
        ],
        λ is. elim ends.by [
          | inl (j, other, few, fewer, so, end) ↦ absurd (omega (arith, earlier size j count other fewer few))
          | inr (inl (so, over)) ↦ over
          | inr (inr (more, end)) ↦ absurd (omega arith)
        ],
      );
      long = (
        λ is. elim ends.by [
          | inl (j, other, few, fewer, so, end) ↦ absurd (let no : Short (0 + j) other ≡ Long = sym end ∙ is in cc)
          | inr (inl (so, over)) ↦ absurd (subst IsOver is over)
          | inr (inr (more, end)) ↦ more
        ],
        λ more. elim ends.by [
          | inl (j, other, few, fewer, so, end) ↦ absurd (omega (arith, earlier size j count other fewer few))
          | inr (inl (so, over)) ↦ absurd (omega arith)
          | inr (inr (much, end)) ↦ end
        ],
      );
      taken = ends.taken;
    }

-- without a fault the end is by the length of the input
pub ends_so : (units : Units) → EndsBySize units
ends_so units size are bytes a runs none =
    let done = all_done units.opens (Continues units units.count [] 0 bytes) a runs none in
    let ends = goes_end units size are units.count [] 0 bytes done.after done.holds (faultless_after units.opens (Continues units units.count [] 0 bytes) a done none) in
    reports units.count size bytes a (ends_as size 0 units.count bytes a _ done.is (record { taken = ends.taken; by = ends.by }))
