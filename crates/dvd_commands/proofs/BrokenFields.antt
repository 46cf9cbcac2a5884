-- The field of a listed block that breaks a rule is found by going over its fields.
use Rattle.std.proofs.Common.{◌≡◌, ◌⊎◌, inl, inr, ℕ, zero, suc, ◌+◌, ◌-◌, ◌*◌, ◌<◌, ◌≤◌, ◌==◌, nat_le, Bool, true, false, cond, List, length, Option, Some, None, refl, ap, sym, subst, arith}
use Rattle.std.specs.Bool.{Decides}
use Rattle.std.proofs.lemmas.Bool.{cases_lt, eqb-true, eq-eqb, leb-true, le-leb}
use Rattle.std.proofs.lemmas.Bool.Decides.{Decides-and, Decides-ltb, Decides-or}
use Rattle.dvd_capture.specs.Listed.{BreaksLength, BreaksNumber, BreaksStart, HasBadField, end_of, length_of, run_count, start_of}
use Rattle.dvd_commands.specs.Captured.{broken_among, broken_at, broken_in_run, or_later}
use Rattle.dvd_commands.specs.Laws.{BrokenFieldIsFound}

-- it is the least number that has P, or none has it
abbrev IsLeast : (ℕ → Type 0) → Option ℕ → Type 0
IsLeast P (Some at) = P at × ((offset : ℕ) → P offset → at ≤ offset)
IsLeast P None = (offset : ℕ) → P offset → ⊥

-- the same of what P says otherwise
least_as : (P Q : ℕ → Type 0) → ((offset : ℕ) → P offset → Q offset) → ((offset : ℕ) → Q offset → P offset) → (x : Option ℕ) → IsLeast P x
    → IsLeast Q x
least_as P Q to from (Some at) least = (to at least.0, λ offset holds. least.1 offset (from offset holds))
least_as P Q to from None none = λ offset holds. none offset (from offset holds)

-- of two, where all numbers of one come before those of the other
least_either : (P Q : ℕ → Type 0) → ((a b : ℕ) → P a → Q b → a ≤ b) → (x y : Option ℕ) → IsLeast P x → IsLeast Q y
    → IsLeast (λ offset. P offset ⊎ Q offset) (or_later x y)
least_either P Q before (Some at) y p q = (
  inl p.0,
  λ offset either. elim either [
    | inl holds ↦ p.1 offset holds
    | inr holds ↦ before at offset p.0 holds
  ],
)
least_either P Q before None (Some at) p q = (
  inr q.0,
  λ offset either. elim either [
    | inl holds ↦ absurd (p offset holds)
    | inr holds ↦ q.1 offset holds
  ],
)
least_either P Q before None None p q = λ offset either. elim either [
  | inl holds ↦ p offset holds
  | inr holds ↦ q offset holds
]

-- of one number, which a test decides on
least_one : (P : Type 0) (at : ℕ) (test : Bool) → Decides test P → IsLeast (λ offset. (offset ≡ at) × P) (cond test (Some at) None)
least_one P at true decides = ((refl, decides.0 refl), λ offset holds. let is : offset ≡ at = holds.0 in omega (arith, is))
least_one P at false decides = λ offset holds. let no : false ≡ true = decides.1 holds.1 in cc

-- it is that, where there is one
least_is : (P : ℕ → Type 0) (x : Option ℕ) → IsLeast P x → (at : ℕ) → P at → ((offset : ℕ) → P offset → at ≤ offset) → x ≡ Some at
least_is P (Some own) least at holds first =
    let below = least.1 at holds in
    let above = first own least.0 in
    let is : own ≡ at = omega (arith, below, above) in
    ap Some is
least_is P None none at holds first = absurd (none at holds)

-- there is none where none has P
least_none : (P : ℕ → Type 0) (x : Option ℕ) → IsLeast P x → ((offset : ℕ) → P offset → ⊥) → x ≡ None
least_none P (Some at) least none = absurd (none at least.0)
least_none P None least none = refl

-- what two tests of numbers decide on
decides_le : (a b : ℕ) → Decides (nat_le a b) (a ≤ b)
decides_le a b = (leb-true a b, le-leb a b)

-- that two numbers are the same
decides_eq : (a b : ℕ) → Decides (a == b) (a ≡ b)
decides_eq a b = (eqb-true a b, eq-eqb a b)

module _ (bytes : List ℕ) where
  -- run i breaks a rule at an offset
  abbrev BreaksRun : ℕ → ℕ → Type 0
  BreaksRun i offset =
      ((offset ≡ 37_858 + 4 * i) × ((37_860 + 4 * i ≤ length bytes) × BreaksStart bytes i))
      ⊎ ((offset ≡ 37_860 + 4 * i) × ((37_862 + 4 * i ≤ length bytes) × BreaksLength bytes i))

  -- the number of runs does, or one of the first n runs
  abbrev BreaksAmong : ℕ → ℕ → Type 0
  BreaksAmong n offset = ((offset ≡ 37_856) × ((37_858 ≤ length bytes) × BreaksNumber bytes)) ⊎ ((i : ℕ) × (i < n) × BreaksRun i offset)

  -- the start of a run comes before its length
  start_before : (i a b : ℕ) → (a ≡ 37_858 + 4 * i) × ((37_860 + 4 * i ≤ length bytes) × BreaksStart bytes i)
      → (b ≡ 37_860 + 4 * i) × ((37_862 + 4 * i ≤ length bytes) × BreaksLength bytes i) → a ≤ b
  start_before i a b p q = let x = p.0 in let y = q.0 in omega (arith, x, y)

  -- two tests one after the other
  either_test : (first second : Bool) (a b : ℕ)
      → cond first (Some a) (cond second (Some b) None) ≡ or_later (cond first (Some a) None) (cond second (Some b) None)
  either_test true second a b = refl
  either_test false second a b = refl

  -- in a run the first such field is found
  run_least : (i : ℕ) → IsLeast (BreaksRun i) (broken_in_run bytes i)
  run_least i =
      let start = Decides-and _ _ (decides_le (37_860 + 4 * i) (length bytes))
      (Decides-or _ _ (decides_le 37_856 (start_of bytes i)) (Decides-and _ _ (Decides-ltb 0 i) (decides_le (start_of bytes i) (end_of bytes (i - 1))))) in
      let long = Decides-and _ _ (decides_le (37_862 + 4 * i) (length bytes)) (Decides-or _ _ (decides_eq (length_of bytes i) 0) (Decides-ltb 37_856 (end_of bytes i))) in
      subst (IsLeast (BreaksRun i)) (sym (either_test _ _ (37_858 + 4 * i) (37_860 + 4 * i)))
      (least_either _ _ (start_before i) _ _ (least_one _ (37_858 + 4 * i) _ start) (least_one _ (37_860 + 4 * i) _ long))

  -- a run comes after the number and the runs before it
  run_after : (n a b : ℕ) → BreaksAmong n a → BreaksRun n b → a ≤ b
  run_after n a b (inl number) (inl start) = let x = number.0 in let y = start.0 in omega (arith, x, y)
  run_after n a b (inl number) (inr long) = let x = number.0 in let y = long.0 in omega (arith, x, y)
  run_after n a b (inr (i, below, inl earlier)) (inl start) = let x = earlier.0 in let y = start.0 in omega (arith, x, y)
  run_after n a b (inr (i, below, inl earlier)) (inr long) = let x = earlier.0 in let y = long.0 in omega (arith, x, y)
  run_after n a b (inr (i, below, inr earlier)) (inl start) = let x = earlier.0 in let y = start.0 in omega (arith, x, y)
  run_after n a b (inr (i, below, inr earlier)) (inr long) = let x = earlier.0 in let y = long.0 in omega (arith, x, y)

  -- one run more
  more : (n offset : ℕ) → BreaksAmong n offset ⊎ BreaksRun n offset → BreaksAmong (suc n) offset
  more n offset (inl (inl number)) = inl number
  more n offset (inl (inr (i, below, run))) = inr (i, omega (arith, below), run)
  more n offset (inr run) = inr (n, omega arith, run)

  -- and one fewer
  fewer : (n offset : ℕ) → BreaksAmong (suc n) offset → BreaksAmong n offset ⊎ BreaksRun n offset
  fewer n offset (inl number) = inl (inl number)
  fewer n offset (inr (i, below, run)) = elim (cases_lt i n) [
    | inl less ↦ inl (inr (i, less, run))
    | inr le ↦ inr (let is : i ≡ n = omega (arith, below, le) in subst (λ j. BreaksRun j offset) is run)
  ]

  -- among the number and the first n runs the first such field is found
  among_least : (n : ℕ) → IsLeast (BreaksAmong n) (broken_among bytes n)
  unfolding broken_among
  among_least zero =
      let number = Decides-and _ _ (decides_le 37_858 (length bytes)) (Decides-ltb 18_928 (run_count bytes)) in
      least_as _ (BreaksAmong 0) (λ offset holds. inl holds) none_run _ (least_one _ 37_856 _ number)
    where
      none_run : (offset : ℕ) → BreaksAmong 0 offset → (offset ≡ 37_856) × ((37_858 ≤ length bytes) × BreaksNumber bytes)
      none_run offset (inl number) = number
      none_run offset (inr (i, below, run)) = absurd (omega (arith, below))
  among_least (suc n) = least_as _ (BreaksAmong (suc n)) (more n) (fewer n) _ (least_either _ _ (run_after n) _ _ (among_least n) (run_least n))

  -- such a field is one of the unit's that is wholly in the bytes
  is_bad : (offset : ℕ) → BreaksAmong (run_count bytes) offset → HasBadField bytes offset
  is_bad offset (inl (is, (is_there, breaks))) = (omega (arith, is, is_there), inl (is, breaks))
  is_bad offset (inr (i, below, inl (is, (is_there, breaks)))) = (omega (arith, is, is_there), inr (i, below, inl (is, breaks)))
  is_bad offset (inr (i, below, inr (is, (is_there, breaks)))) = (omega (arith, is, is_there), inr (i, below, inr (is, breaks)))

  -- and such a field of the unit is one of these
  bad_is : (offset : ℕ) → HasBadField bytes offset → BreaksAmong (run_count bytes) offset
  bad_is offset (is_there, inl (is, breaks)) = inl (is, (omega (arith, is, is_there), breaks))
  bad_is offset (is_there, inr (i, below, inl (is, breaks))) = inr (i, below, inl (is, (omega (arith, is, is_there), breaks)))
  bad_is offset (is_there, inr (i, below, inr (is, breaks))) = inr (i, below, inr (is, (omega (arith, is, is_there), breaks)))

  -- so the first such field of the unit is found
  found_least : IsLeast (HasBadField bytes) (broken_at bytes)
  found_least = least_as (BreaksAmong (run_count bytes)) (HasBadField bytes) is_bad bad_is (broken_at bytes) (among_least (run_count bytes))

-- this is what `broken_at` finds
pub broken_found : BrokenFieldIsFound
broken_found bytes =
    let least = found_least bytes in (
      λ at. (
        λ is. let own : IsLeast (HasBadField bytes) (Some at) = subst (IsLeast (HasBadField bytes)) is least in record { bad = own.0; first = own.1 },
        λ broken. least_is (HasBadField bytes) (broken_at bytes) least at broken.bad broken.first,
      ),
      (
        λ is. subst (IsLeast (HasBadField bytes)) is least,
        λ unbroken. least_none (HasBadField bytes) (broken_at bytes) least unbroken,
      ),
    )
