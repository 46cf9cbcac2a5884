-- The starts of runs among the marks of places.
use Rattle.std.proofs.Common.{◌≡◌, ◌⊎◌, ◌∙◌, ◌≢◌, ℕ, zero, suc, ◌+◌, ◌-◌, ◌*◌, ◌<◌, ◌≤◌, ◌==◌, ◌&&◌, ◌||◌, not, nat_le, if◌then◌else◌, Bool, true, false, inl, inr, refl, sym, ap, subst, arith}
use Rattle.std.proofs.lemmas.Bool.Decides.{eqb_tells, leb_tells, nat_tests}
use Rattle.dvd_capture.specs.Inner.Listing.{AreMarked, IsFound, starts_below}

-- one more where a run starts at place n
abbrev pub start_at : (ℕ → Bool) → ℕ → ℕ
start_at mark n = if mark n && ((n == 0) || not (mark (n - 1))) then 1 else 0

-- below place 0 no run starts
pub starts-none : (mark : ℕ → Bool) → starts_below mark 0 ≡ 0
unfolding starts_below
starts-none mark = refl

-- below place n + 1 as many start as below place n, and one more if one starts there
pub starts-suc : (mark : ℕ → Bool) (n : ℕ) → starts_below mark (suc n) ≡ starts_below mark n + start_at mark n
unfolding starts_below
starts-suc mark n = refl

-- the same, with n + 1 as a sum
pub starts-next : (mark : ℕ → Bool) (n : ℕ) → starts_below mark (n + 1) ≡ starts_below mark n + start_at mark n
starts-next mark n = let one : n + 1 ≡ suc n = omega arith in ap (starts_below mark) one ∙ starts-suc mark n

-- by the mark there and the one before
start-by : (mark : ℕ → Bool) (n : ℕ) (here before : Bool) → mark n ≡ here → mark (n - 1) ≡ before
    → start_at mark n ≡ (if here && ((n == 0) || not before) then 1 else 0)
start-by mark n here before is was = rw (is, was) refl

-- no run starts at an unmarked place
start-unmarked : (mark : ℕ → Bool) (n : ℕ) → mark n ≡ false → start_at mark n ≡ 0
start-unmarked mark n none = rw none refl

-- no run starts after a marked place
start-inside : (mark : ℕ → Bool) (n : ℕ) → 0 < n → mark (n - 1) ≡ true → start_at mark n ≡ 0
start-inside mark n past before = by_mark (mark n) refl where
  by_mark : (here : Bool) → mark n ≡ here → start_at mark n ≡ 0
  by_mark true is = start-by mark n true true is before ∙ grind (arith, nat_tests)
  by_mark false is = start-unmarked mark n is

-- a run starts at a marked place that is the first of all, or has an unmarked one before it
pub start-first : (mark : ℕ → Bool) (n : ℕ) → mark n ≡ true → (n ≡ 0) ⊎ (mark (n - 1) ≡ false) → start_at mark n ≡ 1
start-first mark n is (inl none) =
    let first : (n == 0) ≡ true = grind (arith, nat_tests) in
    start-by mark n true (mark (n - 1)) is refl ∙ ap (λ (t : Bool). if true && (t || not (mark (n - 1))) then 1 else 0) first
start-first mark n is (inr was) = start-by mark n true false is was ∙ either (n == 0) where
  either : (first : Bool) → ◌≡◌ {A = ℕ} (if true && (first || not false) then 1 else 0) 1
  either true = refl
  either false = refl

-- one run at most starts at a place
start-few : (mark : ℕ → Bool) (n : ℕ) → start_at mark n ≤ 1
start-few mark n = by_test (mark n && ((n == 0) || not (mark (n - 1)))) where
  by_test : (test : Bool) → (if test then 1 else 0) ≤ 1
  by_test true = omega arith
  by_test false = omega arith

-- no run starts among unmarked places, and none but the first among marked ones
pub starts-unmarked : (mark : ℕ → Bool) (from k : ℕ) → AreMarked mark false from (from + k) → starts_below mark (from + k) ≡ starts_below mark from
starts-unmarked mark from zero none = let e : from + 0 ≡ from = omega arith in ap (starts_below mark) e
starts-unmarked mark from (suc k) none =
    let e : from + suc k ≡ suc (from + k) = omega arith in
    let before = starts-unmarked mark from k (λ place least below. none place least (omega arith)) in
    let here = start-unmarked mark (from + k) (none (from + k) (omega arith) (omega arith)) in
    ap (starts_below mark) e ∙ starts-suc mark (from + k) ∙ omega (arith, before, here)

-- among marked places, those after the first start no run
pub starts-marked : (mark : ℕ → Bool) (from k : ℕ) → AreMarked mark true from (from + suc k) → starts_below mark (from + suc k) ≡ starts_below mark (from + 1)
starts-marked mark from zero all = refl
starts-marked mark from (suc k) all =
    let e : from + suc (suc k) ≡ suc (from + suc k) = omega arith in
    let before = starts-marked mark from k (λ place least below. all place least (omega arith)) in
    let here = start-inside mark (from + suc k) (omega arith) (all (from + suc k - 1) (omega arith) (omega arith)) in
    ap (starts_below mark) e ∙ starts-suc mark (from + suc k) ∙ omega (arith, before, here)

-- below a later place as many start, or more
pub starts-order : (mark : ℕ → Bool) (from k : ℕ) → starts_below mark from ≤ starts_below mark (from + k)
starts-order mark from zero = let e : from + 0 ≡ from = omega arith in let same = ap (starts_below mark) e in omega (arith, same)
starts-order mark from (suc k) =
    let e : from + suc k ≡ suc (from + k) = omega arith in
    let next = ap (starts_below mark) e ∙ starts-suc mark (from + k) in
    omega (arith, next, starts-order mark from k)

-- they are no more than every other place
abbrev IsHalf : (ℕ → Bool) → ℕ → Type 0
IsHalf mark n = (2 * starts_below mark (suc n) ≤ suc n + 1) × (mark n ≡ false → 2 * starts_below mark (suc n) ≤ suc n)

-- where it holds up to place n, twice the starts up to the next place are at most its places and one
half-next : (mark : ℕ → Bool) (n : ℕ) (b : Bool) → mark n ≡ b → IsHalf mark n → 2 * starts_below mark (suc (suc n)) ≤ suc (suc n) + 1
half-next mark n true was before =
    let same : suc n - 1 ≡ n = omega arith in
    let none = start-inside mark (suc n) (omega arith) (ap mark same ∙ was) in
    let next = starts-suc mark (suc n) in let b = before.0 in
    omega (arith, b, next, none)
half-next mark n false was before =
    let next = starts-suc mark (suc n) in let few = start-few mark (suc n) in let b = before.1 was in
    omega (arith, b, next, few)

-- so it holds up to each place
starts-half : (mark : ℕ → Bool) (n : ℕ) → IsHalf mark n
starts-half mark zero =
    let first = starts-suc mark 0 in let none = starts-none mark in let few = start-few mark 0 in (
      omega (arith, first, none, few),
      λ unmarked. let zero_here = start-unmarked mark 0 unmarked in omega (arith, first, none, zero_here),
    )
starts-half mark (suc n) =
    let before = starts-half mark n in let b = before.0 in let next = starts-suc mark (suc n) in (
      half-next mark n (mark n) refl before,
      λ unmarked. let zero_here = start-unmarked mark (suc n) unmarked in omega (arith, b, next, zero_here),
    )

-- a block has at most 18,928 runs, half as many as it has places
pub starts-few : (mark : ℕ → Bool) → starts_below mark 37_856 ≤ 18_928
starts-few mark = let half = starts-half mark 37_855 in let b = half.0 in omega (arith, b)

-- where no run starts any more, no place is marked any more
module _ (mark : ℕ → Bool) (from k : ℕ) (begin : (from ≡ 0) ⊎ (mark from ≡ false)) (before : AreMarked mark false from (from + k)) (no_start : start_at mark (from + k) ≡ 0) where
  -- the first of these places, where it is marked, is place 0, as else it would be unmarked
  at_first : k ≡ 0 → (from ≡ 0) ⊎ (mark from ≡ false) → mark (from + k) ≡ true → (from + k ≡ 0) ⊎ (mark (from + k - 1) ≡ false)
  at_first none (inl is) marked = inl (omega arith)
  at_first none (inr is) marked = absurd (let same_place : from + k ≡ from = omega arith in let other : true ≡ false = sym marked ∙ ap mark same_place ∙ is in cc)

  -- place from + k, where it is marked, is place 0 or has an unmarked one before it
  begins : (j : ℕ) → k ≡ j → mark (from + k) ≡ true → (from + k ≡ 0) ⊎ (mark (from + k - 1) ≡ false)
  begins zero none marked = at_first none begin marked
  begins (suc j) some marked = inr (before (from + k - 1) (omega arith) (omega arith))

  -- so a run would start at it; as none does, it is unmarked
  last : (here : Bool) → mark (from + k) ≡ here → mark (from + k) ≡ false
  last false is = is
  last true is = absurd (let one = start-first mark (from + k) is (begins k refl is) in omega (arith, one, no_start))

  -- each place from the first to this one is unmarked
  one_further : (place : ℕ) → from ≤ place → place < suc (from + k)
      → ((nat_le (suc place) (from + k) ≡ true) × (suc place ≤ from + k)) ⊎ ((nat_le (suc place) (from + k) ≡ false) × (from + k < suc place)) → mark place ≡ false
  one_further place least below (inl is) = before place least (omega (arith, is.1))
  one_further place least below (inr is) = let same_place : place ≡ from + k = omega (arith, is.1, below) in ap mark same_place ∙ last (mark (from + k)) refl

  -- so the unmarked places go on by one
  pub unmarked-further : AreMarked mark false from (suc (from + k))
  unmarked-further place least below = one_further place least below (leb_tells (suc place) (from + k))

-- where as many runs start below a later place, all places up to it are unmarked
pub none_left : (mark : ℕ → Bool) (from k : ℕ) → (from ≡ 0) ⊎ (mark from ≡ false) → starts_below mark (from + k) ≡ starts_below mark from
    → AreMarked mark false from (from + k)
none_left mark from zero begin same place least below = absurd (omega arith)
none_left mark from (suc k) begin same place least below =
    let e : from + suc k ≡ suc (from + k) = omega arith in
    let next = ap (starts_below mark) e ∙ starts-suc mark (from + k) in
    let order = starts-order mark from k in
    let before = none_left mark from k begin (omega (arith, next, same, order)) in
    let no_start : start_at mark (from + k) ≡ 0 = omega (arith, next, same, order) in
    unmarked-further mark from k begin before no_start place least (omega arith)

-- the next run starts at the first marked place from an end on, and ends at the first unmarked one after it
pub record IsNextRun (mark : ℕ → Bool) (end start next : ℕ) : Type 0 where
  pub starts : IsFound mark true end 37_856 start
  pub ends : IsFound mark false start 37_856 next

-- no test is both true and false
true_not_false : {A : Type 0} (b : Bool) → b ≡ true → b ≡ false → A
true_not_false true is not_is = absurd (cc)
true_not_false false is not_is = absurd (cc)

-- from the end of n runs to the next marked place no run starts
pub same_starts-before : (mark : ℕ → Bool) (n end start : ℕ) → starts_below mark end ≡ n → IsFound mark true end 37_856 start → starts_below mark start ≡ n
same_starts-before mark n end start counted starts =
    let k : end + (start - end) ≡ start = let b = starts.least in omega arith in
    ap (starts_below mark) (sym k) ∙ starts-unmarked mark end (start - end) (subst (AreMarked mark false end) (sym k) starts.passed) ∙ counted

-- THE NEXT RUN, after n runs the last of which ends there.
module _ (mark : ℕ → Bool) (n end start next : ℕ) (clear : 0 < end → end < 37_856 → mark end ≡ false) (counted : starts_below mark end ≡ n) (run : IsNextRun mark end start next) where
  module _ (inside : start < 37_856) where
    -- a place is marked where it starts and unmarked where the last one ends, so they differ
    begun_apart : (((end == start) ≡ true) × (end ≡ start)) ⊎ (((end == start) ≡ false) × (end ≢ start)) → 0 < end → end < start
    begun_apart (inl is) some = true_not_false (mark end) (ap mark is.1 ∙ run.starts.found inside) (clear some (omega (arith, is.1, inside)))
    begun_apart (inr is) some = let b = run.starts.least in let apart = is.1 in omega arith

    -- it starts above the end of the last one
    pub run-apart : 0 < end → end < start
    run-apart some = begun_apart (eqb_tells end start) some

    -- it has a place
    pub some-length : start < next
    some-length = by_next (leb_tells (suc start) next) where
      by_next : (((nat_le (suc start) next ≡ true) × (suc start ≤ next)) ⊎ ((nat_le (suc start) next ≡ false) × (next < suc start))) → start < next
      by_next (inl is) = omega (arith, is.1)
      by_next (inr is) =
          let o = run.ends.least in let same : next ≡ start = omega (arith, is.1, o) in
          true_not_false (mark start) (run.starts.found inside) (ap mark (sym same) ∙ run.ends.found (omega (arith, same, inside)))

    -- a run starts at its first place
    starts_here : start_at mark start ≡ 1
    starts_here = start-first mark start (run.starts.found inside) (by_start (leb_tells (suc end) start)) where
      by_start : (((nat_le (suc end) start ≡ true) × (suc end ≤ start)) ⊎ ((nat_le (suc end) start ≡ false) × (start < suc end))) → (start ≡ 0) ⊎ (mark (start - 1) ≡ false)
      by_start (inl is) = inr (run.starts.passed (start - 1) (omega (arith, is.1)) (omega (arith, is.1)))
      by_start (inr is) = inl (at_end (leb_tells 1 end)) where
        at_end : (((nat_le 1 end ≡ true) × (1 ≤ end)) ⊎ ((nat_le 1 end ≡ false) × (end < 1))) → start ≡ 0
        at_end (inl some) = let apart = run-apart (omega (arith, some.1)) in absurd (omega (arith, is.1, apart))
        at_end (inr none) = omega (arith, is.1, none.1)

    -- below its end, n + 1 runs start
    pub counted-next : starts_below mark next ≡ n + 1
    counted-next =
        let s = some-length in
        let k : start + suc (next - start - 1) ≡ next = omega (arith, s) in
        let first = starts-next mark start in let one = starts_here in let same = same_starts-before mark n end start counted run.starts in
        ap (starts_below mark) (sym k) ∙ starts-marked mark start (next - start - 1) (subst (AreMarked mark true start) (sym k) run.ends.passed) ∙ omega (arith, first, one, same)
