-- A set of marks has one spelling: its runs are its maximal intervals, so two lists of runs that mark the same places
-- are the same.
use Rattle.std.proofs.Common.{◌≡◌, ◌⊎◌, ◌∙◌, ℕ, zero, suc, ◌+◌, ◌-◌, ◌*◌, ◌/◌, ◌%◌, ◌<◌, ◌≤◌, ◌&&◌, ◌||◌, nat_le, nat_lt, Bool, true, false, List, [], length, take, drop, get_or, slice_index, inl, inr, refl, sym, ap, subst, arith}
use Rattle.std.proofs.lemmas.Bool.Decides.{leb_tells, nat_tests}
use Rattle.std.proofs.lemmas.Grind.{same_number_lists}
use Rattle.std.proofs.lemmas.List.{get_or-drop, get_or-take}
use Rattle.std.proofs.lemmas.List.FromFn.{get_or-map-range_with_len}
use Rattle.coding.specs.Recording.{record_at, row_at}
use Rattle.dvd_capture.specs.Captured.{IsUnitOf, captured_marks, captured_rows, record_marks, record_of}
use Rattle.dvd_capture.specs.Laws.{MarksHaveOneSpelling}
use Rattle.dvd_capture.specs.Listed.{end_of, field_at, length_of, mark_of, marked_by, run_count, start_of}
use Rattle.dvd_capture.specs.declared.form.Form.TheVariants.{Listed}
use Rattle.dvd_capture.proofs.Fetching.{record_at-row_at, row_at-lt}
use Rattle.dvd_capture.proofs.ListedFields.{marked_by-suc}

-- n runs by their starts and ends: each has a place, and another is between it and the next
pub record AreRuns (start end : ℕ → ℕ) (n : ℕ) : Type 0 where
  pub some : (i : ℕ) → i < n → start i < end i
  pub apart : (i : ℕ) → suc i < n → end i < start (suc i)
  pub within : (i : ℕ) → i < n → end i ≤ 37_856

-- one of them has the place
pub record HasPlace (start end : ℕ → ℕ) (n place : ℕ) : Type 0 where
  pub run : ℕ
  pub below : run < n
  pub from : start run ≤ place
  pub to : place < end run

module _ (start end : ℕ → ℕ) (n : ℕ) (are : AreRuns start end n) where
  -- a run before run j + 1 ends below its start: run j does, and those before run j end lower still
  by_last : (i j : ℕ) → i < suc j → suc j < n → (i < j → end i < start j)
      → (((nat_le (suc i) j ≡ true) × (suc i ≤ j)) ⊎ ((nat_le (suc i) j ≡ false) × (j < suc i))) → end i < start (suc j)
  by_last i j below inside before (inl is) = let b = before is.1 in let s = are.some j (omega arith) in let a = are.apart j inside in omega (arith, b, s, a)
  by_last i j below inside before (inr is) = let same : i ≡ j = omega (arith, below, is.1) in let a = are.apart j inside in subst (λ k. end k < start (suc j)) (sym same) a

  -- an earlier run ends below a later one
  pub earlier : (i j : ℕ) → i < j → j < n → end i < start j
  earlier i zero below inside = absurd (omega arith)
  earlier i (suc j) below inside = by_last i j below inside (λ nearer. earlier i j nearer (omega arith)) (leb_tells (suc i) j)

-- TWO LISTS that have the same places.
module _ (s e : ℕ → ℕ) (n : ℕ) (are : AreRuns s e n) (t f : ℕ → ℕ) (m : ℕ) (others : AreRuns t f m)
    (there : (place : ℕ) → place < 37_856 → HasPlace s e n place → HasPlace t f m place) where
  module _ (k : ℕ) (in_n : k < n) (same : (i : ℕ) → i < k → e i ≡ f i) where
    -- the other list's run with the first place of run k isn't before its run k, which so starts there or before
    from_run : (h : HasPlace t f m (s k)) → k < m
        → (((nat_le (suc h.run) k ≡ true) × (suc h.run ≤ k)) ⊎ ((nat_le (suc h.run) k ≡ false) × (k < suc h.run)))
        → (((nat_le (suc k) h.run ≡ true) × (suc k ≤ h.run)) ⊎ ((nat_le (suc k) h.run ≡ false) × (h.run < suc k))) → t k ≤ s k
    from_run h in_m (inl is) later = absurd (let b = earlier s e n are h.run k (omega (arith, is.1)) in_n in let eq = same h.run (omega (arith, is.1)) in omega (arith, b, eq, h.to))
    from_run h in_m (inr is) (inl later) = let b = earlier t f m others k h.run (omega (arith, later.1)) h.below in let o = others.some k in_m in omega (arith, b, o, h.from)
    from_run h in_m (inr is) (inr here) = let equal : h.run ≡ k = omega (arith, is.1, here.1) in subst (λ r. t r ≤ s k) equal h.from

    -- run k of the other starts there or before
    pub starts-before : k < m → t k ≤ s k
    starts-before in_m =
        let o = are.some k in_n in let w = are.within k in_n in
        let h = there (s k) (omega (arith, o, w)) (record { run = k; below = in_n; from = omega arith; to = o }) in
        from_run h in_m (leb_tells (suc h.run) k) (leb_tells (suc k) h.run)

    -- run k has a place that no earlier run of the other has
    none_earlier : (h : HasPlace t f m (s k)) → h.run < k → ⊥
    none_earlier h before = let b = earlier s e n are h.run k before in_n in let eq = same h.run before in omega (arith, b, eq, h.to)

    -- so the other list has a run k
    pub has-run : m ≤ k → ⊥
    has-run few =
        let o = are.some k in_n in let w = are.within k in_n in
        let h = there (s k) (omega (arith, o, w)) (record { run = k; below = in_n; from = omega arith; to = o }) in
        none_earlier h (let b = h.below in omega (arith, b, few))

    module _ (in_m : k < m) (starts : s k ≡ t k) where
      -- the place where run k of the other list ends is in none of its runs
      past_end : (h : HasPlace t f m (f k))
          → (((nat_le (suc h.run) k ≡ true) × (suc h.run ≤ k)) ⊎ ((nat_le (suc h.run) k ≡ false) × (k < suc h.run)))
          → (((nat_le (suc k) h.run ≡ true) × (suc k ≤ h.run)) ⊎ ((nat_le (suc k) h.run ≡ false) × (h.run < suc k))) → ⊥
      past_end h (inl is) later = let b = earlier t f m others h.run k (omega (arith, is.1)) in_m in let o = others.some k in_m in omega (arith, b, o, h.to)
      past_end h (inr is) (inl later) = let b = earlier t f m others k h.run (omega (arith, later.1)) h.below in omega (arith, b, h.from)
      past_end h (inr is) (inr here) = let equal : h.run ≡ k = omega (arith, is.1, here.1) in let to = subst (λ r. f k < f r) equal h.to in omega (arith, to)

      -- so run k of the first list has no place there
      no_longer : f k < e k → ⊥
      no_longer longer =
          let o = others.some k in_m in let w = are.within k in_n in
          let h = there (f k) (omega (arith, longer, w)) (record { run = k; below = in_n; from = omega (arith, starts, o); to = longer }) in
          past_end h (leb_tells (suc h.run) k) (leb_tells (suc k) h.run)

      -- and it ends there or after
      pub ends-before : e k ≤ f k
      ends-before = by_end (leb_tells (e k) (f k)) where
        by_end : (((nat_le (e k) (f k) ≡ true) × (e k ≤ f k)) ⊎ ((nat_le (e k) (f k) ≡ false) × (f k < e k))) → e k ≤ f k
        by_end (inl is) = is.1
        by_end (inr is) = absurd (no_longer is.1)

-- the first k runs of two lists have the same starts and ends
abbrev Agree : (s e t f : ℕ → ℕ) → ℕ → Type 0
Agree s e t f k = (i : ℕ) → i < k → (s i ≡ t i) × (e i ≡ f i)

module _ (s e : ℕ → ℕ) (n : ℕ) (are : AreRuns s e n) (t f : ℕ → ℕ) (m : ℕ) (others : AreRuns t f m)
    (there : (place : ℕ) → place < 37_856 → HasPlace s e n place → HasPlace t f m place)
    (back : (place : ℕ) → place < 37_856 → HasPlace t f m place → HasPlace s e n place) where
  -- where the first k runs agree, run k of both starts and ends alike
  run_agrees : (k : ℕ) → k < n → k < m → Agree s e t f k → (s k ≡ t k) × (e k ≡ f k)
  run_agrees k in_n in_m before =
      let ends = λ (i : ℕ) (below : i < k). (before i below).1 in
      let ends_back = λ (i : ℕ) (below : i < k). sym (before i below).1 in
      let low = starts-before s e n are t f m others there k in_n ends in_m in
      let high = starts-before t f m others s e n are back k in_m ends_back in_n in
      let starts : s k ≡ t k = omega (arith, low, high) in
      let short = ends-before s e n are t f m others there k in_n ends in_m starts in
      let long = ends-before t f m others s e n are back k in_m ends_back in_n (sym starts) in
      (starts, omega (arith, short, long))

  -- of k + 1 runs, the first k agree and the last does
  last_or_before : (k i : ℕ) → i < suc k → Agree s e t f k → (s k ≡ t k) × (e k ≡ f k)
      → (((nat_le (suc i) k ≡ true) × (suc i ≤ k)) ⊎ ((nat_le (suc i) k ≡ false) × (k < suc i))) → (s i ≡ t i) × (e i ≡ f i)
  last_or_before k i below before last (inl is) = before i is.1
  last_or_before k i below before last (inr is) = let same : k ≡ i = omega (arith, below, is.1) in subst (λ j. (s j ≡ t j) × (e j ≡ f j)) same last

  -- so all runs that both lists have agree
  pub agree : (k : ℕ) → k ≤ n → k ≤ m → Agree s e t f k
  agree zero in_n in_m i below = absurd (omega arith)
  agree (suc k) in_n in_m i below =
      let before = agree k (omega arith) (omega arith) in
      last_or_before k i below before (run_agrees k (omega arith) (omega arith) before) (leb_tells (suc i) k)

  -- and they are as many
  pub as-many : (((nat_le n m ≡ true) × (n ≤ m)) ⊎ ((nat_le n m ≡ false) × (m < n))) → (((nat_le m n ≡ true) × (m ≤ n)) ⊎ ((nat_le m n ≡ false) × (n < m))) → n ≡ m
  as-many (inl is) (inl other) = omega (arith, is.1, other.1)
  as-many (inr is) more = absurd (has-run s e n are t f m others there m is.1 (λ i below. (agree m (omega (arith, is.1)) (omega arith) i below).1) (omega arith))
  as-many (inl is) (inr other) = absurd (has-run t f m others s e n are back n other.1 (λ i below. sym (agree n (omega arith) (omega (arith, other.1)) i below).1) (omega arith))

-- THE RUNS OF A UNIT.
module _ (bytes : List ℕ) where
  -- a place that n + 1 runs mark, and n don't, is in the last of them
  last-place : (n place : ℕ) → marked_by bytes n place ≡ false → marked_by bytes (suc n) place ≡ true → HasPlace (start_of bytes) (end_of bytes) (suc n) place
  last-place n place none marked =
      let here : (nat_le (start_of bytes n) place && nat_lt place (end_of bytes n)) ≡ true =
      sym (ap (λ (b : Bool). b || (nat_le (start_of bytes n) place && nat_lt place (end_of bytes n))) none) ∙ sym (marked_by-suc bytes n place) ∙ marked in record {
        run = n;
        below = omega arith;
        from = grind (arith, nat_tests);
        to = grind (arith, nat_tests);
      }

  -- a place that is in one of n runs is in one of n + 1
  wider : (n place : ℕ) → HasPlace (start_of bytes) (end_of bytes) n place → HasPlace (start_of bytes) (end_of bytes) (suc n) place
  wider n place h = record { run = h.run; below = let b = h.below in omega arith; from = h.from; to = h.to }

  -- a place that n + 1 runs mark is in one of them, be it marked by the first n or not
  by_before : (n place : ℕ) (before : Bool) → marked_by bytes n place ≡ before → (marked_by bytes n place ≡ true → HasPlace (start_of bytes) (end_of bytes) n place)
      → marked_by bytes (suc n) place ≡ true → HasPlace (start_of bytes) (end_of bytes) (suc n) place
  by_before n place true is earlier_runs marked = wider n place (earlier_runs is)
  by_before n place false is earlier_runs marked = last-place n place is marked

  -- no runs mark no place
  none-marked : (place : ℕ) → marked_by bytes 0 place ≡ false
  unfolding marked_by
  none-marked place = refl

  -- a place that is marked is in a run
  pub has-place : (n place : ℕ) → marked_by bytes n place ≡ true → HasPlace (start_of bytes) (end_of bytes) n place
  has-place zero place marked = absurd (let other : false ≡ true = sym (none-marked place) ∙ marked in cc)
  has-place (suc n) place marked = by_before n place (marked_by bytes n place) refl (has-place n place) marked

  -- a place in one of n + 1 runs is marked, by the first n runs or by the last
  by_run : (n place : ℕ) (h : HasPlace (start_of bytes) (end_of bytes) (suc n) place) → (h.run < n → marked_by bytes n place ≡ true)
      → (((nat_le (suc h.run) n ≡ true) × (suc h.run ≤ n)) ⊎ ((nat_le (suc h.run) n ≡ false) × (n < suc h.run)))
      → (marked_by bytes n place || (nat_le (start_of bytes n) place && nat_lt place (end_of bytes n))) ≡ true
  by_run n place h earlier_runs (inl is) = let marked = earlier_runs is.1 in grind arith
  by_run n place h earlier_runs (inr is) =
      let b = h.below in let same : h.run ≡ n = omega (arith, is.1, b) in
      let from : start_of bytes n ≤ place = subst (λ r. start_of bytes r ≤ place) same h.from in
      let to : place < end_of bytes n = subst (λ r. place < end_of bytes r) same h.to in
      grind (arith, nat_tests)

  -- and one in a run is marked
  pub marks-place : (n place : ℕ) → HasPlace (start_of bytes) (end_of bytes) n place → marked_by bytes n place ≡ true
  marks-place zero place h = absurd (let b = h.below in omega arith)
  marks-place (suc n) place h =
      marked_by-suc bytes n place
      ∙ by_run n place h (λ before. marks-place n place (record { run = h.run; below = before; from = h.from; to = h.to })) (leb_tells (suc h.run) n)

module _ (rows : List (List ℕ)) (marks : List (List Bool)) (unit : List ℕ) (is : IsUnitOf rows marks unit) where
  -- the fields of each of its runs are in the unit
  is_there : (i offset : ℕ) → i < run_count unit → offset ≤ 37_860 + 4 * i → offset + 2 ≤ length unit
  is_there i offset below low = let size = is.size in omega (arith, size, below, low)

  -- as no rule is broken, each run has a place
  run-some : (i : ℕ) → i < run_count unit → (((nat_le 1 (length_of unit i) ≡ true) × (1 ≤ length_of unit i)) ⊎ ((nat_le 1 (length_of unit i) ≡ false) × (length_of unit i < 1))) → start_of unit i < end_of unit i
  run-some i below (inl has) = let h = has.1 in omega (arith, h)
  run-some i below (inr none) = let n = none.1 in
      absurd (is.valid (37_860 + 4 * i) (is_there i (37_860 + 4 * i) below (omega arith), inr (i, below, inr (refl, inl (omega (arith, n))))))

  -- each run ends within the block
  run-within : (i : ℕ) → i < run_count unit → (((nat_le (end_of unit i) 37_856 ≡ true) × (end_of unit i ≤ 37_856)) ⊎ ((nat_le (end_of unit i) 37_856 ≡ false) × (37_856 < end_of unit i))) → end_of unit i ≤ 37_856
  run-within i below (inl has) = has.1
  run-within i below (inr past) = absurd (is.valid (37_860 + 4 * i) (is_there i (37_860 + 4 * i) below (omega arith), inr (i, below, inr (refl, inr past.1))))

  -- and each run but the last ends below the start of the next
  run-apart : (i : ℕ) → suc i < run_count unit
      → (((nat_le (start_of unit (suc i)) (end_of unit i) ≡ true) × (start_of unit (suc i) ≤ end_of unit i)) ⊎ ((nat_le (start_of unit (suc i)) (end_of unit i) ≡ false) × (end_of unit i < start_of unit (suc i))))
      → end_of unit i < start_of unit (suc i)
  run-apart i below (inr apart) = apart.1
  run-apart i below (inl touching) =
      let before : suc i - 1 ≡ i = omega arith in
      absurd (is.valid (37_858 + 4 * suc i) (
        is_there (suc i) (37_858 + 4 * suc i) below (omega arith),
        inr (suc i, below, inl (refl, inr (omega arith, subst (λ j. start_of unit (suc i) ≤ end_of unit j) (sym before) touching.1))),
      ))

  -- so the runs of a unit are intervals with places between them
  pub unit-runs : AreRuns (start_of unit) (end_of unit) (run_count unit)
  unit-runs = record {
    some = λ i below. run-some i below (leb_tells 1 (length_of unit i));
    apart = λ i below. run-apart i below (leb_tells (start_of unit (suc i)) (end_of unit i));
    within = λ i below. run-within i below (leb_tells (end_of unit i) 37_856);
  }

  -- the marks of row i, as the unit has them
  row_marks : ℕ → List Bool
  row_marks i = record_marks Listed unit (record_at i)

  -- the mark of place j of recorded row m, as the unit's runs have it
  place_marks : ℕ → ℕ → Bool
  place_marks m j = marked_by unit (run_count unit) (182 * m + j)

  -- the mark of a place is that of its run
  pub unit-mark : (place : ℕ) → place < 37_856 → mark_of marks place ≡ marked_by unit (run_count unit) place
  unfolding captured_marks row_marks place_marks
  unit-mark place below =
      let m : row_at (place / 182) < 208 = row_at-lt (place / 182) (omega arith) in
      let whole : 182 * (place / 182) + place % 182 ≡ place = omega arith in
      ap (λ (all : List (List Bool)). mark_of all place) (sym is.marks_are)
      ∙ ap (λ (l : List Bool). get_or l (place % 182) false) (get_or-map-range_with_len row_marks 0 208 (row_at (place / 182)) (row_at (place / 182)) [] m (omega arith))
      ∙ get_or-map-range_with_len (place_marks (record_at (row_at (place / 182)))) 0 182 (place % 182) (place % 182) false (omega arith) (omega arith)
      ∙ ap (λ r. marked_by unit (run_count unit) (182 * r + place % 182)) (record_at-row_at (place / 182) (omega arith))
      ∙ ap (marked_by unit (run_count unit)) whole

  -- the bytes of row i, as the unit has them
  row_bytes : ℕ → List ℕ
  row_bytes i = take 182 (record_of Listed unit (record_at i))

  -- and the byte of a place is that of its row
  pub unit-byte : (place : ℕ) → place < 37_856 → slice_index unit place ≡ get_or (get_or rows (row_at (place / 182)) []) (place % 182) 0
  unfolding captured_rows row_bytes
  unit-byte place below =
      let m : row_at (place / 182) < 208 = row_at-lt (place / 182) (omega arith) in
      let whole : 182 * record_at (row_at (place / 182)) + place % 182 ≡ place = ap (λ r. 182 * r + place % 182) (record_at-row_at (place / 182) (omega arith)) ∙ omega arith in
      sym (ap (λ (all : List (List ℕ)). get_or (get_or all (row_at (place / 182)) []) (place % 182) 0) (sym is.rows_are)
      ∙ ap (λ (l : List ℕ). get_or l (place % 182) 0) (get_or-map-range_with_len row_bytes 0 208 (row_at (place / 182)) (row_at (place / 182)) [] m (omega arith))
      ∙ get_or-take 182 (record_of Listed unit (record_at (row_at (place / 182)))) (place % 182) 0 (omega arith)
      ∙ get_or-take 182 (drop (182 * record_at (row_at (place / 182))) unit) (place % 182) 0 (omega arith)
      ∙ get_or-drop (182 * record_at (row_at (place / 182))) unit (place % 182) 0
      ∙ ap (λ p. get_or unit p 0) whole)

-- TWO UNITS of the same rows and marks.
module _ (rows : List (List ℕ)) (marks : List (List Bool)) (a b : List ℕ)
    (is_a : IsUnitOf rows marks a) (is_b : IsUnitOf rows marks b) where
  -- a place in a run of the first unit is marked, so it is in a run of the second
  across : (place : ℕ) → place < 37_856 → HasPlace (start_of a) (end_of a) (run_count a) place → HasPlace (start_of b) (end_of b) (run_count b) place
  across place below h =
      has-place b (run_count b) place (sym (unit-mark rows marks b is_b place below) ∙ unit-mark rows marks a is_a place below ∙ marks-place a (run_count a) place h)

  -- and one in a run of the second is in a run of the first
  across_back : (place : ℕ) → place < 37_856 → HasPlace (start_of b) (end_of b) (run_count b) place → HasPlace (start_of a) (end_of a) (run_count a) place
  across_back place below h =
      has-place a (run_count a) place (sym (unit-mark rows marks a is_a place below) ∙ unit-mark rows marks b is_b place below ∙ marks-place b (run_count b) place h)

  -- so the two units have as many runs
  counts : run_count a ≡ run_count b
  counts = as-many (start_of a) (end_of a) (run_count a) (unit-runs rows marks a is_a) (start_of b) (end_of b) (run_count b) (unit-runs rows marks b is_b) across across_back
      (leb_tells (run_count a) (run_count b)) (leb_tells (run_count b) (run_count a))

  -- and the same runs: run i starts and ends alike in both
  runs_agree : (i : ℕ) → i < run_count a → (start_of a i ≡ start_of b i) × (end_of a i ≡ end_of b i)
  runs_agree i below =
      let c = counts in
      agree (start_of a) (end_of a) (run_count a) (unit-runs rows marks a is_a) (start_of b) (end_of b) (run_count b) (unit-runs rows marks b is_b) across across_back
      (run_count a) (omega arith) (omega (arith, c)) i below

  -- fields that are the same have the same bytes
  first_byte : (offset : ℕ) → 37_856 ≤ offset → field_at a offset ≡ field_at b offset → slice_index a offset ≡ slice_index b offset
  unfolding field_at
  first_byte offset farther same =
      let next : 37_856 ≤ offset + 1 = omega (arith, farther) in
      let x = is_a.fields offset farther in let y = is_b.fields offset farther in
      let z = is_a.fields (offset + 1) next in let w = is_b.fields (offset + 1) next in omega (arith, same, x, y, z, w)

  -- the byte after the first one of the field
  second_byte : (offset : ℕ) → 37_856 ≤ offset → field_at a offset ≡ field_at b offset → slice_index a (offset + 1) ≡ slice_index b (offset + 1)
  unfolding field_at
  second_byte offset farther same =
      let next : 37_856 ≤ offset + 1 = omega (arith, farther) in
      let x = is_a.fields offset farther in let y = is_b.fields offset farther in
      let z = is_a.fields (offset + 1) next in let w = is_b.fields (offset + 1) next in omega (arith, same, x, y, z, w)

  -- so either byte of such a field is the same
  in_field : (k offset : ℕ) → 37_856 ≤ offset → field_at a offset ≡ field_at b offset → (k ≡ offset) ⊎ (k ≡ offset + 1) → slice_index a k ≡ slice_index b k
  in_field k offset farther same (inl is) = subst (λ j. slice_index a j ≡ slice_index b j) (sym is) (first_byte offset farther same)
  in_field k offset farther same (inr is) = subst (λ j. slice_index a j ≡ slice_index b j) (sym is) (second_byte offset farther same)

  -- a byte of a field is its first or its second
  one_of_two : (k offset : ℕ) → offset ≤ k → k < offset + 2 → (((nat_le (suc k) (offset + 1) ≡ true) × (suc k ≤ offset + 1)) ⊎ ((nat_le (suc k) (offset + 1) ≡ false) × (offset + 1 < suc k))) → (k ≡ offset) ⊎ (k ≡ offset + 1)
  one_of_two k offset low high (inl is) = inl (omega (arith, is.1, low))
  one_of_two k offset low high (inr is) = inr (omega (arith, is.1, high))

  -- a byte of a field that both units have alike is the same in both
  field_byte : (k offset : ℕ) → 37_856 ≤ offset → offset ≤ k → k < offset + 2 → field_at a offset ≡ field_at b offset → slice_index a k ≡ slice_index b k
  field_byte k offset farther low high same = in_field k offset farther same (one_of_two k offset low high (leb_tells (suc k) (offset + 1)))

  -- a byte of run i
  run_byte : (k i : ℕ) → i < run_count a → 37_858 + 4 * i ≤ k → k < 37_862 + 4 * i
      → (((nat_le (37_860 + 4 * i) k ≡ true) × (37_860 + 4 * i ≤ k)) ⊎ ((nat_le (37_860 + 4 * i) k ≡ false) × (k < 37_860 + 4 * i))) → slice_index a k ≡ slice_index b k
  run_byte k i below low high (inr is) = field_byte k (37_858 + 4 * i) (omega arith) low (omega (arith, is.1)) (runs_agree i below).0
  run_byte k i below low high (inl is) =
      let starts = (runs_agree i below).0 in let ends = (runs_agree i below).1 in
      field_byte k (37_860 + 4 * i) (omega arith) is.1 (omega arith) (omega (arith, starts, ends))

  -- a byte after the number of runs is the same, being one of a run
  behind_number : (k : ℕ) → k < length a → 37_858 ≤ k → slice_index a k ≡ slice_index b k
  behind_number k within low =
      let size = is_a.size in
      run_byte k ((k - 37_858) / 4) (omega (arith, size)) (omega arith) (omega arith) (leb_tells (37_860 + 4 * ((k - 37_858) / 4)) k)

  -- a byte after the rows is the same, being one of the number or of a run
  by_number : (k : ℕ) → k < length a → 37_856 ≤ k → (((nat_le 37_858 k ≡ true) × (37_858 ≤ k)) ⊎ ((nat_le 37_858 k ≡ false) × (k < 37_858))) → slice_index a k ≡ slice_index b k
  by_number k within low (inl is) = behind_number k within is.1
  by_number k within low (inr is) = field_byte k 37_856 (omega arith) low (omega (arith, is.1)) counts

  -- any byte is the same, being one of a row, of the number or of a run
  each : (k : ℕ) → k < length a → (((nat_le 37_856 k ≡ true) × (37_856 ≤ k)) ⊎ ((nat_le 37_856 k ≡ false) × (k < 37_856))) → slice_index a k ≡ slice_index b k
  each k within (inl is) = by_number k within is.1 (leb_tells 37_858 k)
  each k within (inr is) = unit-byte rows marks a is_a k is.1 ∙ sym (unit-byte rows marks b is_b k is.1)

  -- so the two units are the same bytes
  pub units-same : a ≡ b
  units-same =
      let c = counts in let size_a = is_a.size in let size_b = is_b.size in
      same_number_lists a b (omega (arith, size_a, size_b, c)) (λ k within. each k within (leb_tells 37_856 k))

-- rows and marks have at most one listed unit
pub one_spelling : MarksHaveOneSpelling
one_spelling rows marks a b is_a is_b = units-same rows marks a b is_a is_b
