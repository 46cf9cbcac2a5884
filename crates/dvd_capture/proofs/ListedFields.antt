-- The fields of a listed unit while they come one after the other.
use Rattle.std.proofs.Common.{◌≡◌, ◌⊎◌, ◌∙◌, ℕ, zero, suc, ◌+◌, ◌-◌, ◌*◌, ◌<◌, ◌≤◌, ◌&&◌, ◌||◌, nat_le, nat_lt, Bool, true, false, List, ◌++◌, length, get_or, slice_index, inl, inr, refl, sym, ap, subst, arith, length-append}
use Rattle.std.proofs.lemmas.Bool.Decides.{leb_tells}
use Rattle.std.proofs.lemmas.List.{get_or_append_left, get_or-append-add}
use Rattle.dvd_capture.specs.Listed.{BreaksLength, BreaksStart, HasBadField, IsBrokenAt, IsUnbroken, end_of, field_at, length_of, listed_size, marked_by, run_count, start_of}
use Rattle.dvd_capture.specs.Inner.Listing.{HasRuns, IsCut}

-- a field that is wholly in bytes stays when they grow
pub field_at-append : (a b : List ℕ) (offset : ℕ) → offset + 2 ≤ length a → field_at (a ++ b) offset ≡ field_at a offset
unfolding field_at
field_at-append a b offset within =
    let first : slice_index (a ++ b) offset ≡ slice_index a offset = get_or_append_left a b 0 offset (omega arith) in
    let second : slice_index (a ++ b) (offset + 1) ≡ slice_index a (offset + 1) = get_or_append_left a b 0 (offset + 1) (omega arith) in
    omega (arith, first, second)

-- the field that is so far after them
pub field_at-after : (a b : List ℕ) (offset k : ℕ) → length a + k ≡ offset → field_at (a ++ b) offset ≡ field_at b k
unfolding field_at
field_at-after a b offset k size =
    let next : offset + 1 ≡ length a + (k + 1) = omega arith in
    let first : get_or (a ++ b) offset 0 ≡ get_or b k 0 = ap (λ n. get_or (a ++ b) n 0) (sym size) ∙ get_or-append-add a b k 0 in
    let second : get_or (a ++ b) (offset + 1) 0 ≡ get_or b (k + 1) 0 = ap (λ n. get_or (a ++ b) n 0) next ∙ get_or-append-add a b (k + 1) 0 in
    omega (arith, first, second)

-- MORE BYTES after bytes in which a field breaks a rule.
module _ (a b : List ℕ) where
  -- the rules of a field that is wholly in the first bytes speak of these alone
  count-kept : 37_858 ≤ length a → run_count (a ++ b) ≡ run_count a
  count-kept within = field_at-append a b 37_856 within

  start-kept : (i : ℕ) → 37_860 + 4 * i ≤ length a → start_of (a ++ b) i ≡ start_of a i
  start-kept i within = field_at-append a b (37_858 + 4 * i) (omega arith)

  end-kept : (i : ℕ) → 37_862 + 4 * i ≤ length a → end_of (a ++ b) i ≡ end_of a i
  end-kept i within =
      let start = start-kept i (omega arith) in
      let long : length_of (a ++ b) i ≡ length_of a i = field_at-append a b (37_860 + 4 * i) (omega arith) in
      omega (arith, start, long)

  length-kept : (i : ℕ) → 37_862 + 4 * i ≤ length a → length_of (a ++ b) i ≡ length_of a i
  length-kept i within = field_at-append a b (37_860 + 4 * i) (omega arith)

  bad-more : (offset : ℕ) → HasBadField a offset → HasBadField (a ++ b) offset
  bad-more offset (is_there, inl (is, number)) =
      let same = count-kept (omega (arith, is_there, is)) in (omega (arith, is_there, length-append a b), inl (is, omega (arith, number, same)))
  bad-more offset (is_there, inr (i, below, inl (is, inl high))) =
      let count = count-kept (omega (arith, is_there, is)) in let same = start-kept i (omega (arith, is_there, is)) in
      (omega (arith, is_there, length-append a b), inr (i, omega (arith, below, count), inl (is, inl (omega (arith, high, same)))))
  bad-more offset (is_there, inr (i, below, inl (is, inr (some, touching)))) =
      let count = count-kept (omega (arith, is_there, is)) in let same = start-kept i (omega (arith, is_there, is)) in
      let before = end-kept (i - 1) (omega (arith, is_there, is, some)) in
      (omega (arith, is_there, length-append a b), inr (i, omega (arith, below, count), inl (is, inr (some, omega (arith, touching, same, before)))))
  bad-more offset (is_there, inr (i, below, inr (is, inl none))) =
      let count = count-kept (omega (arith, is_there, is)) in let same = length-kept i (omega (arith, is_there, is)) in
      (omega (arith, is_there, length-append a b), inr (i, omega (arith, below, count), inr (is, inl (omega (arith, none, same)))))
  bad-more offset (is_there, inr (i, below, inr (is, inr past))) =
      let count = count-kept (omega (arith, is_there, is)) in let same = end-kept i (omega (arith, is_there, is)) in
      (omega (arith, is_there, length-append a b), inr (i, omega (arith, below, count), inr (is, inr (omega (arith, past, same)))))

  bad-before : (offset : ℕ) → offset + 2 ≤ length a → HasBadField (a ++ b) offset → HasBadField a offset
  bad-before offset is_there (whole, inl (is, number)) =
      let same = count-kept (omega (arith, is_there, is)) in (is_there, inl (is, omega (arith, number, same)))
  bad-before offset is_there (whole, inr (i, below, inl (is, inl high))) =
      let count = count-kept (omega (arith, is_there, is)) in let same = start-kept i (omega (arith, is_there, is)) in
      (is_there, inr (i, omega (arith, below, count), inl (is, inl (omega (arith, high, same)))))
  bad-before offset is_there (whole, inr (i, below, inl (is, inr (some, touching)))) =
      let count = count-kept (omega (arith, is_there, is)) in let same = start-kept i (omega (arith, is_there, is)) in
      let before = end-kept (i - 1) (omega (arith, is_there, is, some)) in
      (is_there, inr (i, omega (arith, below, count), inl (is, inr (some, omega (arith, touching, same, before)))))
  bad-before offset is_there (whole, inr (i, below, inr (is, inl none))) =
      let count = count-kept (omega (arith, is_there, is)) in let same = length-kept i (omega (arith, is_there, is)) in
      (is_there, inr (i, omega (arith, below, count), inr (is, inl (omega (arith, none, same)))))
  bad-before offset is_there (whole, inr (i, below, inr (is, inr past))) =
      let count = count-kept (omega (arith, is_there, is)) in let same = end-kept i (omega (arith, is_there, is)) in
      (is_there, inr (i, omega (arith, below, count), inr (is, inr (omega (arith, past, same)))))

  -- so the first of them stays the first
  pub broken-more : (at : ℕ) → IsBrokenAt a at → IsBrokenAt (a ++ b) at
  broken-more at broken = record {
    bad = bad-more at broken.bad;
    first = λ offset bad. elim (leb_tells at offset) [
      | inl later ↦ later.1
      | inr earlier ↦ let e = earlier.1 in let is_there = broken.bad.0 in broken.first offset (bad-before offset (omega (arith, e, is_there)) bad)
    ];
  }

-- before a unit's first field is whole nothing is broken
pub early-unbroken : (bytes : List ℕ) → length bytes < 37_858 → IsUnbroken bytes
early-unbroken bytes few offset (is_there, inl (is, number)) = omega arith
early-unbroken bytes few offset (is_there, inr (i, below, inl (is, start))) = omega arith
early-unbroken bytes few offset (is_there, inr (i, below, inr (is, long))) = omega arith

-- and the unit has more bytes, so it is cut
pub early-cut : (bytes : List ℕ) → length bytes < 37_858 → IsCut bytes
early-cut bytes few = record { fewer = omega arith; unbroken = early-unbroken bytes few }

-- where only the number of runs has come, only it may break a rule
module _ (bytes : List ℕ) (size : length bytes ≡ 37_858) where
  -- with at most 18,928 runs no rule is broken
  pub number-unbroken : run_count bytes ≤ 18_928 → IsUnbroken bytes
  number-unbroken few offset (is_there, inl (is, number)) = omega arith
  number-unbroken few offset (is_there, inr (i, below, inl (is, start))) = omega arith
  number-unbroken few offset (is_there, inr (i, below, inr (is, long))) = omega arith

  -- a field that breaks a rule is the number of runs, or comes after it
  number-first : (offset : ℕ) → HasBadField bytes offset → 37_856 ≤ offset
  number-first offset (is_there, inl (is, number)) = omega arith
  number-first offset (is_there, inr (i, below, inl (is, start))) = omega arith
  number-first offset (is_there, inr (i, below, inr (is, long))) = omega arith

  -- with more runs the first field that breaks a rule is their number
  pub number-broken : 18_928 < run_count bytes → IsBrokenAt bytes 37_856
  number-broken many = record { bad = (omega arith, inl (refl, many)); first = number-first }

-- a place is marked by n + 1 runs if it is by the first n, or is in run n
pub marked_by-suc : (bytes : List ℕ) (n place : ℕ) → marked_by bytes (suc n) place ≡ (marked_by bytes n place || (nat_le (start_of bytes n) place && nat_lt place (end_of bytes n)))
unfolding marked_by
marked_by-suc bytes n place = refl

-- what the first n runs mark stays
pub marked_by-append : (a b : List ℕ) (n place : ℕ) → 37_858 + 4 * n ≤ length a → marked_by (a ++ b) n place ≡ marked_by a n place
unfolding marked_by
marked_by-append a b zero place within = refl
marked_by-append a b (suc n) place within =
    let before = marked_by-append a b n place (omega arith) in
    let start : start_of (a ++ b) n ≡ start_of a n = field_at-append a b (37_858 + 4 * n) (omega arith) in
    let long : length_of (a ++ b) n ≡ length_of a n = field_at-append a b (37_860 + 4 * n) (omega arith) in
    rw (before, start, long) refl

-- AFTER n runs. What may break a rule in more bytes is the start of run n and its length.
module _ (bytes own : List ℕ) (count n end : ℕ) (mark : ℕ → Bool) (has : HasRuns bytes count n end mark) where
  -- their number of runs stays when more bytes come
  pub same-count : run_count (bytes ++ own) ≡ count
  same-count = field_at-append bytes own 37_856 (let s = has.size in omega arith) ∙ has.number

  -- the start and the length of each run before n stay as well
  earlier : (i : ℕ) → i < n → (start_of (bytes ++ own) i ≡ start_of bytes i) × (length_of (bytes ++ own) i ≡ length_of bytes i)
  earlier i below = let s = has.size in
      (field_at-append bytes own (37_858 + 4 * i) (omega arith), field_at-append bytes own (37_860 + 4 * i) (omega arith))

  -- so the last of the n runs ends where it did
  pub end-same : 0 < n → end_of (bytes ++ own) (n - 1) ≡ end
  end-same some = let before = earlier (n - 1) (omega arith) in let last = has.last some in omega (arith, before.0, before.1, last)

  -- an earlier run breaks no rule
  start-fine : (i : ℕ) → i < n → i < count → BreaksStart (bytes ++ own) i → ⊥
  start-fine i below inside (inl high) =
      let s = has.size in let same = earlier i below in
      has.unbroken (37_858 + 4 * i) (omega arith, inr (i, omega (arith, inside, has.number), inl (refl, inl (omega (arith, high, same.0)))))
  start-fine i below inside (inr touching) =
      let s = has.size in let same = earlier i below in let before = earlier (i - 1) (omega arith) in
      has.unbroken (37_858 + 4 * i) (omega arith, inr (i, omega (arith, inside, has.number), inl (refl, inr (touching.0, omega (arith, touching.1, same.0, before.0, before.1)))))

  -- nor does its length break a rule
  length-fine : (i : ℕ) → i < n → i < count → BreaksLength (bytes ++ own) i → ⊥
  length-fine i below inside (inl none) =
      let s = has.size in let same = earlier i below in
      has.unbroken (37_860 + 4 * i) (omega arith, inr (i, omega (arith, inside, has.number), inr (refl, inl (omega (arith, none, same.1)))))
  length-fine i below inside (inr past) =
      let s = has.size in let same = earlier i below in
      has.unbroken (37_860 + 4 * i) (omega arith, inr (i, omega (arith, inside, has.number), inr (refl, inr (omega (arith, past, same.0, same.1)))))

  -- the field of run n that breaks a rule
  abbrev pub IsNext : ℕ → Type 0
  IsNext offset =
      ((offset ≡ 37_858 + 4 * n) × (2 ≤ length own) × BreaksStart (bytes ++ own) n)
      ⊎ ((offset ≡ 37_860 + 4 * n) × (4 ≤ length own) × BreaksLength (bytes ++ own) n)

  -- the unit's bytes so far: the rows, the number of runs, four bytes for each of n runs, and those that came
  grown : length (bytes ++ own) ≡ 37_858 + 4 * n + length own
  grown = let s = has.size in omega (arith, length-append bytes own, s)

  -- where a field of any run breaks a rule, it is run n, as the earlier ones break none
  run-is : (Breaks : ℕ → Type 0) → ((i : ℕ) → i < n → i < count → Breaks i → ⊥) → (i : ℕ) → length own ≤ 4 → 37_860 + 4 * i ≤ length (bytes ++ own) → i < count → Breaks i
      → (((nat_le (suc i) n ≡ true) × (suc i ≤ n)) ⊎ ((nat_le (suc i) n ≡ false) × (n < suc i))) → i ≡ n
  run-is Breaks fine i few is_there inside breaks (inl below) = absurd (fine i (omega (arith, below.1)) inside breaks)
  run-is Breaks fine i few is_there inside breaks (inr above) = omega (arith, above.1, grown)

  -- at most four bytes after n runs, a field that breaks a rule is the start of run n or its length
  pub next-bad : length own ≤ 4 → (offset : ℕ) → HasBadField (bytes ++ own) offset → IsNext offset
  next-bad few offset (is_there, inl (is, number)) =
      let s = has.size in let same = same-count in
      absurd (has.unbroken offset (omega arith, inl (is, omega (arith, number, same, has.number))))
  next-bad few offset (is_there, inr (i, below, inl (is, start))) =
      let inside : i < count = omega (arith, below, same-count) in
      let same = run-is (BreaksStart (bytes ++ own)) start-fine i few (omega (arith, is_there, is)) inside start (leb_tells (suc i) n) in
      inl (omega (arith, is, same), omega (arith, is_there, is, same, grown), subst (BreaksStart (bytes ++ own)) same start)
  next-bad few offset (is_there, inr (i, below, inr (is, long))) =
      let inside : i < count = omega (arith, below, same-count) in
      let same = run-is (BreaksLength (bytes ++ own)) length-fine i few (omega (arith, is_there, is)) inside long (leb_tells (suc i) n) in
      inr (omega (arith, is, same), omega (arith, is_there, is, same, grown), subst (BreaksLength (bytes ++ own)) same long)

  -- what run n is, by its own bytes
  start-is : start_of (bytes ++ own) n ≡ field_at own 0
  start-is = field_at-after bytes own (37_858 + 4 * n) 0 (let s = has.size in omega arith)

  -- its length is the second field after the n runs
  length-is : length_of (bytes ++ own) n ≡ field_at own 2
  length-is = field_at-after bytes own (37_860 + 4 * n) 2 (let s = has.size in omega arith)

  -- a start above the end of the run before
  abbrev pub IsFine : ℕ → Type 0
  IsFine start = (start < 37_856) × (0 < n → end < start)

  -- such a start breaks no rule
  start-valid : IsFine (field_at own 0) → BreaksStart (bytes ++ own) n → ⊥
  start-valid fine (inl high) = let is = start-is in let f = fine.0 in omega (arith, is, f, high)
  start-valid fine (inr (some, touching)) = let is = start-is in let f = fine.1 some in let e = end-same some in omega (arith, is, f, e, touching)

  module _ (below : n < count) where
    -- a unit with a run n has more bytes, while fewer than four came after the runs before
    more-to-come : length own < 4 → length (bytes ++ own) < listed_size (bytes ++ own)
    more-to-come few = let g = grown in let c = same-count in omega (arith, g, c)

    -- before the start of run n is whole, no field of it breaks a rule
    no-start : length own < 2 → (offset : ℕ) → IsNext offset → ⊥
    no-start few offset (inl (is, is_there, breaks)) = omega arith
    no-start few offset (inr (is, is_there, breaks)) = omega arith

    -- the unit is cut within the start of run n
    pub cut-in-start : length own < 2 → IsCut (bytes ++ own)
    cut-in-start few = record {
      fewer = more-to-come (omega arith);
      unbroken = λ offset bad. no-start few offset (next-bad (omega arith) offset bad);
    }

    -- before the length of run n is whole, and with a start that breaks no rule, no field of it breaks one
    no-length : length own < 4 → IsFine (field_at own 0) → (offset : ℕ) → IsNext offset → ⊥
    no-length few fine offset (inl (is, is_there, breaks)) = start-valid fine breaks
    no-length few fine offset (inr (is, is_there, breaks)) = omega arith

    -- or within its length
    pub cut-in-length : length own < 4 → IsFine (field_at own 0) → IsCut (bytes ++ own)
    cut-in-length few fine = record {
      fewer = more-to-come few;
      unbroken = λ offset bad. no-length few fine offset (next-bad (omega arith) offset bad);
    }

    -- a start after the block's last place, or not above the end of the run before, breaks a rule
    breaks-start : (37_856 ≤ field_at own 0) ⊎ ((0 < n) × (field_at own 0 ≤ end)) → BreaksStart (bytes ++ own) n
    breaks-start (inl high) = let is = start-is in inl (omega (arith, is, high))
    breaks-start (inr (some, touching)) = let is = start-is in let e = end-same some in inr (some, omega (arith, is, e, touching))

    -- no field before the start of run n breaks a rule
    first-next : (offset : ℕ) → IsNext offset → 37_858 + 4 * n ≤ offset
    first-next offset (inl (is, is_there, breaks)) = omega arith
    first-next offset (inr (is, is_there, breaks)) = omega arith

    -- its start breaks a rule
    pub broken-start : length own ≡ 2 → (37_856 ≤ field_at own 0) ⊎ ((0 < n) × (field_at own 0 ≤ end)) → IsBrokenAt (bytes ++ own) (37_858 + 4 * n)
    broken-start size breaks = let g = grown in let c = same-count in record {
      bad = (omega (arith, g), inr (n, omega (arith, below, c), inl (refl, breaks-start breaks)));
      first = λ offset bad. first-next offset (next-bad (omega arith) offset bad);
    }

    -- a length of no place, or beyond the block's last place, breaks a rule
    breaks-length : (field_at own 2 ≡ 0) ⊎ (37_856 < field_at own 0 + field_at own 2) → BreaksLength (bytes ++ own) n
    breaks-length (inl none) = let is = length-is in inl (omega (arith, is, none))
    breaks-length (inr past) = let is = length-is in let s = start-is in inr (omega (arith, is, s, past))

    -- where the start of run n breaks no rule, no field before its length does
    second-next : IsFine (field_at own 0) → (offset : ℕ) → IsNext offset → 37_860 + 4 * n ≤ offset
    second-next fine offset (inl (is, is_there, breaks)) = absurd (start-valid fine breaks)
    second-next fine offset (inr (is, is_there, breaks)) = omega arith

    -- or its length does
    pub broken-length : length own ≡ 4 → IsFine (field_at own 0) → (field_at own 2 ≡ 0) ⊎ (37_856 < field_at own 0 + field_at own 2)
        → IsBrokenAt (bytes ++ own) (37_860 + 4 * n)
    broken-length size fine breaks = let g = grown in let c = same-count in record {
      bad = (omega (arith, g), inr (n, omega (arith, below, c), inr (refl, breaks-length breaks)));
      first = λ offset bad. second-next fine offset (next-bad (omega arith) offset bad);
    }

    -- a length of some places, all of them in the block, breaks no rule
    length-valid : 0 < field_at own 2 → field_at own 0 + field_at own 2 ≤ 37_856 → BreaksLength (bytes ++ own) n → ⊥
    length-valid some within (inl none) = let is = length-is in omega (arith, is, none, some)
    length-valid some within (inr past) = let is = length-is in let s = start-is in omega (arith, is, s, past, within)

    -- where neither the start of run n nor its length breaks a rule, no field of the bytes does
    no-next : IsFine (field_at own 0) → 0 < field_at own 2 → field_at own 0 + field_at own 2 ≤ 37_856 → (offset : ℕ) → IsNext offset → ⊥
    no-next fine some within offset (inl (is, is_there, breaks)) = start-valid fine breaks
    no-next fine some within offset (inr (is, is_there, breaks)) = length-valid some within breaks

    -- it is one run more
    pub one-run-more : (mark_now : ℕ → Bool) → length own ≡ 4 → IsFine (field_at own 0) → 0 < field_at own 2 → field_at own 0 + field_at own 2 ≤ 37_856
        → ((place : ℕ) → place < 37_856 → mark_now place ≡ (mark place || (nat_le (field_at own 0) place && nat_lt place (field_at own 0 + field_at own 2))))
        → HasRuns (bytes ++ own) count (n + 1) (field_at own 0 + field_at own 2) mark_now
    one-run-more mark_now size fine some within marked = let g = grown in record {
      size = omega (arith, g);
      number = same-count;
      unbroken = λ offset bad. no-next fine some within offset (next-bad (omega arith) offset bad);
      none = λ is. absurd (omega arith);
      last = λ farther. let same : n + 1 - 1 ≡ n = omega arith in rw same (let is = length-is in let s = start-is in omega (arith, is, s));
      marks = λ place place_below. marked place place_below ∙ sym (by_run place place_below);
    } where
      by_run : (place : ℕ) → place < 37_856 → marked_by (bytes ++ own) (n + 1) place ≡ (mark place || (nat_le (field_at own 0) place && nat_lt place (field_at own 0 + field_at own 2)))
      by_run place place_below =
          let one : n + 1 ≡ suc n = omega arith in
          ap (λ k. marked_by (bytes ++ own) k place) one
          ∙ marked_by-suc (bytes ++ own) n place
          ∙ ap (λ (b : Bool). b || (nat_le (start_of (bytes ++ own) n) place && nat_lt place (end_of (bytes ++ own) n))) (marked_by-append bytes own n place (let s = has.size in omega arith) ∙ sym (has.marks place place_below))
          ∙ ap (λ start. mark place || (nat_le start place && nat_lt place (start + length_of (bytes ++ own) n))) start-is
          ∙ ap (λ long. mark place || (nat_le (field_at own 0) place && nat_lt place (field_at own 0 + long))) length-is
