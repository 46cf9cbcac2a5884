-- How bytes begin, from the first of a captured block on: it stays so whatever follows, and a whole block breaks no
-- rule.
use Rattle.std.proofs.Common.{◌≡◌, ◌⊎◌, inl, inr, ℕ, ◌+◌, ◌-◌, ◌*◌, ◌<◌, ◌≤◌, List, [], ◌++◌, length, length-append, take, drop, Some, None, refl, ap, sym, subst, ◌∙◌, append-nil, arith}
use Rattle.std.proofs.lemmas.Bool.{cases_lt}
use Rattle.std.proofs.lemmas.List.{length-take-le, take-append-drop}
use Rattle.dvd_capture.specs.Captured.{BreaksNoRule, block_size, unit_size}
use Rattle.dvd_capture.specs.Listed.{BreaksLength, BreaksStart, HasBadField, IsBrokenAt, IsUnbroken, end_of, length_of, listed_size, run_count, start_of}
use Rattle.dvd_capture.specs.declared.form.Form.{Form}
use Rattle.dvd_capture.specs.declared.form.Form.TheVariants.{Plain, Marked, Listed}
use Rattle.dvd_capture.proofs.ListedFields.{field_at-append}
use Rattle.dvd_loop.specs.Machine.{sized}
use Rattle.dvd_loop.specs.Machine.Prefix.{Whole, Cut, Broken}
use Rattle.dvd_loop.proofs.Sizes.{sized_enough, sized_fewer, sized_never_broken}
use Rattle.dvd_commands.specs.Captured.{broken_at, captured_part, listed_part}
use Rattle.dvd_commands.proofs.BrokenFields.{broken_found}

-- FIELDS of listed bytes, and of more bytes that begin with them.
module _ (own more : List ℕ) where
  -- the number of runs, where it is in the first bytes, is the same in both
  number_same : 37_858 ≤ length own → run_count (own ++ more) ≡ run_count own
  number_same enough = field_at-append own more 37_856 (omega (arith, enough))

  -- the start of run i, where it is in the first bytes, is the same in both
  start_same : (i : ℕ) → 37_860 + 4 * i ≤ length own → start_of (own ++ more) i ≡ start_of own i
  start_same i enough = field_at-append own more (37_858 + 4 * i) (omega (arith, enough))

  -- the length of run i, where it is in the first bytes, is the same in both
  length_same : (i : ℕ) → 37_862 + 4 * i ≤ length own → length_of (own ++ more) i ≡ length_of own i
  length_same i enough = field_at-append own more (37_860 + 4 * i) (omega (arith, enough))

  -- the end of the run before one whose start is in them
  before_same : (i : ℕ) → 0 < i → 37_860 + 4 * i ≤ length own → end_of (own ++ more) (i - 1) ≡ end_of own (i - 1)
  before_same i some enough =
      let start = start_same (i - 1) (omega (arith, some, enough)) in
      let long = length_same (i - 1) (omega (arith, some, enough)) in
      omega (arith, start, long)

  -- the end of a run whose length is in them
  end_same : (i : ℕ) → 37_862 + 4 * i ≤ length own → end_of (own ++ more) i ≡ end_of own i
  end_same i enough =
      let start = start_same i (omega (arith, enough)) in
      let long = length_same i enough in
      omega (arith, start, long)

  -- a start that breaks a rule in one does so in the other
  start_on : (i : ℕ) → 37_860 + 4 * i ≤ length own → BreaksStart own i → BreaksStart (own ++ more) i
  start_on i enough (inl high) = inl (subst (λ n. 37_856 ≤ n) (sym (start_same i enough)) high)
  start_on i enough (inr (some, touching)) =
      inr (some, let start = start_same i enough in let end = before_same i some enough in omega (arith, touching, start, end))

  -- and the start that breaks a rule with more bytes after it broke it before
  start_back : (i : ℕ) → 37_860 + 4 * i ≤ length own → BreaksStart (own ++ more) i → BreaksStart own i
  start_back i enough (inl high) = inl (subst (λ n. 37_856 ≤ n) (start_same i enough) high)
  start_back i enough (inr (some, touching)) =
      inr (some, let start = start_same i enough in let end = before_same i some enough in omega (arith, touching, start, end))

  -- a length that breaks a rule does so with more bytes after it
  long_on : (i : ℕ) → 37_862 + 4 * i ≤ length own → BreaksLength own i → BreaksLength (own ++ more) i
  long_on i enough (inl none) = inl (length_same i enough ∙ none)
  long_on i enough (inr past) = inr (subst (λ n. 37_856 < n) (sym (end_same i enough)) past)

  -- and the length that breaks a rule with more bytes after it broke it before
  long_back : (i : ℕ) → 37_862 + 4 * i ≤ length own → BreaksLength (own ++ more) i → BreaksLength own i
  long_back i enough (inl none) = inl (sym (length_same i enough) ∙ none)
  long_back i enough (inr past) = inr (subst (λ n. 37_856 < n) (end_same i enough) past)

  -- a field that breaks a rule does so whatever follows
  bad_on : (offset : ℕ) → HasBadField own offset → HasBadField (own ++ more) offset
  bad_on offset (is_there, inl (is, number)) =
      (omega (arith, is_there, length-append own more), inl (is, subst (λ n. 18_928 < n) (sym (number_same (omega (arith, is, is_there)))) number))
  bad_on offset (is_there, inr (i, below, inl (is, start))) = (
    omega (arith, is_there, length-append own more),
    inr (i, subst (λ n. i < n) (sym (number_same (omega (arith, is, is_there)))) below, inl (is, start_on i (omega (arith, is, is_there)) start)),
  )
  bad_on offset (is_there, inr (i, below, inr (is, long))) = (
    omega (arith, is_there, length-append own more),
    inr (i, subst (λ n. i < n) (sym (number_same (omega (arith, is, is_there)))) below, inr (is, long_on i (omega (arith, is, is_there)) long)),
  )

  -- and one that is wholly in the first bytes broke it before
  bad_back : (offset : ℕ) → offset + 2 ≤ length own → HasBadField (own ++ more) offset → HasBadField own offset
  bad_back offset within (is_there, inl (is, number)) = (within, inl (is, subst (λ n. 18_928 < n) (number_same (omega (arith, is, within))) number))
  bad_back offset within (is_there, inr (i, below, inl (is, start))) =
      (within, inr (i, subst (λ n. i < n) (number_same (omega (arith, is, within))) below, inl (is, start_back i (omega (arith, is, within)) start)))
  bad_back offset within (is_there, inr (i, below, inr (is, long))) =
      (within, inr (i, subst (λ n. i < n) (number_same (omega (arith, is, within))) below, inr (is, long_back i (omega (arith, is, within)) long)))

  -- the fields of a unit come before its end
  inside : listed_size own ≤ length own → (offset : ℕ) → HasBadField (own ++ more) offset → offset + 2 ≤ length own
  inside whole offset (is_there, inl (is, number)) = omega (arith, is, whole)
  inside whole offset (is_there, inr (i, below, inl (is, start))) =
      let same = number_same (omega (arith, whole)) in omega (arith, is, whole, below, same)
  inside whole offset (is_there, inr (i, below, inr (is, long))) =
      let same = number_same (omega (arith, whole)) in omega (arith, is, whole, below, same)

  -- a whole unit that breaks no rule breaks none whatever follows
  unbroken_on : listed_size own ≤ length own → IsUnbroken own → IsUnbroken (own ++ more)
  unbroken_on whole unbroken offset bad = unbroken offset (bad_back offset (inside whole offset bad) bad)

  -- and bytes with which unbroken ones begin break no rule
  unbroken_back : IsUnbroken (own ++ more) → IsUnbroken own
  unbroken_back unbroken offset bad = unbroken offset (bad_on offset bad)

  -- the first that breaks a rule is so whatever follows
  broken_on : (at : ℕ) → IsBrokenAt own at → IsBrokenAt (own ++ more) at
  broken_on at broken = record {
    bad = bad_on at broken.bad;
    first = λ offset bad. elim (cases_lt offset at) [
      | inr le ↦ le
      | inl lt ↦ absurd (let is_there = broken.bad.0 in let le = broken.first offset (bad_back offset (omega (arith, lt, is_there)) bad) in omega (arith, lt, le))
    ];
  }

-- LISTED BYTES begin with a broken block, or by their size.
pub listed_broken : (bytes : List ℕ) (at : ℕ) → IsBrokenAt bytes at → captured_part Listed bytes ≡ Broken at
listed_broken bytes at broken = ap (λ x. listed_part x bytes) (((broken_found bytes).0 at).1 broken)

-- and so where none is broken
pub listed_sized : (bytes : List ℕ) → IsUnbroken bytes → captured_part Listed bytes ≡ sized (listed_size bytes) bytes
listed_sized bytes unbroken = ap (λ x. listed_part x bytes) ((broken_found bytes).1.1 unbroken)

-- they are broken, or they aren't
pub broken_or_not : (bytes : List ℕ) → ((at : ℕ) × IsBrokenAt bytes at) ⊎ IsUnbroken bytes
broken_or_not bytes = elim (broken_at bytes) as (λ x. broken_at bytes ≡ x → ((at : ℕ) × IsBrokenAt bytes at) ⊎ IsUnbroken bytes) [
  | Some at ↦ λ is. inl (at, ((broken_found bytes).0 at).0 is)
  | None ↦ λ is. inr ((broken_found bytes).1.0 is)
] refl

-- A WHOLE BLOCK is as long as its bytes say, and breaks no rule.
pub whole_size : (form : Form) (bytes : List ℕ) (n : ℕ) → captured_part form bytes ≡ Whole n
    → (n ≡ unit_size form bytes) × (n ≤ length bytes) × BreaksNoRule form bytes
whole_size Plain bytes n whole = elim (cases_lt (length bytes) 37_856) [
  | inl fewer ↦ absurd (let no : Cut ≡ Whole n = sym (sized_fewer 37_856 bytes fewer) ∙ whole in cc)
  | inr le ↦ let is : Whole 37_856 ≡ Whole n = sym (sized_enough 37_856 bytes le) ∙ whole in let size : n ≡ 37_856 = cc in (size, omega (arith, size, le), tt)
]
whole_size Marked bytes n whole = elim (cases_lt (length bytes) 42_640) [
  | inl fewer ↦ absurd (let no : Cut ≡ Whole n = sym (sized_fewer 42_640 bytes fewer) ∙ whole in cc)
  | inr le ↦ let is : Whole 42_640 ≡ Whole n = sym (sized_enough 42_640 bytes le) ∙ whole in let size : n ≡ 42_640 = cc in (size, omega (arith, size, le), tt)
]
whole_size Listed bytes n whole = elim (broken_or_not bytes) [
  | inl (at, broken) ↦ absurd (let no : Broken at ≡ Whole n = sym (listed_broken bytes at broken) ∙ whole in cc)
  | inr unbroken ↦ elim (cases_lt (length bytes) (listed_size bytes)) [
    | inl fewer ↦ absurd (let no : Cut ≡ Whole n = sym (sized_fewer (listed_size bytes) bytes fewer) ∙ sym (listed_sized bytes unbroken) ∙ whole in cc)
    | inr le ↦
        let is : Whole (listed_size bytes) ≡ Whole n = sym (sized_enough (listed_size bytes) bytes le) ∙ sym (listed_sized bytes unbroken) ∙ whole in
        let size : n ≡ listed_size bytes = cc in (size, omega (arith, size, le), unbroken)
  ]
]

-- and bytes of that size that break no rule begin with a whole block
pub size_whole : (form : Form) (bytes : List ℕ) → unit_size form bytes ≤ length bytes → BreaksNoRule form bytes
    → captured_part form bytes ≡ Whole (unit_size form bytes)
size_whole Plain bytes le valid = sized_enough 37_856 bytes le
size_whole Marked bytes le valid = sized_enough 42_640 bytes le
size_whole Listed bytes le valid = listed_sized bytes valid ∙ sized_enough (listed_size bytes) bytes le

-- a whole block has the bytes of the rows at least
pub whole_enough : (form : Form) (own : List ℕ) → captured_part form own ≡ Whole (length own) → block_size form ≤ length own
whole_enough Plain own whole = let is = (whole_size Plain own (length own) whole).0 in omega (arith, is)
whole_enough Marked own whole = let is = (whole_size Marked own (length own) whole).0 in omega (arith, is)
whole_enough Listed own whole = let is = (whole_size Listed own (length own) whole).0 in omega (arith, is)

-- fewer bytes that break none are a part of it
pub size_cut : (form : Form) (bytes : List ℕ) → length bytes < unit_size form bytes → BreaksNoRule form bytes → captured_part form bytes ≡ Cut
size_cut Plain bytes fewer valid = sized_fewer 37_856 bytes fewer
size_cut Marked bytes fewer valid = sized_fewer 42_640 bytes fewer
size_cut Listed bytes fewer valid = listed_sized bytes valid ∙ sized_fewer (listed_size bytes) bytes fewer

-- what comes after a whole block doesn't change its size
more_same : (form : Form) (own more : List ℕ) → unit_size form own ≤ length own → unit_size form (own ++ more) ≡ unit_size form own
more_same Plain own more enough = refl
more_same Marked own more enough = refl
more_same Listed own more enough = let same = number_same own more (omega (arith, enough)) in omega (arith, same)

-- a block that is valid is so with more after it
valid_on : (form : Form) (own more : List ℕ) → unit_size form own ≤ length own → BreaksNoRule form own → BreaksNoRule form (own ++ more)
valid_on Plain own more enough valid = tt
valid_on Marked own more enough valid = tt
valid_on Listed own more enough valid = unbroken_on own more enough valid

-- and so are bytes with which valid ones begin
valid_back : (form : Form) (own more : List ℕ) → BreaksNoRule form (own ++ more) → BreaksNoRule form own
valid_back Plain own more valid = tt
valid_back Marked own more valid = tt
valid_back Listed own more valid = unbroken_back own more valid

-- STABLE. A whole block is whole whatever follows, and a broken one broken.
pub whole_stays : (form : Form) (own more : List ℕ) → captured_part form own ≡ Whole (length own)
    → captured_part form (own ++ more) ≡ Whole (length own)
whole_stays form own more whole =
    let is = whole_size form own (length own) whole in
    let enough : unit_size form own ≤ length own = subst (λ n. n ≤ length own) is.0 (omega arith) in
    let same = more_same form own more enough in
    size_whole form (own ++ more) (omega (arith, same, enough, length-append own more)) (valid_on form own more enough is.2) ∙ ap Whole (same ∙ sym is.0)

-- and a broken one broken
pub broken_stays : (form : Form) (at : ℕ) (own more : List ℕ) → captured_part form own ≡ Broken at
    → captured_part form (own ++ more) ≡ Broken at
broken_stays Plain at own more broken = absurd (sized_never_broken 37_856 at own broken)
broken_stays Marked at own more broken = absurd (sized_never_broken 42_640 at own broken)
broken_stays Listed at own more broken = elim (broken_or_not own) [
  | inl (place, is) ↦
      let same : Broken place ≡ Broken at = sym (listed_broken own place is) ∙ broken in
      let at_is : place ≡ at = cc in
      listed_broken (own ++ more) at (broken_on own more at (subst (IsBrokenAt own) at_is is))
  | inr unbroken ↦ absurd (sized_never_broken (listed_size own) at own (sym (listed_sized own unbroken) ∙ broken))
]

-- A UNIT in front of bytes that begin with a whole block.
pub prefix_whole : (form : Form) (bytes : List ℕ) → captured_part form bytes ≡ Whole (unit_size form bytes)
    → (length (take (unit_size form bytes) bytes) ≡ unit_size form bytes)
    × (captured_part form (take (unit_size form bytes) bytes) ≡ Whole (length (take (unit_size form bytes) bytes)))
prefix_whole form bytes whole =
    let is = whole_size form bytes (unit_size form bytes) whole in
    let own = take (unit_size form bytes) bytes in
    let more = drop (unit_size form bytes) bytes in
    let size : length own ≡ unit_size form bytes = length-take-le (unit_size form bytes) bytes is.1 in
    let all : own ++ more ≡ bytes = take-append-drop (unit_size form bytes) bytes in
    let valid : BreaksNoRule form own = valid_back form own more (subst (BreaksNoRule form) (sym all) is.2) in
    let same : unit_size form own ≡ length own = prefix_size form own more (subst (λ l. unit_size form l ≡ length own) (sym all) (sym size)) in
    (size, size_whole form own (omega (arith, same)) valid ∙ ap Whole same)
  where
    prefix_size : (form : Form) (own more : List ℕ) → unit_size form (own ++ more) ≡ length own → unit_size form own ≡ length own
    prefix_size Plain own more is = is
    prefix_size Marked own more is = is
    prefix_size Listed own more is = let same = number_same own more (omega (arith, is)) in omega (arith, is, same)

-- what bytes begin with: a whole block, a part of one, or one that breaks a rule
pub begins_somehow : (form : Form) (bytes : List ℕ)
    → ((own left : List ℕ) × (bytes ≡ own ++ left) × (captured_part form own ≡ Whole (length own)))
    ⊎ ((captured_part form bytes ≡ Cut)
    ⊎ ((own left : List ℕ) × (at : ℕ) × (bytes ≡ own ++ left) × (captured_part form own ≡ Broken at)))
begins_somehow form bytes = by_valid form bytes (valid_or_not form bytes)
  where
    valid_or_not : (form : Form) (bytes : List ℕ) → ((at : ℕ) × (captured_part form bytes ≡ Broken at)) ⊎ BreaksNoRule form bytes
    valid_or_not Plain bytes = inr tt
    valid_or_not Marked bytes = inr tt
    valid_or_not Listed bytes = elim (broken_or_not bytes) [
      | inl (at, broken) ↦ inl (at, listed_broken bytes at broken)
      | inr unbroken ↦ inr unbroken
    ]

    by_valid : (form : Form) (bytes : List ℕ) → ((at : ℕ) × (captured_part form bytes ≡ Broken at)) ⊎ BreaksNoRule form bytes
        → ((own left : List ℕ) × (bytes ≡ own ++ left) × (captured_part form own ≡ Whole (length own)))
        ⊎ ((captured_part form bytes ≡ Cut)
        ⊎ ((own left : List ℕ) × (at : ℕ) × (bytes ≡ own ++ left) × (captured_part form own ≡ Broken at)))
    by_valid form bytes (inl (at, broken)) = inr (inr (bytes, [], at, sym (append-nil bytes), broken))
    by_valid form bytes (inr valid) = elim (cases_lt (length bytes) (unit_size form bytes)) [
      | inl fewer ↦ inr (inl (size_cut form bytes fewer valid))
      | inr le ↦
          inl (
            take (unit_size form bytes) bytes,
            drop (unit_size form bytes) bytes,
            sym (take-append-drop (unit_size form bytes) bytes),
            (prefix_whole form bytes (size_whole form bytes le valid)).1,
          )
    ]
