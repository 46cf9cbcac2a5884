-- One unit of a run apart from the others: what comes before it, its own bytes, and what comes after it.
use Rattle.std.proofs.Common.{◌≡◌, ◌≢◌, inl, inr, ℕ, zero, suc, ◌+◌, ◌*◌, ◌<◌, ◌≤◌, List, [], ◌∷◌, ◌++◌, length, get_or, take, drop, refl, ap, sym, subst, ◌∙◌, append_assoc, append-nil, add-one, length-append, arith}
use Rattle.std.proofs.Math.Nat.{mul-le-mul_left, mul-suc, mul-zero}
use Rattle.std.proofs.lemmas.List.{drop-drop, length-drop, length-take-le, take-append-drop}
use Rattle.dvd_loop.specs.Laws.{IsFaultless, IsPrefixOf, IsNever, first}
use Rattle.dvd_loop.specs.Machine.{Performs, Continues, ContinuesAfter, IsOutcome, IsUnit, IsEndedWithin, Outcome, Step, Units, bad_of, ended, sized, taking}
use Rattle.dvd_loop.specs.Machine.Prefix.{Whole, Cut, Broken}
use Rattle.dvd_loop.specs.UnitCommand.{reported, written}
use Rattle.dvd_loop.specs.declared.ends.LoopEnd.TheVariants.{Done}
use Rattle.dvd_loop.specs.declared.ends.UnitKind.{UnitKind}
use Rattle.dvd_loop.specs.declared.ends.UnitKind.TheVariants.{Last}
use Rattle.dvd_loop.proofs.Faultless.{all_done, faultless_after, short_or_broken}
use Rattle.dvd_loop.proofs.Prefixes.{same_prefix, same_left}
use Rattle.dvd_loop.proofs.Reached.{goes_further, goes_on, taken_unit}
use Rattle.dvd_loop.proofs.Sizes.{broken_stays, sized_whole, whole_stays}
use Rattle.dvd_loop.proofs.StepLemmas.{onto}

-- Bytes begin with so many whole units at least: these are the bytes of each, and those from it on.
pub record BeginWith (units : Units) (own from : ℕ → List ℕ) (count : ℕ) (bytes : List ℕ) : Type 0 where
  pub first : from 0 ≡ bytes
  pub next : (j : ℕ) → j < count → from j ≡ own j ++ from (suc j)
  pub whole : (j : ℕ) → j < count → units.begins j (own j) ≡ Whole (length (own j))

-- A run over units with these bytes takes unit k, with those steps: they come after what the k units before it do
-- alone, and together that is what the first k + 1 do.
pub record TakesUnit (units : Units) (own : ℕ → List ℕ) (bytes : List ℕ) (a : Outcome) (k : ℕ) (steps : List Step) (kind : UnitKind) : Type 0 where
  pub before : List (List ℕ)
  pub number : length before ≡ k
  pub each : (j : ℕ) → j < k → get_or before j [] ≡ own j
  pub unit : IsUnit units before (own k) steps kind
  pub alone : Outcome
  pub runs : IsOutcome (first k units) bytes alone
  pub ends : alone.end ≡ Done
  pub runs_on : IsOutcome (first (k + 1) units) bytes (record alone { taken = alone.taken ++ own k; out = alone.out ++ written steps; lines = alone.lines ++ reported steps })
  pub out : IsPrefixOf (alone.out ++ written steps) a.out
  pub lines : IsPrefixOf (alone.lines ++ reported steps) a.lines

-- an outcome with one unit more after it
abbrev and_unit : List ℕ → List Step → Outcome → Outcome
and_unit own steps outcome = record outcome { taken = outcome.taken ++ own; out = outcome.out ++ written steps; lines = outcome.lines ++ reported steps }

-- where nothing else was taken or done, a unit before the end is one after it
onto_done : (own : List ℕ) (steps : List Step) → onto own (written steps) (reported steps) (ended Done) ≡ and_unit own steps (ended Done)
onto_done own steps = simp append-nil

-- it is the same whether what came before or the unit after it is put on first
onto_and : (taken out lines own : List ℕ) (steps : List Step) (outcome : Outcome)
    → onto taken out lines (and_unit own steps outcome) ≡ and_unit own steps (onto taken out lines outcome)
onto_and taken out lines own steps outcome = simp append_assoc

-- units that are parts 1, 2 and so on, after one that is part 0, are all parts in order
each_later : (k : ℕ) (own : List ℕ) (more : List (List ℕ)) (parts : ℕ → List ℕ) → own ≡ parts 0
    → ((j : ℕ) → j < k → get_or more j [] ≡ parts (suc j))
    → (j : ℕ) → j < suc k → get_or (own ∷ more) j [] ≡ parts j
each_later k own more parts is each zero lt = is
each_later k own more parts is each (suc j) lt = each j (omega arith)

-- a front of what comes after a piece is, after that piece, a front of all
prefix_later : (own prefix more whole all : List ℕ) → all ≡ own ++ whole → IsPrefixOf (prefix ++ more) whole
    → IsPrefixOf ((own ++ prefix) ++ more) all
prefix_later own prefix more whole all is (left, so) = (left, is ∙ ap (λ l. own ++ l) so ∙ simp append_assoc)

module _ (units : Units) (never : IsNever units Last)
    (stays : (k : ℕ) (own more : List ℕ) → units.begins k own ≡ Whole (length own) → units.begins k (own ++ more) ≡ Whole (length own))
    (breaks : (k at : ℕ) (own more : List ℕ) → units.begins k own ≡ Broken at → units.begins k (own ++ more) ≡ Broken at) where
  -- The unit after those, of these bytes, is taken and done without a fault, and then the units to come.
  record TakesOne (n : ℕ) (before : List (List ℕ)) (bad : ℕ) (own left : List ℕ) (outcome : Outcome) : Type 0 where
    steps : List Step
    kind : UnitKind
    unit : IsUnit units before own steps kind
    after : Outcome
    goes : Continues units n (before ++ own ∷ []) (bad + bad_of kind) left after
    is : outcome ≡ onto own (written steps) (reported steps) after
    faultless : IsFaultless after.end

  -- without a fault no loop ends within a unit that is whole
  not_within : (k : ℕ) (own left : List ℕ) (a : Outcome) → units.begins k own ≡ Whole (length own) → IsEndedWithin units k (own ++ left) a
      → IsFaultless a.end → ⊥
  not_within k own left a whole w none =
      let all : units.begins k (own ++ left) ≡ Whole (length own) = stays k own left whole in
      elim (short_or_broken units k (own ++ left) a w none) [
        | inl (cut, is) ↦ (let no : Cut ≡ Whole (length own) = sym cut ∙ all in cc)
        | inr (at, prefix, more, is, broken, ends) ↦
            (let no : Broken at ≡ Whole (length own) = sym (breaks k at prefix more broken) ∙ ap (units.begins k) (sym is) ∙ all in cc)
      ]

  -- a unit that was taken is not the last
  not_last : (before : List (List ℕ)) (own : List ℕ) (steps : List Step) (kind : UnitKind) → IsUnit units before own steps kind → kind ≢ Last
  not_last before own steps kind unit is = never (length before) before own steps (subst (units.does (length before) before own steps) is unit.does)

  -- so the unit is taken, and no other
  takes_one : (n : ℕ) (before : List (List ℕ)) (bad : ℕ) (own left : List ℕ) (a : Outcome)
      → units.begins (length before) own ≡ Whole (length own)
      → Continues units (suc n) before bad (own ++ left) a → IsFaultless a.end → TakesOne n before bad own left a
  unfolding Continues
  takes_one n before bad own left a whole goes none = elim goes [
    | inl w ↦ absurd (not_within (length before) own left a whole w none)
    | inr t ↦
        let all = stays (length before) own left whole in
        let so = subst (λ l. units.begins (length before) l ≡ Whole (length t.own)) (sym t.prefix) (stays (length before) t.own t.left t.unit.whole) in
        let size : length t.own ≡ length own = (let is : Whole (length t.own) ≡ Whole (length own) = sym so ∙ all in cc) in
        let same = same_prefix t.own own t.left left (sym t.prefix) size in
        let rest = same_left t.own own t.left left (sym t.prefix) same in
        let unit : IsUnit units before own t.steps t.kind = subst (λ l. IsUnit units before l t.steps t.kind) same t.unit in
        let Next : Outcome → Type 0 = Continues units n (before ++ own ∷ []) (bad + bad_of t.kind) left in
        let does : Performs t.steps (ContinuesAfter t.kind Next) t.after =
        subst (λ l. Performs t.steps (ContinuesAfter t.kind (Continues units n (before ++ own ∷ []) (bad + bad_of t.kind) l)) t.after) rest
        (subst (λ l. Performs t.steps (ContinuesAfter t.kind (Continues units n (before ++ l ∷ []) (bad + bad_of t.kind) t.left)) t.after) same t.does) in
        let takes : a ≡ taking own t.after = t.takes ∙ ap (λ l. taking l t.after) same in
        let faultless : IsFaultless t.after.end = subst (λ (o : Outcome). IsFaultless o.end) takes none in
        let done = all_done t.steps (ContinuesAfter t.kind Next) t.after does faultless in
        record {
          steps = t.steps;
          kind = t.kind;
          unit = unit;
          after = done.after;
          goes = goes_further t.kind Next done.after (not_last before own t.steps t.kind unit) done.holds;
          is = takes ∙ ap (taking own) done.is;
          faultless = faultless_after t.steps (ContinuesAfter t.kind Next) t.after done faultless;
        }
  ]

  -- a run of the first units alone goes through a unit that was taken
  through : (count n m : ℕ) (before : List (List ℕ)) (bad : ℕ) (own left : List ℕ) (a : Outcome) (t : TakesOne n before bad own left a) (after : Outcome)
      → Continues (first count units) m (before ++ own ∷ []) (bad + bad_of t.kind) left after
      → Continues (first count units) (suc m) before bad (own ++ left) (onto own (written t.steps) (reported t.steps) after)
  through count n m before bad own left a t after goes =
      taken_unit (first count units) m before own left t.steps t.kind bad after (record { whole = t.unit.whole; does = t.unit.does })
      (goes_on t.kind (Continues (first count units) m (before ++ own ∷ []) (bad + bad_of t.kind) left) after (not_last before own t.steps t.kind t.unit) goes)

  -- after the first units alone nothing comes
  nothing_more : (count : ℕ) (before : List (List ℕ)) (bad : ℕ) (bytes : List ℕ) → Continues (first count units) 0 before bad bytes (ended Done)
  unfolding Continues
  nothing_more count before bad bytes = ([], refl, refl)

  -- the k-th of the units to come, after those that were taken
  record Reaches (own : ℕ → List ℕ) (before : List (List ℕ)) (bad : ℕ) (bytes : List ℕ) (a : Outcome) (k : ℕ) : Type 0 where
    more : List (List ℕ)
    number : length more ≡ k
    each : (j : ℕ) → j < k → get_or more j [] ≡ own j
    steps : List Step
    kind : UnitKind
    unit : IsUnit units (before ++ more) (own k) steps kind
    alone : Outcome
    runs : (count : ℕ) → Continues (first count units) k before bad bytes alone
    ends : alone.end ≡ Done
    runs_on : (count : ℕ) → Continues (first count units) (suc k) before bad bytes (and_unit (own k) steps alone)
    out : IsPrefixOf (alone.out ++ written steps) a.out
    lines : IsPrefixOf (alone.lines ++ reported steps) a.lines

  -- the unit at hand
  reaches_one : (own : ℕ → List ℕ) (n : ℕ) (before : List (List ℕ)) (bad : ℕ) (left : List ℕ) (a : Outcome)
      → TakesOne n before bad (own 0) left a
      → Reaches own before bad (own 0 ++ left) a 0
  reaches_one own n before bad left a t = record {
    more = [];
    number = refl;
    each = λ j lt. absurd (omega arith);
    steps = t.steps;
    kind = t.kind;
    unit = subst (λ l. IsUnit units l (own 0) t.steps t.kind) (sym (append-nil before)) t.unit;
    alone = ended Done;
    runs = λ count. nothing_more count before bad (own 0 ++ left);
    ends = refl;
    runs_on = λ count.
        subst (Continues (first count units) 1 before bad (own 0 ++ left)) (onto_done (own 0) t.steps)
        (through count n 0 before bad (own 0) left a t (ended Done) (nothing_more count (before ++ own 0 ∷ []) (bad + bad_of t.kind) left));
    out = (t.after.out, ap (λ (o : Outcome). o.out) t.is);
    lines = (t.after.lines, ap (λ (o : Outcome). o.lines) t.is);
  }

  -- a unit after it
  reaches_later : (own : ℕ → List ℕ) (n k : ℕ) (before : List (List ℕ)) (bad : ℕ) (left : List ℕ) (a : Outcome) (t : TakesOne n before bad (own 0) left a)
      → Reaches (λ j. own (suc j)) (before ++ own 0 ∷ []) (bad + bad_of t.kind) left t.after k
      → Reaches own before bad (own 0 ++ left) a (suc k)
  reaches_later own n k before bad left a t r = record {
    more = own 0 ∷ r.more;
    number = ap suc r.number;
    each = each_later k (own 0) r.more own refl r.each;
    steps = r.steps;
    kind = r.kind;
    unit = subst (λ l. IsUnit units l (own (suc k)) r.steps r.kind) (append_assoc before (own 0 ∷ []) r.more) r.unit;
    alone = onto (own 0) (written t.steps) (reported t.steps) r.alone;
    runs = λ count. through count n k before bad (own 0) left a t r.alone (r.runs count);
    ends = r.ends;
    runs_on = λ count.
        subst (Continues (first count units) (suc (suc k)) before bad (own 0 ++ left)) (onto_and (own 0) (written t.steps) (reported t.steps) (own (suc k)) r.steps r.alone)
        (through count n (suc k) before bad (own 0) left a t (and_unit (own (suc k)) r.steps r.alone) (r.runs_on count));
    out = prefix_later (written t.steps) r.alone.out (written r.steps) t.after.out a.out (ap (λ (o : Outcome). o.out) t.is) r.out;
    lines = prefix_later (reported t.steps) r.alone.lines (reported r.steps) t.after.lines a.lines (ap (λ (o : Outcome). o.lines) t.is) r.lines;
  }

  -- from the bytes of one unit on there are whole ones
  record ComeOn (at : ℕ) (own from : ℕ → List ℕ) (count : ℕ) : Type 0 where
    next : (j : ℕ) → j < count → from j ≡ own j ++ from (suc j)
    whole : (j : ℕ) → j < count → units.begins (at + j) (own j) ≡ Whole (length (own j))

  -- the unit at hand is taken
  takes_first : (k n : ℕ) (own from : ℕ → List ℕ) (before : List (List ℕ)) (bad : ℕ) (a : Outcome) → ComeOn (length before) own from (suc k)
      → Continues units (suc n) before bad (from 0) a → IsFaultless a.end → TakesOne n before bad (own 0) (from 1) a
  takes_first k n own from before bad a come goes none =
      let here : length before + 0 ≡ length before = omega arith in
      takes_one n before bad (own 0) (from 1) a (subst (λ i. units.begins i (own 0) ≡ Whole (length (own 0))) here (come.whole 0 (omega arith)))
      (subst (λ l. Continues units (suc n) before bad l a) (come.next 0 (omega arith)) goes) none

  -- and there are those after it
  come_later : (k : ℕ) (own from : ℕ → List ℕ) (before : List (List ℕ)) → ComeOn (length before) own from (suc (suc k))
      → ComeOn (length (before ++ own 0 ∷ [])) (λ j. own (suc j)) (λ j. from (suc j)) (suc k)
  come_later k own from before come = record {
    next = λ j below. come.next (suc j) (omega (arith, below));
    whole = λ j below.
        let at : length before + suc j ≡ length (before ++ own 0 ∷ []) + j = omega (arith, length-append before (own 0 ∷ [])) in
        subst (λ i. units.begins i (own (suc j)) ≡ Whole (length (own (suc j)))) at (come.whole (suc j) (omega (arith, below)));
  }

  -- the k-th of the units to come is reached
  reaches : (k n : ℕ) (own from : ℕ → List ℕ) (before : List (List ℕ)) (bad : ℕ) (a : Outcome) → ComeOn (length before) own from (suc k)
      → Continues units n before bad (from 0) a → IsFaultless a.end → k < n → Reaches own before bad (from 0) a k
  reaches k zero own from before bad a come goes none lt = absurd (omega arith)
  reaches zero (suc n) own from before bad a come goes none lt =
      subst (λ l. Reaches own before bad l a 0) (sym (come.next 0 (omega arith))) (reaches_one own n before bad (from 1) a (takes_first 0 n own from before bad a come goes none))
  reaches (suc k) (suc n) own from before bad a come goes none lt =
      let t = takes_first (suc k) n own from before bad a come goes none in
      subst (λ l. Reaches own before bad l a (suc k)) (sym (come.next 0 (omega arith))) (
      reaches_later own n k before bad (from 1) a t
      (reaches k n (λ j. own (suc j)) (λ j. from (suc j)) (before ++ own 0 ∷ []) (bad + bad_of t.kind) t.after (come_later k own from before come) t.goes t.faultless (omega (arith, lt)))
      )

  -- A run without a fault over bytes that begin with k + 1 whole units takes unit k.
  pub takes_unit : units.opens ≡ [] → (bytes : List ℕ) (a : Outcome) → IsOutcome units bytes a → IsFaultless a.end → (k : ℕ)
      → k < units.count
      → (own from : ℕ → List ℕ) → BeginWith units own from (k + 1) bytes
      → (steps : List Step) × (kind : UnitKind) × TakesUnit units own bytes a k steps kind
  takes_unit opens bytes a runs none k lt own from begin =
      let goes : Continues units units.count [] 0 bytes a = subst (λ l. Performs l (Continues units units.count [] 0 bytes) a) opens runs in
      let come : ComeOn 0 own from (suc k) = record {
        next = λ j below. begin.next j (omega (arith, below));
        whole = λ j below.
            let at : j ≡ 0 + j = omega arith in
            subst (λ i. units.begins i (own j) ≡ Whole (length (own j))) at (begin.whole j (omega (arith, below)));
      } in
      let r = subst (λ l. Reaches own [] 0 l a k) begin.first
      (reaches k units.count own from [] 0 a come (subst (λ l. Continues units units.count [] 0 l a) (sym begin.first) goes) none lt) in (
        r.steps,
        r.kind,
        record {
          before = r.more;
          number = r.number;
          each = r.each;
          unit = r.unit;
          alone = r.alone;
          runs = subst (λ l. Performs l (Continues (first k units) k [] 0 bytes) r.alone) (sym opens) (r.runs k);
          ends = r.ends;
          runs_on = subst (λ l. Performs l (Continues (first (k + 1) units) (k + 1) [] 0 bytes) (and_unit (own k) r.steps r.alone)) (sym opens)
              (subst (λ n. Continues (first (k + 1) units) n [] 0 bytes (and_unit (own k) r.steps r.alone)) (sym (add-one k)) (r.runs_on (k + 1)));
          out = r.out;
          lines = r.lines;
        },
      )

-- OF ONE SIZE. So many bytes begin with k + 1 whole units.
begin_sized : (units : Units) (size : ℕ) → ((k : ℕ) (bytes : List ℕ) → units.begins k bytes ≡ sized size bytes) → (bytes : List ℕ) (k : ℕ)
    → size * (k + 1) ≤ length bytes
    → BeginWith units (λ j. take size (drop (size * j) bytes)) (λ j. drop (size * j) bytes) (k + 1) bytes
begin_sized units size begins bytes k long = record {
  first = ap (λ n. drop n bytes) (mul-zero size);
  next = λ j below.
      let further : size * suc j ≡ size + size * j = omega (arith, mul-suc size j) in
      sym (take-append-drop size (drop (size * j) bytes))
      ∙ ap (λ l. take size (drop (size * j) bytes) ++ l) (drop-drop size (size * j) bytes ∙ ap (λ n. drop n bytes) (let at : size * j + size ≡ size * suc j = omega (arith, further) in at));
  whole = λ j below.
      let enough : size * suc j ≤ size * (k + 1) = mul-le-mul_left {m = suc j} {n = k + 1} size (omega (arith, below)) in
      begins j (take size (drop (size * j) bytes))
      ∙ (sized_whole size (take size (drop (size * j) bytes))).1
      (length-take-le size (drop (size * j) bytes) (omega (arith, mul-suc size j, length-drop (size * j) bytes, enough, long)));
}

-- a run over them takes unit k
pub takes_sized : (units : Units) (size : ℕ) → ((k : ℕ) (bytes : List ℕ) → units.begins k bytes ≡ sized size bytes) → IsNever units Last
    → units.opens ≡ []
    → (bytes : List ℕ) (a : Outcome) → IsOutcome units bytes a → IsFaultless a.end → (k : ℕ) → k < units.count
    → size * (k + 1) ≤ length bytes
    → (steps : List Step) × (kind : UnitKind) × TakesUnit units (λ j. take size (drop (size * j) bytes)) bytes a k steps kind
takes_sized units size begins never opens bytes a runs none k lt long =
    takes_unit units never (whole_stays units (λ k. size) begins) (broken_stays units (λ k. size) begins) opens bytes a runs none k lt
    (λ j. take size (drop (size * j) bytes)) (λ j. drop (size * j) bytes) (begin_sized units size begins bytes k long)
