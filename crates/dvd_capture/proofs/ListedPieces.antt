-- The runs of a listed unit while their fields come in pieces.
use Rattle.std.proofs.Common.{◌≡◌, ◌⊎◌, ◌∙◌, ℕ, ◌+◌, ◌*◌, ◌<◌, ◌≤◌, ◌&&◌, ◌||◌, nat_le, nat_lt, Bool, List, [], ◌++◌, length, take, drop, get_or, slice_index, Result, Ok, Err, inl, inr, sym, ap, subst, arith, append_assoc, append-nil, length-append, length-take}
use Rattle.std.proofs.Math.Seq.{take-add}
use Rattle.std.proofs.lemmas.Bool.Decides.{leb_tells}
use Rattle.std.proofs.lemmas.List.{get_or-drop, get_or-take, length-drop, take-append-drop, take-append-le, take_all}
use Rattle.dvd_ports.specs.Bytes.{Bytes, Consumes}
use Rattle.std.specs.Result.{IsErrAnd}
use Rattle.dvd_ports.proofs.KnownLemmas.{Consumes-then}
use Rattle.dvd_ports.specs.Causes.{HasGoneOn}
use Rattle.dvd_ports.specs.Seen.{Seen}
use Rattle.dvd_capture.specs.Fetching.{FetchCounts}
use Rattle.dvd_capture.specs.Listed.{IsBrokenAt, field_at}
use Rattle.dvd_capture.specs.Inner.Listing.{AreRows, BreaksIn, HasFields, HasFetchCause, HasRuns, IsBadMarks, IsCut, IsStopped, TakesAll, TakesField, TakesNone}
use Rattle.dvd_capture.specs.declared.capture.FetchAnswer.{FetchAnswer}
use Rattle.dvd_capture.specs.declared.capture.FetchAnswer.TheVariants.{Full, End, Short, ReadFault, BadMarks}
use Rattle.dvd_capture.specs.declared.runs.Taken.{Taken}
use Rattle.dvd_capture.proofs.ListedTaken.{number-taken}
use Rattle.dvd_capture.proofs.ListedFields.{broken-length, broken-more, broken-start, cut-in-length, cut-in-start, one-run-more}

-- adding nothing
pub zero_more : (n : ℕ) → n + 0 ≡ n
zero_more n = omega arith

-- a field of a piece of bytes is one of theirs
pub field_at-piece : (bytes : List ℕ) (from size k : ℕ) → k + 2 ≤ size → field_at (take size (drop from bytes)) k ≡ field_at bytes (from + k)
unfolding field_at
field_at-piece bytes from size k within =
    let first : slice_index (take size (drop from bytes)) k ≡ slice_index bytes (from + k) = get_or-take size (drop from bytes) k 0 (omega arith) ∙ get_or-drop from bytes k 0 in
    let next : from + (k + 1) ≡ from + k + 1 = omega arith in
    let second : slice_index (take size (drop from bytes)) (k + 1) ≡ slice_index bytes (from + k + 1) =
    get_or-take size (drop from bytes) (k + 1) 0 (omega arith) ∙ get_or-drop from bytes (k + 1) 0 ∙ ap (λ n. get_or bytes n 0) next in
    omega (arith, first, second)

-- a field of all bytes from a place on
field_at-rest : (bytes : List ℕ) (from k : ℕ) → field_at (drop from bytes) k ≡ field_at bytes (from + k)
unfolding field_at
field_at-rest bytes from k =
    let next : from + (k + 1) ≡ from + k + 1 = omega arith in
    let first = get_or-drop from bytes k 0 in
    let second : get_or (drop from bytes) (k + 1) 0 ≡ get_or bytes (from + k + 1) 0 = get_or-drop from bytes (k + 1) 0 ∙ ap (λ n. get_or bytes n 0) next in
    omega (arith, first, second)

module _ (head fields : List ℕ) (count n end : ℕ) (mark : ℕ → Bool) (has : HasRuns (head ++ take (4 * n) fields) count n end mark) where
  -- so many bytes more of the fields
  more : (size : ℕ) → (head ++ take (4 * n) fields) ++ take size (drop (4 * n) fields) ≡ head ++ take (4 * n + size) fields
  more size = append_assoc head (take (4 * n) fields) (take size (drop (4 * n) fields)) ∙ ap (λ l. head ++ l) (sym (take-add (4 * n) size fields))

  -- and all that are left
  all : (size : ℕ) → (head ++ take size fields) ++ drop size fields ≡ head ++ fields
  all size = append_assoc head (take size fields) (drop size fields) ∙ ap (λ l. head ++ l) (take-append-drop size fields)

  piece-size : (size : ℕ) → 4 * n + size ≤ length fields → length (take size (drop (4 * n) fields)) ≡ size
  piece-size size within = omega (arith, within, length-take size (drop (4 * n) fields), length-drop (4 * n) fields)

  module _ (below : n < count) (start : ℕ) (start-is : start ≡ field_at fields (4 * n)) where
    -- run n has a start that breaks a rule
    pub broken-start-in : 4 * n + 2 ≤ length fields → (37_856 ≤ start) ⊎ ((0 < n) × (start ≤ end)) → IsBrokenAt (head ++ fields) (37_858 + 4 * n)
    broken-start-in within breaks =
        let own = take 2 (drop (4 * n) fields) in
        let same : field_at own 0 ≡ start = field_at-piece fields (4 * n) 2 0 (omega arith) ∙ ap (field_at fields) (zero_more (4 * n)) ∙ sym start-is in
        subst (λ l. IsBrokenAt l (37_858 + 4 * n)) (all (4 * n + 2)) (broken-more (head ++ take (4 * n + 2) fields) (drop (4 * n + 2) fields) (37_858 + 4 * n)
        (subst (λ l. IsBrokenAt l (37_858 + 4 * n)) (more 2)
        (broken-start (head ++ take (4 * n) fields) own count n end mark has below (piece-size 2 within)
        (subst (λ v. (37_856 ≤ v) ⊎ ((0 < n) × (v ≤ end))) (sym same) breaks))))

    module _ (long : ℕ) (long-is : long ≡ field_at fields (4 * n + 2)) (within : 4 * n + 4 ≤ length fields) (fine : (start < 37_856) × (0 < n → end < start)) where
      -- the bytes of run n, and its fields
      run : List ℕ
      run = take 4 (drop (4 * n) fields)

      start-in : field_at run 0 ≡ start
      unfolding run
      start-in = field_at-piece fields (4 * n) 4 0 (omega arith) ∙ ap (field_at fields) (zero_more (4 * n)) ∙ sym start-is

      length-in : field_at run 2 ≡ long
      unfolding run
      length-in = field_at-piece fields (4 * n) 4 2 (omega arith) ∙ sym long-is

      run-size : length run ≡ 4
      unfolding run
      run-size = piece-size 4 within

      run-more : (head ++ take (4 * n) fields) ++ run ≡ head ++ take (4 * n + 4) fields
      unfolding run
      run-more = more 4

      fine-in : (field_at run 0 < 37_856) × (0 < n → end < field_at run 0)
      fine-in = subst (λ v. (v < 37_856) × (0 < n → end < v)) (sym start-in) fine

      -- or a length that does
      pub broken-length-in : (long ≡ 0) ⊎ (37_856 < start + long) → IsBrokenAt (head ++ fields) (37_860 + 4 * n)
      broken-length-in breaks =
          subst (λ l. IsBrokenAt l (37_860 + 4 * n)) (all (4 * n + 4)) (broken-more (head ++ take (4 * n + 4) fields) (drop (4 * n + 4) fields) (37_860 + 4 * n)
          (subst (λ l. IsBrokenAt l (37_860 + 4 * n)) run-more
          (broken-length (head ++ take (4 * n) fields) run count n end mark has below run-size fine-in
          (subst (λ v. (field_at run 2 ≡ 0) ⊎ (37_856 < v + field_at run 2)) (sym start-in)
          (subst (λ v. (v ≡ 0) ⊎ (37_856 < start + v)) (sym length-in) breaks)))))

      -- or it is one run more
      pub run-in : (mark_now : ℕ → Bool) → 0 < long → start + long ≤ 37_856
          → ((place : ℕ) → place < 37_856 → mark_now place ≡ (mark place || (nat_le start place && nat_lt place (start + long))))
          → HasRuns (head ++ take (4 * (n + 1)) fields) count (n + 1) (start + long) mark_now
      run-in mark_now some inside marked =
          let first = start-in in let second = length-in in
          let ends : field_at run 0 + field_at run 2 ≡ start + long = omega (arith, first, second) in
          let next : 4 * n + 4 ≡ 4 * (n + 1) = omega arith in
          subst (λ k. HasRuns (head ++ take k fields) count (n + 1) (start + long) mark_now) next
          (subst (λ e. HasRuns (head ++ take (4 * n + 4) fields) count (n + 1) e mark_now) ends
          (subst (λ l. HasRuns l count (n + 1) (field_at run 0 + field_at run 2) mark_now) run-more
          (one-run-more (head ++ take (4 * n) fields) run count n end mark has below mark_now run-size fine-in
          (omega (arith, second, some)) (omega (arith, ends, inside))
          (λ place place_below. marked place place_below
          ∙ ap (λ s. mark place || (nat_le s place && nat_lt place (s + long))) (sym first)
          ∙ ap (λ l. mark place || (nat_le (field_at run 0) place && nat_lt place (field_at run 0 + l))) (sym second)))))

-- the runs by their number under another name
pub runs-same : (head fields : List ℕ) (count n i end : ℕ) (mark : ℕ → Bool) → n ≡ i → HasRuns (head ++ take (4 * i) fields) count i end mark → HasRuns (head ++ take (4 * n) fields) count n end mark
runs-same head fields count n i end mark same runs = subst (λ k. HasRuns (head ++ take (4 * k) fields) count k end mark) (sym same) runs

-- WHAT WAS TAKEN of fields that break no rule.
module _ (head fields : List ℕ) (count : ℕ) (mark : ℕ → Bool) (taken : Taken) (has : HasFields head count fields mark taken) where
  -- the unit has more, while a run is to come
  pub fields-cut : length fields < 4 * count → IsCut (head ++ fields)
  fields-cut fewer =
      let n = taken.runs in
      let own = drop (4 * n) fields in
      let whole = has.whole in let few = has.few in
      let size : length own + 4 * n ≡ length fields = omega (arith, whole, length-drop (4 * n) fields) in
      let below : n < count = omega (arith, whole, fewer) in
      subst IsCut (append_assoc head (take (4 * n) fields) own ∙ ap (λ l. head ++ l) (take-append-drop (4 * n) fields)) (elim (leb_tells 2 (length own)) [
        | inl some ↦
            cut-in-length (head ++ take (4 * n) fields) own count n taken.end mark has.runs below (omega (arith, size, few))
            (subst (λ v. (v < 37_856) × (0 < n → taken.end < v)) (sym (field_at-rest fields (4 * n) 0 ∙ ap (field_at fields) (zero_more (4 * n)))) (has.start (let s = some.1 in omega (arith, s, size))))
        | inr none ↦ cut-in-start (head ++ take (4 * n) fields) own count n taken.end mark has.runs below none.1
      ])

  -- all its runs were taken
  pub fields-all : length fields ≡ 4 * count → HasRuns (head ++ fields) count count taken.end mark
  fields-all size =
      let whole = has.whole in let few = has.few in
      let same : taken.runs ≡ count = omega (arith, whole, few, size) in
      subst (λ n. HasRuns (head ++ fields) count n taken.end mark) same
      (subst (λ l. HasRuns (head ++ l) count taken.runs taken.end mark) (take_all (4 * taken.runs) fields (omega (arith, same, size))) has.runs)

  -- they are the first of more fields too
  pub fields-grow : (more own : List ℕ) → more ≡ fields ++ own → HasRuns (head ++ take (4 * taken.runs) more) count taken.runs taken.end mark
  fields-grow more own is =
      subst (λ l. HasRuns (head ++ l) count taken.runs taken.end mark) (sym (take-append-le (4 * taken.runs) fields own has.whole) ∙ ap (take (4 * taken.runs)) (sym is)) has.runs

-- fields and more of them, by their number
pub length-grow : (more fields own : List ℕ) (most : ℕ) → more ≡ fields ++ own → length fields + length own ≤ most → length more ≤ most
length-grow more fields own most is within = omega (arith, ap length is, length-append fields own, within)

-- FIELDS BY PIECES. After the bytes of the rows the number of runs came, and then these fields, of which so many runs
-- are whole.
pub record TakesFields (rows : List ℕ) (count : ℕ) (fields : List ℕ) (mark : ℕ → Bool) (taken : Taken) (old new : Bytes) : Type 0 where
  pub number : List ℕ
  pub consumed : Consumes old new (number ++ fields)
  pub has : HasFields (rows ++ number) count fields mark taken

-- at first there are none
pub fields-begun : (rows : List ℕ) (mark : ℕ → Bool) → AreRows rows mark → (old new : Bytes) (count : ℕ) → TakesField old new count → count ≤ 18_928
    → (fields : List ℕ) → fields ≡ [] → TakesFields rows count fields mark (record { runs = 0; end = 0 }) old new
fields-begun rows mark are old new count field few fields none =
    let first = number-taken rows mark are old new count field few in
    subst (λ l. TakesFields rows count l mark (record { runs = 0; end = 0 }) old new) (sym none) (record {
      number = first.own;
      consumed = subst (Consumes old new) (sym (append-nil first.own)) first.taken;
      has = record {
        runs = subst (λ l. HasRuns l count 0 0 mark) (sym (append-nil (rows ++ first.own))) first.runs;
        whole = omega arith;
        few = omega arith;
        start = λ is_there. absurd (omega (arith, is_there));
      };
    })

module _ (rows : List ℕ) (count : ℕ) (fields : List ℕ) (mark : ℕ → Bool) (taken : Taken) (old mid : Bytes) (t : TakesFields rows count fields mark taken old mid) (new : Bytes) where
  -- more fields come
  pub fields-come : (own : List ℕ) → Consumes mid new own → Consumes old new (t.number ++ (fields ++ own))
  fields-come own more = subst (Consumes old new) (append_assoc t.number fields own) (Consumes-then old mid new (t.number ++ fields) own t.consumed more)

  -- the rows and the number are 37,858 bytes
  head-size : length (rows ++ t.number) ≡ 37_858
  head-size =
      let size = t.has.runs.size in let whole = t.has.whole in
      omega (arith, size, whole, length-append (rows ++ t.number) (take (4 * taken.runs) fields), length-take (4 * taken.runs) fields)

  -- nothing comes, though there are runs to come: the unit isn't fetched
  pub stopped-in-fields : length fields < 4 * count → (answer : FetchAnswer) → TakesNone (37_858 + length fields) mid new answer → IsStopped rows old new answer
  stopped-in-fields fewer Full none = absurd none
  stopped-in-fields fewer End none = absurd none
  stopped-in-fields fewer (BadMarks at) none = absurd none
  stopped-in-fields fewer (Short got) none = record {
    own = t.number ++ (fields ++ []);
    taken = fields-come [] none.1;
    stops = (
      (let h = head-size in let is = none.0 in omega (arith, is, h, length-append rows t.number, length-append rows (t.number ++ (fields ++ [])), length-append t.number (fields ++ []), length-append fields [])),
      none.2,
      cut,
    );
  } where
    cut : IsCut (rows ++ (t.number ++ (fields ++ [])))
    cut = subst (λ l. IsCut (rows ++ (t.number ++ l))) (sym (append-nil fields)) (subst IsCut (append_assoc rows t.number fields) (fields-cut (rows ++ t.number) fields count mark taken t.has fewer))
  stopped-in-fields fewer ReadFault none = record {
    own = t.number ++ (fields ++ []);
    taken = fields-come [] none;
    stops = subst (λ l. IsCut (rows ++ (t.number ++ l))) (sym (append-nil fields)) (subst IsCut (append_assoc rows t.number fields) (fields-cut (rows ++ t.number) fields count mark taken t.has fewer));
  }

  -- all runs are there
  pub fields-whole : length fields ≡ 4 * count → Consumes mid new [] → TakesAll rows mark old new
  fields-whole size none = record {
    count = count;
    end = taken.end;
    takes = record {
      own = t.number ++ (fields ++ []);
      taken = fields-come [] none;
      runs = subst (λ l. HasRuns (rows ++ (t.number ++ l)) count count taken.end mark) (sym (append-nil fields))
          (subst (λ l. HasRuns l count count taken.end mark) (append_assoc rows t.number fields) (fields-all (rows ++ t.number) fields count mark taken t.has size));
    };
  }

-- What is known of these fields before their runs are taken: they came, they are no more than those of so many runs,
-- and the runs that were taken are their first.
pub record AreFieldsMore (rows : List ℕ) (count : ℕ) (fields : List ℕ) (mark : ℕ → Bool) (taken : Taken) (old new : Bytes) : Type 0 where
  pub number : List ℕ
  pub came : Consumes old new (number ++ fields)
  pub few : length fields ≤ 4 * count
  pub first : HasRuns ((rows ++ number) ++ take (4 * taken.runs) fields) count taken.runs taken.end mark

-- the fields with more that came
pub fields-after : (rows : List ℕ) (count : ℕ) (fields : List ℕ) (mark : ℕ → Bool) (taken : Taken) (old mid : Bytes) → TakesFields rows count fields mark taken old mid
    → (new : Bytes) (all own : List ℕ) → all ≡ fields ++ own → length fields + length own ≤ 4 * count → Consumes mid new own → AreFieldsMore rows count all mark taken old new
fields-after rows count fields mark taken old mid t new all own is within more = record {
  number = t.number;
  came = subst (λ l. Consumes old new (t.number ++ l)) (sym is) (fields-come rows count fields mark taken old mid t new own more);
  few = length-grow all fields own (4 * count) is within;
  first = fields-grow (rows ++ t.number) fields count mark taken t.has all own is;
}

-- a field that breaks a rule
pub stopped-at-field : (rows number fields : List ℕ) (old new : Bytes) → Consumes old new (number ++ fields) → (answer : FetchAnswer) → BreaksIn ((rows ++ number) ++ fields) answer
    → IsStopped rows old new answer
stopped-at-field rows number fields old new came Full breaks = absurd breaks
stopped-at-field rows number fields old new came End breaks = absurd breaks
stopped-at-field rows number fields old new came (Short count) breaks = absurd breaks
stopped-at-field rows number fields old new came ReadFault breaks = absurd breaks
stopped-at-field rows number fields old new came (BadMarks at) breaks = record {
  own = number ++ fields;
  taken = came;
  stops = subst (λ l. IsBrokenAt l at) (append_assoc rows number fields) breaks;
}

-- it is reported as that, with the counts as they were
pub bad-counts : (answer : FetchAnswer) (old new : Seen) → IsBadMarks answer → HasGoneOn old new → FetchCounts answer old new
bad-counts Full old new is steady = absurd is
bad-counts End old new is steady = absurd is
bad-counts (Short count) old new is steady = absurd is
bad-counts ReadFault old new is steady = absurd is
bad-counts (BadMarks at) old new is steady = steady

-- so where an answer is that error
pub err-cause : {A : Type 0} (answer : Result A FetchAnswer) (error : FetchAnswer) (old new : Seen) → IsErrAnd answer (λ e. e ≡ error) → FetchCounts error old new → HasFetchCause answer old new
err-cause (Ok value) error old new is counts = absurd is
err-cause (Err e) error old new is counts = subst (λ a. FetchCounts a old new) (sym is) counts
