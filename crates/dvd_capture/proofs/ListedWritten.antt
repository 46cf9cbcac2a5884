-- The runs of marked places as they are written.
use Rattle.std.proofs.Common.{◌≡◌, ◌⊎◌, ◌∙◌, ℕ, zero, suc, ◌+◌, ◌-◌, ◌*◌, ◌<◌, ◌≤◌, ◌&&◌, ◌||◌, not, nat_le, nat_lt, Bool, true, false, List, [], ◌∷◌, ◌++◌, length, get_or, slice_index, All, inl, inr, refl, sym, ap, subst, arith, length-append, append_assoc, append-nil, Result, Ok, Err}
use Rattle.std.specs.Int.{to_be_bytes, w16}
use Rattle.std.specs.Result.{OnErr, OnOk}
use Rattle.dvd_ports.specs.Bytes.{Appends, Bytes}
use Rattle.std.proofs.lemmas.Bool.Decides.{leb_tells, nat_tests}
use Rattle.std.proofs.lemmas.Bool.{cases_lt}
use Rattle.std.proofs.lemmas.List.{get_or_append_left, get_or-append-add}
use Rattle.std.proofs.lemmas.List.Elements.{All-from_get_or}
use Rattle.std.proofs.lemmas.Nat.{from_be_bytes-to_be_bytes_2}
use Rattle.dvd_ports.specs.Whole.{AppendsPrefix}
use Rattle.dvd_ports.proofs.KnownLemmas.{Appends-none, Appends-then}
use Rattle.coding.specs.Product.{line}
use Rattle.coding.specs.Recording.{recording}
use Rattle.dvd_capture.specs.Answers.{marks_line}
use Rattle.dvd_capture.specs.Captured.{IsUnitOf}
use Rattle.dvd_capture.specs.Laws.{MarksHaveASpelling}
use Rattle.dvd_capture.specs.Listed.{field_at, mark_of, marked_by, run_count}
use Rattle.dvd_capture.specs.Listing.{AppendsPart, AppendsUnit}
use Rattle.dvd_capture.specs.Parts.{marks_rows}
use Rattle.dvd_capture.specs.declared.parts.Marks.{Marks}
use Rattle.dvd_capture.specs.Inner.Listing.{AppendsAll, AppendsSome, AreFields, AreMarked, HasRuns, IsFound, starts_below}
use Rattle.dvd_capture.proofs.ListedUnit.{marks-listed, rows-listed}
use Rattle.dvd_capture.proofs.RecordedRows.{length-recording, recording_captured}
use Rattle.dvd_capture.proofs.ListedFields.{field_at-after, number-unbroken, one-run-more}
use Rattle.dvd_capture.proofs.ListedTaken.{field-read, first-field, second-field}
use Rattle.dvd_capture.proofs.WorkParts.{marks-height, marks-width}
use Rattle.dvd_capture.proofs.RunStarts.{IsNextRun, counted-next, none_left, run-apart, same_starts-before, some-length, starts-few, starts-none}

-- a written field holds its value
pub field-written : (value : ℕ) → value < 65_536 → field_at (to_be_bytes w16 value) 0 ≡ value
field-written value small = sym (field-read (to_be_bytes w16 value) refl) ∙ from_be_bytes-to_be_bytes_2 value small

-- BYTES. Lists of bytes one after the other are one, and so are the fields that are written.
pub small-append : (a b : List ℕ) → ((k : ℕ) → slice_index a k < 256) → ((k : ℕ) → slice_index b k < 256) → (k : ℕ) → slice_index (a ++ b) k < 256
small-append a b first second k = elim (cases_lt k (length a)) [
  | inl lt ↦ subst (λ n. n < 256) (sym (get_or_append_left a b 0 k lt)) (first k)
  | inr le ↦
      let is : length a + (k - length a) ≡ k = omega arith in
      let same : slice_index (a ++ b) k ≡ slice_index b (k - length a) = ap (λ n. get_or (a ++ b) n 0) (sym is) ∙ get_or-append-add a b (k - length a) 0 in
      subst (λ n. n < 256) (sym same) (second (k - length a))
]

-- the two bytes of a field are below 256
pub small-field : (n k : ℕ) → slice_index (to_be_bytes w16 n) k < 256
small-field n zero = omega arith
small-field n (suc zero) = omega arith
small-field n (suc (suc k)) = omega arith

-- and so are the four bytes of a run
small-run : (start length : ℕ) (k : ℕ) → slice_index (to_be_bytes w16 start ++ to_be_bytes w16 length) k < 256
small-run start length k = small-append (to_be_bytes w16 start) (to_be_bytes w16 length) (small-field start) (small-field length) k

-- the marks below a place
abbrev pub below : (ℕ → Bool) → ℕ → ℕ → Bool
below mark end place = mark place && nat_lt place end

-- The first n runs of these marks were written, the last of which ends there.
pub record IsBegun (bytes : List ℕ) (mark : ℕ → Bool) (n end : ℕ) : Type 0 where
  pub runs : HasRuns bytes (starts_below mark 37_856) n end (below mark end)
  pub within : end ≤ 37_856
  pub clear : 0 < end → end < 37_856 → mark end ≡ false
  pub counted : starts_below mark end ≡ n

-- no mark is between the runs
between : (mark : ℕ → Bool) (place end start next : ℕ) → end ≤ start → start ≤ next → (end ≤ place → place < start → mark place ≡ false)
    → (start ≤ place → place < next → mark place ≡ true)
    → below mark next place ≡ (below mark end place || (nat_le start place && nat_lt place next))
between mark place end start next past order unmarked marked = by_end (leb_tells end place) where
  by_next : start ≤ place → (((nat_le next place ≡ true) × (next ≤ place)) ⊎ ((nat_le next place ≡ false) × (place < next)))
      → below mark next place ≡ (below mark end place || (nat_le start place && nat_lt place next))
  by_next high (inl is) = let far = is.1 in grind (arith, nat_tests)
  by_next high (inr is) = let near = is.1 in let here = marked high near in grind (arith, nat_tests)

  by_start : end ≤ place → (((nat_le start place ≡ true) × (start ≤ place)) ⊎ ((nat_le start place ≡ false) × (place < start)))
      → below mark next place ≡ (below mark end place || (nat_le start place && nat_lt place next))
  by_start high (inl is) = by_next is.1 (leb_tells next place)
  by_start high (inr is) = let here = unmarked high is.1 in grind (arith, nat_tests)

  by_end : (((nat_le end place ≡ true) × (end ≤ place)) ⊎ ((nat_le end place ≡ false) × (place < end)))
      → below mark next place ≡ (below mark end place || (nat_le start place && nat_lt place next))
  by_end (inl is) = by_start is.1 (leb_tells start place)
  by_end (inr is) = let near = is.1 in grind (arith, nat_tests)

-- ONE RUN MORE is written.
module _ (bytes : List ℕ) (mark : ℕ → Bool) (n end start next : ℕ) (begun : IsBegun bytes mark n end) (run : IsNextRun mark end start next)
    (more : n < starts_below mark 37_856) where
  -- below the start of the next run, n runs start
  same : starts_below mark start ≡ n
  same = same_starts-before mark n end start begun.counted run.starts

  -- the next run starts at a place of the block, as more than n runs start in it
  pub start-inside : start < 37_856
  start-inside = by_start (leb_tells 37_856 start) where
    by_start : (((nat_le 37_856 start ≡ true) × (37_856 ≤ start)) ⊎ ((nat_le 37_856 start ≡ false) × (start < 37_856))) → start < 37_856
    by_start (inl is) =
        let o = run.ends.least in let w = run.ends.within in let all : start ≡ 37_856 = omega (arith, is.1, o, w) in
        let last = ap (starts_below mark) all in absurd (omega (arith, same, last, more))
    by_start (inr is) = is.1

  -- the last of the runs written, if there is any, ends above place 0
  some_end : 0 < n → 0 < end
  some_end some = by_end (leb_tells 1 end) where
    by_end : (((nat_le 1 end ≡ true) × (1 ≤ end)) ⊎ ((nat_le 1 end ≡ false) × (end < 1))) → 0 < end
    by_end (inl is) = omega (arith, is.1)
    by_end (inr is) =
        let none : end ≡ 0 = omega (arith, is.1) in
        let counted = begun.counted in let first = ap (starts_below mark) none in let zero_starts = starts-none mark in absurd (omega (arith, counted, first, zero_starts, some))

  -- the four bytes of the next run: its start, and its length
  abbrev pub run_bytes : List ℕ
  run_bytes = to_be_bytes w16 start ++ to_be_bytes w16 (next - start)

  -- the first field of these is its start
  start_field : field_at run_bytes 0 ≡ start
  start_field = first-field (to_be_bytes w16 start) (to_be_bytes w16 (next - start)) refl ∙ field-written start (let s = start-inside in omega (arith, s))

  -- and the second its length
  length_field : field_at run_bytes 2 ≡ next - start
  length_field = second-field (to_be_bytes w16 start) (to_be_bytes w16 (next - start)) refl ∙ field-written (next - start) (let w = run.ends.within in omega (arith, w))

  -- with these after the others, the first n + 1 runs are written
  pub run-written : IsBegun (bytes ++ run_bytes) mark (n + 1) next
  run-written =
      let sf = start_field in let lf = length_field in let inside = start-inside in let some = some-length mark n end start next begun.clear begun.counted run start-inside in let w = run.ends.within in
      let ends : field_at run_bytes 0 + field_at run_bytes 2 ≡ next = omega (arith, sf, lf, some) in record {
        runs = subst (λ e. HasRuns (bytes ++ run_bytes) (starts_below mark 37_856) (n + 1) e (below mark next)) ends
            (one-run-more bytes run_bytes (starts_below mark 37_856) n end (below mark end) begun.runs more (below mark next) refl
            (omega (arith, sf, inside), λ past. let apart = run-apart mark n end start next begun.clear begun.counted run start-inside (some_end past) in omega (arith, sf, apart))
            (omega (arith, lf, some)) (omega (arith, ends, w))
            (λ place place_below. between mark place end start next run.starts.least run.ends.least (run.starts.passed place) (run.ends.passed place)
            ∙ ap (λ s. below mark end place || (nat_le s place && nat_lt place next)) (sym sf)
            ∙ ap (λ e. below mark end place || (nat_le (field_at run_bytes 0) place && nat_lt place e)) (sym ends)));
        within = w;
        clear = λ some_next inside_next. run.ends.found inside_next;
        counted = counted-next mark n end start next begun.clear begun.counted run start-inside;
      }

-- ALL RUNS are written.
pub all-written : (bytes : List ℕ) (mark : ℕ → Bool) (n end : ℕ) → IsBegun bytes mark n end → n ≡ starts_below mark 37_856 → HasRuns bytes n n end mark
all-written bytes mark n end begun all = record {
  size = begun.runs.size;
  number = begun.runs.number ∙ sym all;
  unbroken = begun.runs.unbroken;
  none = begun.runs.none;
  last = begun.runs.last;
  marks = λ place place_below. by_place place place_below (leb_tells end place) ∙ begun.runs.marks place place_below;
} where
  k : end + (37_856 - end) ≡ 37_856
  k = let w = begun.within in omega arith

  begins : (((nat_le 1 end ≡ true) × (1 ≤ end)) ⊎ ((nat_le 1 end ≡ false) × (end < 1))) → end < 37_856 → (end ≡ 0) ⊎ (mark end ≡ false)
  begins (inl is) inside = inr (begun.clear (omega (arith, is.1)) inside)
  begins (inr is) inside = inl (omega (arith, is.1))

  left : (place : ℕ) → end ≤ place → place < 37_856 → mark place ≡ false
  left place high inside =
      none_left mark end (37_856 - end) (begins (leb_tells 1 end) (omega arith)) (ap (starts_below mark) k ∙ sym all ∙ sym begun.counted) place high (omega (arith, k))

  by_place : (place : ℕ) → place < 37_856 → (((nat_le end place ≡ true) × (end ≤ place)) ⊎ ((nat_le end place ≡ false) × (place < end))) → mark place ≡ below mark end place
  by_place place inside (inl is) = let none = left place is.1 inside in let high = is.1 in grind (arith, nat_tests)
  by_place place inside (inr is) = let near = is.1 in grind (arith, nat_tests)

-- THE NUMBER is written after the bytes of the rows.
pub none-written : (rows : List ℕ) (mark : ℕ → Bool) → length rows ≡ 37_856 → IsBegun (rows ++ to_be_bytes w16 (starts_below mark 37_856)) mark 0 0
unfolding marked_by
none-written rows mark size =
    let bytes : List ℕ = rows ++ to_be_bytes w16 (starts_below mark 37_856) in
    let few = starts-few mark in
    let number : run_count bytes ≡ starts_below mark 37_856 = field_at-after rows (to_be_bytes w16 (starts_below mark 37_856)) 37_856 0 (omega (arith, size)) ∙ field-written (starts_below mark 37_856) (omega (arith, few)) in
    let whole : length bytes ≡ 37_858 = length-append rows (to_be_bytes w16 (starts_below mark 37_856)) ∙ omega (arith, size) in record {
      runs = record {
        size = omega (arith, whole);
        number = number;
        unbroken = number-unbroken bytes whole (omega (arith, number, few));
        none = λ is. refl;
        last = λ some. absurd (omega arith);
        marks = λ place place_below. none_below place (mark place);
      };
      within = omega arith;
      clear = λ some. absurd (omega arith);
      counted = starts-none mark;
    } where
      none_below : (place : ℕ) (b : Bool) → (b && nat_lt place 0) ≡ false
      none_below place b = grind (arith, nat_tests)

-- SOME RUNS ARE LEFT to be written: there are bytes for them.

-- a mark is the one sought, or the other one
other_mark : (value here : Bool) → (here ≡ value) ⊎ (here ≡ not value)
other_mark true true = inl refl
other_mark true false = inr refl
other_mark false true = inr refl
other_mark false false = inl refl

-- no place from this one to below `at` has the mark sought, where neither it has nor those after it
one_passed : (mark : ℕ → Bool) (value : Bool) (from at place : ℕ) → mark from ≡ not value → AreMarked mark (not value) (suc from) at
    → from ≤ place → place < at → (((nat_le (suc from) place ≡ true) × (suc from ≤ place)) ⊎ ((nat_le (suc from) place ≡ false) × (place < suc from))) → mark place ≡ not value
one_passed mark value from at place here rest least inside (inl is) = rest place is.1 inside
one_passed mark value from at place here rest least inside (inr is) = let same : place ≡ from = omega (arith, is.1, least) in ap mark same ∙ here

-- the search is over at this place, if it has the mark sought, or goes on after it
further : (mark : ℕ → Bool) (value : Bool) (from k at : ℕ) → (mark from ≡ value) ⊎ (mark from ≡ not value) → IsFound mark value (suc from) (suc from + k) at
    → (place : ℕ) × IsFound mark value from (from + suc k) place
further mark value from k at (inl is) rest = (
  from,
  record {
    least = omega arith;
    within = omega arith;
    passed = λ place least inside. absurd (omega arith);
    found = λ inside. is;
  },
)
further mark value from k at (inr is) rest = (
  at,
  record {
    least = let l = rest.least in omega arith;
    within = let w = rest.within in omega arith;
    passed = λ place least inside. one_passed mark value from at place is rest.passed least inside (leb_tells (suc from) place);
    found = λ inside. rest.found (omega arith);
  },
)

-- the first of k places from one on that has this mark, or the place after them all
find_place : (mark : ℕ → Bool) (value : Bool) (from k : ℕ) → (place : ℕ) × IsFound mark value from (from + k) place
find_place mark value from zero = (
  from,
  record {
    least = omega arith;
    within = omega arith;
    passed = λ place least inside. absurd (omega arith);
    found = λ inside. absurd (omega arith);
  },
)
find_place mark value from (suc k) =
    let (at, rest) = find_place mark value (suc from) k in further mark value from k at (other_mark value (mark from)) rest

-- the bytes that are left to be written, with which all runs of the unit are there
pub record HasRest (bytes : List ℕ) (mark : ℕ → Bool) : Type 0 where
  pub rest : List ℕ
  pub small : (k : ℕ) → slice_index rest k < 256
  pub count : ℕ
  pub end : ℕ
  pub runs : HasRuns (bytes ++ rest) count count end mark

-- there is a next run
next_run : (mark : ℕ → Bool) (end : ℕ) → end ≤ 37_856 → (start : ℕ) × (next : ℕ) × IsNextRun mark end start next
next_run mark end within =
    let (start, found) = find_place mark true end (37_856 - end) in
    let starts : IsFound mark true end 37_856 start = subst (λ all. IsFound mark true end all start) (omega (arith, within)) found in
    let inside : start ≤ 37_856 = starts.within in
    let (next, found_end) = find_place mark false start (37_856 - start) in
    (start, next, record { starts = starts; ends = subst (λ all. IsFound mark false start all next) (omega (arith, inside)) found_end })

-- there are bytes for the d runs that are left
pub rest-exists : (d : ℕ) (bytes : List ℕ) (mark : ℕ → Bool) (n end : ℕ) → IsBegun bytes mark n end → n + d ≡ starts_below mark 37_856 → HasRest bytes mark
rest-exists zero bytes mark n end begun all = record {
  rest = [];
  small = λ k. omega arith;
  count = n;
  end = end;
  runs = subst (λ l. HasRuns l n n end mark) (sym (append-nil bytes)) (all-written bytes mark n end begun (omega (arith, all)));
}
rest-exists (suc d) bytes mark n end begun all =
    let (start, next, run) = next_run mark end begun.within in
    let more : n < starts_below mark 37_856 = omega (arith, all) in
    let own = run_bytes bytes mark n end start next begun run more in
    let after = rest-exists d (bytes ++ own) mark (n + 1) next (run-written bytes mark n end start next begun run more) (omega (arith, all)) in record {
      rest = own ++ after.rest;
      small = small-append own after.rest (small-run start (next - start)) after.small;
      count = after.count;
      end = after.end;
      runs = subst (λ l. HasRuns l after.count after.count after.end mark) (append_assoc bytes own after.rest) after.runs;
    }

-- PUTTING fields, run by run: these bytes, after those of the rows, are the number and the first n runs.
pub record ArePut (rows : List ℕ) (mark : ℕ → Bool) (n end : ℕ) (own : List ℕ) : Type 0 where
  pub bytes : (k : ℕ) → slice_index own k < 256
  pub begun : IsBegun (rows ++ own) mark n end

module _ (rows : List ℕ) (mark : ℕ → Bool) (size : length rows ≡ 37_856) where
  -- the number alone
  pub number-put : (number : ℕ) → number ≡ starts_below mark 37_856 → ArePut rows mark 0 0 (to_be_bytes w16 number)
  number-put number is = record {
    bytes = small-field number;
    begun = subst (λ n. IsBegun (rows ++ to_be_bytes w16 n) mark 0 0) (sym is) (none-written rows mark size);
  }

  -- one run more
  pub one-more-put : (n end start next : ℕ) (own : List ℕ) → ArePut rows mark n end own → IsNextRun mark end start next → n < starts_below mark 37_856
      → ArePut rows mark (n + 1) next (own ++ (to_be_bytes w16 start ++ to_be_bytes w16 (next - start)))
  one-more-put n end start next own put run more =
      let piece : List ℕ = to_be_bytes w16 start ++ to_be_bytes w16 (next - start) in record {
        bytes = small-append own piece put.bytes (small-run start (next - start));
        begun = subst (λ l. IsBegun l mark (n + 1) next) (append_assoc rows own piece) (run-written (rows ++ own) mark n end start next put.begun run more);
      }

  -- all runs
  pub all-put : (n end : ℕ) (own : List ℕ) → n ≡ starts_below mark 37_856 → ArePut rows mark n end own → AreFields rows mark own
  all-put n end own all put = record { bytes = put.bytes; count = n; end = end; runs = all-written (rows ++ own) mark n end put.begun all }

-- a piece of which a front was written, and what is written before and after it
pub prefix-after : (old mid new : Bytes) (own piece rest : List ℕ) → Appends old mid own → AppendsPrefix mid new piece → AppendsPrefix old new (own ++ (piece ++ rest))
prefix-after old mid new own piece rest before part = record {
  taken = own ++ part.taken;
  rest = part.rest ++ rest;
  grows = Appends-then old mid new own part.taken before part.grows;
  whole = append_assoc own part.taken (part.rest ++ rest) ∙ ap (λ l. own ++ l) (sym (append_assoc part.taken part.rest rest) ∙ ap (λ l. l ++ rest) part.whole);
  more = λ none. part.more (prefix_empty part.rest rest none);
} where
  prefix_empty : (a b : List ℕ) → a ++ b ≡ [] → a ≡ []
  prefix_empty [] b none = refl
  prefix_empty (x ∷ a) b none = absurd (let size = ap length none in omega (arith, size))

-- what holds of an answer in each case
pub on_ok-map : {T E : Type 0} (r : Result T E) (P Q : Type 0) → (P → Q) → OnOk r P → OnOk r Q
on_ok-map (Ok v) P Q f p = f p
on_ok-map (Err e) P Q f p = p

pub on_err-map : {T E : Type 0} (r : Result T E) (P Q : Type 0) → (P → Q) → OnErr r P → OnErr r Q
on_err-map (Ok v) P Q f p = p
on_err-map (Err e) P Q f p = f p

-- the list of the runs was written, after the bytes of rows
pub list-written : (before : List ℕ) (mark : ℕ → Bool) (own bytes : List ℕ) (old new : Bytes) → AreFields before mark own → bytes ≡ own → Appends old new bytes
    → AppendsAll before mark old new
list-written before mark own bytes old new are is grows = record { own = own; are = are; grows = subst (Appends old new) is grows }

-- or a front of it
pub list-begun : (before : List ℕ) (mark : ℕ → Bool) (own bytes : List ℕ) (old new : Bytes) → AreFields before mark own → bytes ≡ own → AppendsPrefix old new bytes
    → AppendsSome before mark old new
list-begun before mark own bytes old new are is part = record { own = own; are = are; part = subst (AppendsPrefix old new) is part }

-- THE BYTES OF THE ROWS, and the whole unit.
module _ (rows : List (List ℕ)) (height : length rows ≡ 208) (widths : (i : ℕ) → i < length rows → length (line rows i) ≡ 182) where
  -- each of the rows has 182 bytes
  wide : All (λ row. length row ≡ 182) rows
  wide = All-from_get_or (λ row. length row ≡ 182) rows [] widths

  -- recorded they are 37,856 bytes
  pub recording_size : length (recording rows) ≡ 37_856
  recording_size = length-recording rows height wide

  module _ (marks : List (List Bool)) (marks_height : length marks ≡ 208) (marks_widths : (i : ℕ) → i < 208 → length (marks_line marks i) ≡ 182) where
    -- the recording of the rows, and after it all runs of the marks, is the unit of both
    pub unit-of : (own : List ℕ) → ((k : ℕ) → slice_index own k < 256) → (count end : ℕ) → HasRuns (recording rows ++ own) count count end (mark_of marks)
        → IsUnitOf rows marks (recording rows ++ own)
    unit-of own small count end runs = record {
      size = runs.size ∙ ap (λ n. 37_858 + 4 * n) (sym runs.number);
      valid = runs.unbroken;
      rows_are = rows-listed (recording rows) own recording_size ∙ recording_captured rows height wide;
      marks_are = sym (marks-listed marks (recording rows ++ own) count marks_height marks_widths runs.number runs.marks);
      fields = λ offset past.
          let is : length (recording rows) + (offset - 37_856) ≡ offset = omega (arith, recording_size, past) in
          let same : slice_index (recording rows ++ own) offset ≡ slice_index own (offset - 37_856) =
          ap (λ n. get_or (recording rows ++ own) n 0) (sym is) ∙ get_or-append-add (recording rows) own (offset - 37_856) 0 in
          subst (λ n. n < 256) (sym same) (small (offset - 37_856));
    }

  -- the same of the marks of a captured block
  module _ (marks : Marks) where
    unit-of-marks : (own : List ℕ) → ((k : ℕ) → slice_index own k < 256) → (count end : ℕ) → HasRuns (recording rows ++ own) count count end (mark_of (marks_rows marks))
        → IsUnitOf rows (marks_rows marks) (recording rows ++ own)
    unit-of-marks = unit-of (marks_rows marks) (marks-height marks) (marks-width marks)

    -- the rows were written, and all runs
    pub unit-written : (old mid new : Bytes) → Appends old mid (recording rows) → AppendsAll (recording rows) (mark_of (marks_rows marks)) mid new
        → AppendsUnit old new rows (marks_rows marks)
    unit-written old mid new before all = record {
      unit = recording rows ++ all.own;
      is_unit = unit-of-marks all.own all.are.bytes all.are.count all.are.end all.are.runs;
      grows = Appends-then old mid new (recording rows) all.own before all.grows;
    }

    -- or some of them
    pub runs-begun : (old mid new : Bytes) → Appends old mid (recording rows) → AppendsSome (recording rows) (mark_of (marks_rows marks)) mid new
        → AppendsPart old new rows (marks_rows marks)
    runs-begun old mid new before some = record {
      unit = recording rows ++ some.own;
      is_unit = unit-of-marks some.own some.are.bytes some.are.count some.are.end some.are.runs;
      part = subst (λ l. AppendsPrefix old new (recording rows ++ l)) (append-nil some.own) (prefix-after old mid new (recording rows) some.own [] before some.part);
    }

    -- or a front of the rows
    pub rows-begun : (old new : Bytes) → AppendsPrefix old new (recording rows) → AppendsPart old new rows (marks_rows marks)
    rows-begun old new part =
        let mark = mark_of (marks_rows marks) in
        let number = to_be_bytes w16 (starts_below mark 37_856) in
        let after = rest-exists (starts_below mark 37_856) (recording rows ++ number) mark 0 0 (none-written (recording rows) mark recording_size) (omega arith) in record {
          unit = recording rows ++ (number ++ after.rest);
          is_unit = unit-of-marks (number ++ after.rest) (small-append number after.rest (small-field (starts_below mark 37_856)) after.small) after.count after.end
              (subst (λ l. HasRuns l after.count after.count after.end mark) (append_assoc (recording rows) number after.rest) after.runs);
          part = prefix-after old old new [] (recording rows) (number ++ after.rest) (Appends-none old) part;
        }

-- any rows and marks have a unit
pub some_spelling : MarksHaveASpelling
some_spelling rows marks height wide_rows marks_height wide_marks =
    let widths = λ (i : ℕ) (inside : i < length rows). wide_rows i [] inside in
    let marks_widths = λ (i : ℕ) (inside : i < 208). wide_marks i [] (omega arith) in
    let number = to_be_bytes w16 (starts_below (mark_of marks) 37_856) in
    let begun = none-written (recording rows) (mark_of marks) (recording_size rows height widths) in
    let after = rest-exists (starts_below (mark_of marks) 37_856) (recording rows ++ number) (mark_of marks) 0 0 begun (omega arith) in (
      recording rows ++ (number ++ after.rest),
      unit-of rows height widths marks marks_height marks_widths (number ++ after.rest)
          (small-append number after.rest (small-field (starts_below (mark_of marks) 37_856)) after.small) after.count after.end
          (subst (λ l. HasRuns l after.count after.count after.end (mark_of marks)) (append_assoc (recording rows) number after.rest) after.runs),
    )
