-- A listed unit by the bytes of its rows and by its runs.
use Rattle.std.proofs.Common.{◌≡◌, ◌∙◌, ℕ, ◌+◌, ◌*◌, ◌/◌, ◌%◌, ◌<◌, Bool, false, List, [], ◌++◌, length, map, take, get_or, replicate, refl, sym, ap, subst, arith, length-append}
use Rattle.std.specs.List.{range_with_len}
use Rattle.std.proofs.lemmas.List.{get_or-replicate}
use Rattle.std.proofs.lemmas.List.FromFn.{length-map-range_with_len, get_or-map-range_with_len}
use Rattle.dvd_ports.specs.Bytes.{Bytes}
use Rattle.dvd_ports.proofs.KnownLemmas.{Consumes-then}
use Rattle.coding.specs.Recording.{record_at, row_at}
use Rattle.dvd_capture.specs.Answers.{marks_line}
use Rattle.dvd_capture.specs.Captured.{BreaksAt, Captures, EndsAfter, FailsWithin, captured_marks, captured_rows, record_marks, record_of}
use Rattle.dvd_capture.specs.Listed.{listed_size, mark_of, marked_by, run_count}
use Rattle.dvd_capture.specs.Inner.Listing.{AreRows, IsFetched, IsStopped, TakesAll}
use Rattle.dvd_capture.specs.declared.capture.FetchAnswer.{FetchAnswer}
use Rattle.dvd_capture.specs.declared.capture.FetchAnswer.TheVariants.{Full, End, Short, ReadFault, BadMarks}
use Rattle.dvd_capture.specs.declared.form.Form.TheVariants.{Plain, Listed}
use Rattle.dvd_capture.proofs.ListedFields.{early-unbroken}
use Rattle.dvd_capture.proofs.Fetching.{part-append, record_at-lt, row_at-lt, row_at-record_at}
use Rattle.dvd_capture.proofs.Mapped.{mapped}

-- the rows are in the first bytes
pub rows-listed : (rows_bytes own : List ℕ) → length rows_bytes ≡ 37_856 → captured_rows Listed (rows_bytes ++ own) ≡ captured_rows Plain rows_bytes
unfolding captured_rows
rows-listed rows_bytes own size =
    mapped plain (map listed (range_with_len 0 208)) 208 [] (length-map-range_with_len listed 0 208)
    (λ i below.
    get_or-map-range_with_len listed 0 208 i i [] below (omega arith)
    ∙ ap (take 182) (part-append rows_bytes own (182 * record_at i) 182 (let m = record_at-lt i below in omega (arith, m, size))))
  where
    listed : ℕ → List ℕ
    listed i = take 182 (record_of Listed (rows_bytes ++ own) (record_at i))

    plain : ℕ → List ℕ
    plain i = take 182 (record_of Plain rows_bytes (record_at i))

-- the marks of rows by those of places
pub marks-listed : (marks : List (List Bool)) (bytes : List ℕ) (count : ℕ) → length marks ≡ 208 → ((i : ℕ) → i < 208 → length (marks_line marks i) ≡ 182)
    → run_count bytes ≡ count → ((place : ℕ) → place < 37_856 → mark_of marks place ≡ marked_by bytes count place) → marks ≡ captured_marks Listed bytes
unfolding captured_marks
marks-listed marks bytes count height width number same = mapped row marks 208 [] height each_row
  where
    mark_at : ℕ → ℕ → Bool
    mark_at m j = marked_by bytes (run_count bytes) (182 * m + j)

    row : ℕ → List Bool
    row i = record_marks Listed bytes (record_at i)

    at : (i j : ℕ) → i < 208 → j < 182 → get_or (get_or marks i []) j false ≡ mark_at (record_at i) j
    at i j below inside =
        let m = record_at-lt i below in
        let quotient : (182 * record_at i + j) / 182 ≡ record_at i = omega arith in
        let rest : (182 * record_at i + j) % 182 ≡ j = omega arith in
        let is_there : row_at ((182 * record_at i + j) / 182) ≡ i = ap row_at quotient ∙ row_at-record_at i below in
        ap (λ r. get_or (get_or marks r []) j false) (sym is_there)
        ∙ ap (λ k. get_or (get_or marks (row_at ((182 * record_at i + j) / 182)) []) k false) (sym rest)
        ∙ same (182 * record_at i + j) (omega (arith, m))
        ∙ ap (λ n. marked_by bytes n (182 * record_at i + j)) (sym number)

    each_row : (i : ℕ) → i < 208 → get_or marks i [] ≡ row i
    each_row i below = mapped (mark_at (record_at i)) (get_or marks i []) 182 false (width i below) (λ j. at i j below)

-- a plain block has no marks
pub rows-unmarked : (old new : Bytes) (rows : List (List ℕ)) (marks : List (List Bool)) (c : Captures Plain old new rows marks) → AreRows c.bytes (mark_of marks)
unfolding captured_marks
rows-unmarked old new rows marks c = (
  c.size,
  λ place least below.
      let m : row_at (place / 182) < 208 = row_at-lt (place / 182) (omega arith) in
      ap (λ (all : List (List Bool)). mark_of all place) c.marks_are
      ∙ ap (λ (l : List Bool). get_or l (place % 182) false) (get_or-map-range_with_len none 0 208 (row_at (place / 182)) (row_at (place / 182)) [] m (omega arith))
      ∙ get_or-replicate 182 (place % 182) false false (omega arith),
)
  where
    none : ℕ → List Bool
    none i = replicate 182 false

-- THE WHOLE UNIT, whose rows were captured before.
module _ (old mid new : Bytes) (rows : List (List ℕ)) (marks marks_now : List (List Bool)) (c : Captures Plain old mid rows marks)
    (height : length marks_now ≡ 208) (width : (i : ℕ) → i < 208 → length (marks_line marks_now i) ≡ 182) where
  -- all runs taken after the rows: the listed unit is captured, with the rows and with the marks of its runs
  unit-captured : TakesAll c.bytes (mark_of marks_now) mid new → Captures Listed old new rows marks_now
  unit-captured all = let runs = all.takes.runs in record {
    bytes = c.bytes ++ all.takes.own;
    size = runs.size ∙ ap (λ n. 37_858 + 4 * n) (sym runs.number);
    valid = runs.unbroken;
    taken = Consumes-then old mid new c.bytes all.takes.own c.taken all.takes.taken;
    rows_are = c.rows_are ∙ sym (rows-listed c.bytes all.takes.own c.size);
    marks_are = marks-listed marks_now (c.bytes ++ all.takes.own) all.count height width runs.number runs.marks;
  }

  -- the answer that the unit is full: it is captured
  pub unit-full : (answer : FetchAnswer) → IsFetched c.bytes (mark_of marks_now) mid new answer → answer ≡ Full → Captures Listed old new rows marks_now
  unit-full answer fetched is = unit-captured (subst (IsFetched c.bytes (mark_of marks_now) mid new) is fetched)

  -- no answer after the rows says that the source ended before the unit
  pub unit-end : (answer : FetchAnswer) → IsFetched c.bytes (mark_of marks_now) mid new answer → answer ≡ End → ⊥
  unit-end answer fetched is = subst (IsFetched c.bytes (mark_of marks_now) mid new) is fetched

  -- the answer that the unit is short: the source ended after so many of its bytes, one at least
  pub unit-short : (answer : FetchAnswer) (count : ℕ) → IsFetched c.bytes (mark_of marks_now) mid new answer → answer ≡ Short count → (0 < count) × EndsAfter Listed old new count
  unit-short answer count fetched is =
      let stop : IsStopped c.bytes mid new (Short count) = subst (IsFetched c.bytes (mark_of marks_now) mid new) is fetched in
      let (size, at_end, cut) = stop.stops in (
        omega (arith, size, length-append c.bytes stop.own, c.size),
        record {
          bytes = c.bytes ++ stop.own;
          size = sym size;
          taken = Consumes-then old mid new c.bytes stop.own c.taken stop.taken;
          fewer = subst (λ n. n < listed_size (c.bytes ++ stop.own)) (sym size) cut.fewer;
          valid = cut.unbroken;
          at_end = at_end;
        },
      )

  -- the answer that a read failed: it failed within the unit
  pub unit-fault : (answer : FetchAnswer) → IsFetched c.bytes (mark_of marks_now) mid new answer → answer ≡ ReadFault → FailsWithin Listed old new
  unit-fault answer fetched is =
      let stop : IsStopped c.bytes mid new ReadFault = subst (IsFetched c.bytes (mark_of marks_now) mid new) is fetched in record {
        bytes = c.bytes ++ stop.own;
        taken = Consumes-then old mid new c.bytes stop.own c.taken stop.taken;
        fewer = stop.stops.fewer;
      }

  -- the answer that the marks are bad: the first field of the unit that breaks a rule is there
  pub unit-broken : (answer : FetchAnswer) (at : ℕ) → IsFetched c.bytes (mark_of marks_now) mid new answer → answer ≡ BadMarks at → BreaksAt Listed old new at
  unit-broken answer at fetched is =
      let stop : IsStopped c.bytes mid new (BadMarks at) = subst (IsFetched c.bytes (mark_of marks_now) mid new) is fetched in record {
        listed = refl;
        bytes = c.bytes ++ stop.own;
        taken = Consumes-then old mid new c.bytes stop.own c.taken stop.taken;
        broken = stop.stops;
      }

-- a unit that ended, or failed, within its rows
pub rows-ended : (old new : Bytes) (count : ℕ) → EndsAfter Plain old new count → EndsAfter Listed old new count
rows-ended old new count e = record {
  bytes = e.bytes;
  size = e.size;
  taken = e.taken;
  fewer = omega (arith, e.fewer);
  valid = early-unbroken e.bytes (omega (arith, e.fewer, e.size));
  at_end = e.at_end;
}

-- a read that failed within the rows failed within the listed unit
pub rows-failed : (old new : Bytes) → FailsWithin Plain old new → FailsWithin Listed old new
rows-failed old new f = record { bytes = f.bytes; taken = f.taken; fewer = omega (arith, f.fewer) }
