-- The fields of a listed unit as a source gives them.
use Rattle.std.proofs.Common.{◌≡◌, ◌∙◌, ℕ, ◌<◌, ◌≤◌, Bool, List, ◌++◌, length, Result, Ok, Err, refl, sym, subst, arith, length-append, append_assoc}
use Rattle.std.specs.Int.{from_be_bytes, w16}
use Rattle.std.specs.Result.{IfErr, IsErrAnd}
use Rattle.dvd_ports.specs.Bytes.{Bytes, Consumes}
use Rattle.byteorder.specs.Endian.{big_number}
use Rattle.dvd_ports.proofs.KnownLemmas.{Consumes-then}
use Rattle.dvd_capture.specs.Listed.{field_at, marked_by, run_count}
use Rattle.dvd_capture.specs.Inner.Listing.{AreRows, HasRuns, IsNoField, IsStop, IsStopped, TakesField, TakesRuns}
use Rattle.dvd_capture.specs.declared.capture.FetchAnswer.{FetchAnswer}
use Rattle.dvd_capture.specs.declared.capture.FetchAnswer.TheVariants.{Full, End, Short, ReadFault, BadMarks}
use Rattle.dvd_capture.proofs.ListedFields.{early-cut, field_at-append, field_at-after, number-broken, number-unbroken}

-- two fields one after the other
pub first-field : (start long : List ℕ) → length start ≡ 2 → field_at (start ++ long) 0 ≡ field_at start 0
first-field start long size = field_at-append start long 0 (omega arith)

-- the second is the field at offset 2
pub second-field : (start long : List ℕ) → length start ≡ 2 → field_at (start ++ long) 2 ≡ field_at long 0
second-field start long size = field_at-after start long 2 0 (omega arith)

-- what holds of the error that an answer is
pub if_err : {A : Type 0} (answer : Result A FetchAnswer) (error : FetchAnswer) (P : FetchAnswer → Type 0) → IsErrAnd answer (λ e. e ≡ error) → P error → IfErr answer P
if_err (Ok value) error P is holds = absurd is
if_err (Err e) error P is holds = subst P (sym is) holds

-- a field by its two bytes
pub field-read : (bytes : List ℕ) → length bytes ≡ 2 → from_be_bytes w16 bytes ≡ field_at bytes 0
unfolding field_at
field-read bytes size = omega arith

-- a field by the number that is read of it
pub field-number : (bytes : List ℕ) → big_number 2 bytes ≡ field_at bytes 0
unfolding field_at
field-number bytes = omega arith

-- THE NUMBER OF RUNS, after the bytes of the rows.
module _ (rows : List ℕ) (mark : ℕ → Bool) (are : AreRows rows mark) (old : Bytes) where
  -- the unit isn't fetched for want of it
  pub stopped-in-number : (new : Bytes) (answer : FetchAnswer) → IsNoField 37_856 old new answer → IsStopped rows old new answer
  stopped-in-number new Full missing = absurd missing
  stopped-in-number new End missing = absurd missing
  stopped-in-number new (BadMarks at) missing = absurd missing
  stopped-in-number new (Short got) missing = record {
    own = missing.own;
    taken = missing.taken;
    stops = (
      omega (arith, missing.is, are.0, length-append rows missing.own),
      missing.at_end,
      early-cut (rows ++ missing.own) (omega (arith, missing.fewer, are.0, length-append rows missing.own)),
    );
  }
  stopped-in-number new ReadFault missing = record {
    own = missing.taken;
    taken = missing.loses;
    stops = early-cut (rows ++ missing.taken) (omega (arith, missing.fewer, are.0, length-append rows missing.taken));
  }

  module _ (new : Bytes) (number : ℕ) (field : TakesField old new number) where
    -- the rows and the number of runs are 37,858 bytes
    size : length (rows ++ field.own) ≡ 37_858
    size = omega (arith, field.size, are.0, length-append rows field.own)

    -- and the number that was taken is the unit's number of runs
    number-is : run_count (rows ++ field.own) ≡ number
    number-is = field_at-after rows field.own 37_856 0 (let r = are.0 in omega arith) ∙ field.is

    -- there are too many
    pub stopped-at-number : 18_928 < number → IsStopped rows old new (BadMarks 37_856)
    stopped-at-number many = record {
      own = field.own;
      taken = field.taken;
      stops = number-broken (rows ++ field.own) size (let is = number-is in omega (arith, is, many));
    }

    -- there are at most 18,928: the unit goes on with none of its runs taken yet
    pub number-taken : number ≤ 18_928 → TakesRuns rows number 0 0 mark old new
    unfolding marked_by
    number-taken few = record {
      own = field.own;
      taken = field.taken;
      runs = record {
        size = let s = size in omega (arith, s);
        number = number-is;
        unbroken = number-unbroken (rows ++ field.own) size (let is = number-is in omega (arith, is, few));
        none = λ is. refl;
        last = λ some. absurd (omega arith);
        marks = λ place below. are.1 place (omega arith) below;
      };
    }

-- what is taken after what was taken
pub runs-after : (bytes : List ℕ) (old mid new : Bytes) (count n end next_end m : ℕ) (mark mark_now : ℕ → Bool)
    → (t : TakesRuns bytes count n end mark old mid) → TakesRuns (bytes ++ t.own) count m next_end mark_now mid new → TakesRuns bytes count m next_end mark_now old new
runs-after bytes old mid new count n end next_end m mark mark_now t more = record {
  own = t.own ++ more.own;
  taken = Consumes-then old mid new t.own more.own t.taken more.taken;
  runs = subst (λ l. HasRuns l count m next_end mark_now) (append_assoc bytes t.own more.own) more.runs;
}

-- a unit that isn't fetched after more of its bytes isn't fetched after these either
pub stopped-after : (bytes own : List ℕ) (old mid new : Bytes) (answer : FetchAnswer) → Consumes old mid own → IsStopped (bytes ++ own) mid new answer → IsStopped bytes old new answer
stopped-after bytes own old mid new answer takes more = record {
  own = own ++ more.own;
  taken = Consumes-then old mid new own more.own takes more.taken;
  stops = subst (λ l. IsStop l new answer) (append_assoc bytes own more.own) more.stops;
}

-- and so where an answer is the error that says why
pub stopped_result : {A : Type 0} (bytes own : List ℕ) (old mid new : Bytes) (error : FetchAnswer) (answer : Result A FetchAnswer) → IsErrAnd answer (λ e. e ≡ error)
    → Consumes old mid own → IsStopped (bytes ++ own) mid new error → IfErr answer (IsStopped bytes old new)
stopped_result bytes own old mid new error answer is takes more = if_err answer error (IsStopped bytes old new) is (stopped-after bytes own old mid new error takes more)
