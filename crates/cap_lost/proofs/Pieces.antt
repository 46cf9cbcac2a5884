-- A text that is written in pieces.
use Rattle.std.proofs.Common.{◌≡◌, ◌∙◌, ℕ, List, [], ◌∷◌, ◌++◌, length, take, drop, Result, Ok, Err, refl, ap, sym, subst, arith, append_assoc, append-nil, take-append-drop}
use Rattle.std.specs.Prelude.{IsErr}
use Rattle.dvd_ports.specs.Bytes.{Appends}
use Rattle.dvd_ports.specs.Causes.{HasFailed, HasGoneOn}
use Rattle.dvd_ports.specs.Seen.{Seen}
use Rattle.dvd_ports.specs.Whole.{AppendsPrefix, IsWritten}
use Rattle.dvd_ports.proofs.KnownLemmas.{Appends-none, Appends-then}
use Rattle.dvd_ports.proofs.StopLemmas.{fails_after, goes_on, unmoved}
use Rattle.cap_lost.specs.Inner.{IsUnwritten}
use Rattle.cap_lost.specs.Map.{last_end, extent_lines, last_lines, lines_from, sectors_line}
use Rattle.cap_lost.specs.declared.extent.Extent.{Extent}

-- nothing was written
pub none_written : (old : Seen) (whole : List ℕ) → IsUnwritten whole whole old old
none_written old whole = record { prefix = []; grows = Appends-none old.bytes; splits = refl; steady = unmoved old }

-- a piece more
pub more_written : (old mid new : Seen) (whole piece rest : List ℕ) → IsUnwritten whole (piece ++ rest) old mid → Appends mid.bytes new.bytes piece
    → HasGoneOn mid new → IsUnwritten whole rest old new
more_written old mid new whole piece rest left grows on = record {
  prefix = left.prefix ++ piece;
  grows = Appends-then old.bytes mid.bytes new.bytes left.prefix piece left.grows grows;
  splits = append_assoc left.prefix piece rest ∙ left.splits;
  steady = goes_on old mid new left.steady on;
}

-- the last piece
pub all_written : (old mid new : Seen) (whole piece : List ℕ) → IsUnwritten whole piece old mid → Appends mid.bytes new.bytes piece → Appends old.bytes new.bytes whole
all_written old mid new whole piece left grows =
    subst (Appends old.bytes new.bytes) left.splits (Appends-then old.bytes mid.bytes new.bytes left.prefix piece left.grows grows)

-- a front of the piece, where the sink failed
pub begun_then : (old mid new : Seen) (whole piece rest : List ℕ) → IsUnwritten whole (piece ++ rest) old mid → AppendsPrefix mid.bytes new.bytes piece
    → AppendsPrefix old.bytes new.bytes whole
begun_then old mid new whole piece rest left begun = record {
  taken = left.prefix ++ begun.taken;
  rest = begun.rest ++ rest;
  grows = Appends-then old.bytes mid.bytes new.bytes left.prefix begun.taken left.grows begun.grows;
  whole = append_assoc left.prefix begun.taken (begun.rest ++ rest) ∙ ap (λ l. left.prefix ++ l) (sym (append_assoc begun.taken begun.rest rest) ∙ ap (λ l. l ++ rest) begun.whole) ∙ left.splits;
  more = λ none. begun.more (no_prefix begun.rest none);
}
  where
    no_prefix : (prefix : List ℕ) → prefix ++ rest ≡ [] → prefix ≡ []
    no_prefix [] none = refl
    no_prefix (c ∷ cs) none = absurd cc

-- a write that failed, of which a front was taken
pub writes_failed : {E : Type 0} (answer : Result (Unit {0}) E) (bytes : List ℕ) (old new : Seen) → IsErr answer → AppendsPrefix old.bytes new.bytes bytes
    → HasFailed old new → IsWritten bytes old new answer
writes_failed (Ok value) bytes old new is begun failed = cc
writes_failed (Err fault) bytes old new is begun failed = record {
  written = tt;
  begun = begun;
  cause = record { failed = failed; steady = tt };
}

-- the last piece, whether it was written or not
pub last_written : {E : Type 0} (answer : Result (Unit {0}) E) (whole piece : List ℕ) (old mid new : Seen) → IsUnwritten whole piece old mid → IsWritten piece mid new answer
    → IsWritten whole old new answer
last_written (Ok value) whole piece old mid new left written = record {
  written = all_written old mid new whole piece left written.written;
  begun = tt;
  cause = record { failed = tt; steady = goes_on old mid new left.steady written.cause.steady };
}
last_written (Err fault) whole piece old mid new left written =
    let before : IsUnwritten whole (piece ++ []) old mid = subst (λ p. IsUnwritten whole p old mid) (sym (append-nil piece)) left in
    record {
      written = tt;
      begun = begun_then old mid new whole piece [] before written.begun;
      cause = record { failed = fails_after old mid new left.steady written.cause.failed; steady = tt };
    }

-- the lines of some extents, and those of the extents after them
pub lines_split : (at written total : ℕ) (prefix back : List Extent)
    → lines_from at (prefix ++ back) written total ≡ extent_lines at prefix ++ lines_from (last_end at prefix) back written total
lines_split at written total [] back = refl
lines_split at written total (e ∷ es) back =
    let own = sectors_line at e.from 43 ++ sectors_line e.from e.to 45 in
    append_assoc own (extent_lines e.to (es ++ back)) (last_lines (last_end e.to (es ++ back)) written total)
    ∙ ap (λ l. own ++ l) (lines_split e.to written total es back)
    ∙ sym (append_assoc own (extent_lines e.to es) (lines_from (last_end e.to es) back written total))

-- the same of a list that is cut
pub lines_cut : (at written total n : ℕ) (extents prefix back : List Extent) → prefix ≡ take n extents → back ≡ drop n extents
    → lines_from at extents written total ≡ extent_lines at prefix ++ lines_from (last_end at prefix) back written total
lines_cut at written total n extents prefix back is rest =
    ap (λ l. lines_from at l written total) (sym (take-append-drop n extents) ∙ ap (λ l. l ++ drop n extents) (sym is) ∙ ap (λ l. prefix ++ l) (sym rest))
    ∙ lines_split at written total prefix back

-- The lines of the extents that come next are the first of those that are left to be written.
pub next_lines : {whole : List ℕ} {old mid : Seen} (at written total n : ℕ) (extents prefix back : List Extent) → IsUnwritten whole (lines_from at extents written total) old mid
    → prefix ≡ take n extents → back ≡ drop n extents
    → IsUnwritten whole (extent_lines at prefix ++ lines_from (last_end at prefix) back written total) old mid
next_lines {whole} {old} {mid} at written total n extents prefix back left is rest =
    subst (λ l. IsUnwritten whole l old mid) (lines_cut at written total n extents prefix back is rest) left

-- no extent is left
pub none_left : (extents : List Extent) → length extents ≡ 0 → extents ≡ []
none_left [] none = refl
none_left (e ∷ es) none = absurd (omega (arith, none))
