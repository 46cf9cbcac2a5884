-- What each iteration of the loop in `fetch_runs` keeps.
use Rattle.std.proofs.Common.{◌≤◌, ◌-◌, ◌*◌, ℕ, List}
use Rattle.arrayvec.specs.ArrayVec.{array_vec_len}
use Rattle.dvd_ports.specs.Causes.{HasGoneOn}
use Rattle.dvd_capture.specs.Listed.{mark_of}
use Rattle.dvd_capture.specs.Inner.Listing.{AreRows}
use Rattle.dvd_capture.specs.Parts.{marks_rows}
use Rattle.dvd_capture.proofs.ListedPieces.{TakesFields}
use Rattle.dvd_capture.proofs.listed.fetch_runs.Given as goal

abbrev pub invariant-loop-fields : goal.invariant-loop-fields
invariant-loop-fields g l = record {
  within : array_vec_len l.fields ≤ 4 * l.number;
  taken : 4 * l.taken.runs ≤ array_vec_len l.fields;
  fields : (before : List ℕ) → AreRows before (mark_of (marks_rows l.fn.marks))
      → TakesFields before l.number l.fields.items (mark_of (marks_rows l.marks)) l.taken (g.S.Source.seen l.fn.src).bytes (g.S.Source.seen l.src).bytes;
  steady : HasGoneOn (g.S.Source.seen l.fn.src) (g.S.Source.seen l.src);
}

abbrev pub decreases-loop-fields : goal.decreases-loop-fields
decreases-loop-fields g l = 4 * l.number - array_vec_len l.fields
