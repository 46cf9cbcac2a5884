-- Ours: what is answered where a captured block is read.
use Rattle.std.specs.Prelude.{◌≡◌, ℕ, ◌<◌, Bool, List}
use Rattle.dvd_ports.specs.Causes.{HasFailed, HasGoneOn, HasMetEnd}
use Rattle.dvd_ports.specs.Seen.{Seen}
use Rattle.dvd_capture.specs.Captured.{BreaksAt, Captures, EndsAfter, FailsWithin}
use Rattle.dvd_capture.specs.declared.capture.FetchAnswer.{FetchAnswer}
use Rattle.dvd_capture.specs.declared.form.Form.{Form}
use Rattle.dvd_capture.specs.declared.capture.FetchAnswer.TheVariants.{Full, End, Short, ReadFault, BadMarks}

-- The counts of the source by what is answered: the one read that failed, or that met the end of the input, was its
-- last.
abbrev pub FetchCounts : FetchAnswer → Seen → Seen → Type 0
FetchCounts Full old new = HasGoneOn old new
FetchCounts End old new = HasMetEnd old new
FetchCounts (Short count) old new = HasMetEnd old new
FetchCounts ReadFault old new = HasFailed old new
FetchCounts (BadMarks at) old new = HasGoneOn old new

-- The answer says how much of a block a source gave, and these are the rows and marks of a whole one. After a fault,
-- and after the end of the input, nothing more was asked for.
pub record Fetches (form : Form) (old new : Seen) (rows : List (List ℕ)) (marks : List (List Bool)) (answer : FetchAnswer) : Type 0 where
  pub full : answer ≡ Full → Captures form old.bytes new.bytes rows marks
  pub end : answer ≡ End → EndsAfter form old.bytes new.bytes 0
  pub short : (count : ℕ) → answer ≡ Short count → (0 < count) × EndsAfter form old.bytes new.bytes count
  pub fault : answer ≡ ReadFault → FailsWithin form old.bytes new.bytes
  pub broken : (at : ℕ) → answer ≡ BadMarks at → BreaksAt form old.bytes new.bytes at
  pub counts : FetchCounts answer old new
