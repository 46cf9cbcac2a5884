-- The counts of the source by what was answered where a block or a frame was read.
use Rattle.std.proofs.Common.{◌≡◌, subst}
use Rattle.dvd_capture.specs.Fetching.{FetchCounts}
use Rattle.dvd_capture.specs.declared.capture.FetchAnswer.{FetchAnswer}
use Rattle.dvd_ports.specs.Seen.{Seen}

-- those of this answer
pub counts_of : (answer this : FetchAnswer) (old new : Seen) → answer ≡ this → FetchCounts answer old new → FetchCounts this old new
counts_of answer this old new is = subst (λ a. FetchCounts a old new) is
