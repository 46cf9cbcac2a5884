-- The proof of `fetch_parts` in src/capture.rt.
use Rattle.dvd_capture.proofs.capture.fetch_parts.Goals as goal

pub returns-in-Listed : goal.returns-in-Listed
returns-in-Listed g c = rw c.in-Listed.is c.fetch_listed.ensures
