-- The proof of `fetch_plain` in src/capture.rt.
use Rattle.std.proofs.Common.{rules, ◌≡◌, ◌≢◌, ◌∙◌, ℕ, List, length, sym, ap, arith}
use Rattle.std.proofs.lemmas.List.{with_items_is}
use Rattle.coding.specs.Recording.{record_at}
use Rattle.dvd_capture.specs.Parts.{marks_rows, received_bytes, received_rows, row_in}
use Rattle.dvd_capture.specs.declared.capture.FetchAnswer.TheVariants.{Full}
use Rattle.dvd_capture.proofs.RecordedFrames.{order_captured}
use Rattle.dvd_capture.proofs.Undamaged.{plain_marks}
use Rattle.dvd_capture.proofs.capture.fetch_plain.Goals as goal

pub returns-then-eq-clause-fetches : goal.returns-then-eq-clause-fetches
returns-then-eq-clause-fetches g c =
    let came : List ℕ = c.fill-answer.new.buffer in
    let size : length came ≡ c.args.received.now.bytes.len = omega (arith, c.fill-answer.ensures.size, c.args.received.now.size) in
    let held = with_items_is c.args.received.now.bytes came size in
    let rows = order_captured came (received_bytes c.put_in_order.new.self)
    (λ i below. c.put_in_order.ensures i below ∙ ap (λ (l : List ℕ). row_in l (record_at i)) held) in
    c.fill-answer.ensures.fetches (received_rows c.put_in_order.new.self) (marks_rows c.clear.new.self)
    (λ _. (rows, c.clear.ensures ∙ sym (plain_marks came)))

pub returns-else-eq-clause-fetches : goal.returns-else-eq-clause-fetches
returns-else-eq-clause-fetches g c =
    let other : c.fill-answer.result ≢ Full = search rules in
    c.fill-answer.ensures.fetches _ _ (λ is. absurd (other is))
