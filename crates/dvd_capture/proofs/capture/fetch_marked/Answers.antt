-- The proof of `fetch_marked` in src/capture.rt.
use Rattle.std.proofs.Common.{rules, ◌≡◌, ◌≢◌, ◌∙◌, ℕ, List, ◌++◌, length, take, sym, subst}
use Rattle.std.proofs.lemmas.List.{with_items_is}
use Rattle.dvd_capture.specs.Captured.{HasSize}
use Rattle.dvd_capture.specs.Inner.Putting.{ArePut}
use Rattle.dvd_capture.specs.Parts.{marks_rows, received_rows}
use Rattle.dvd_capture.specs.declared.capture.FetchAnswer.TheVariants.{Full}
use Rattle.dvd_capture.specs.declared.form.Form.TheVariants.{Marked}
use Rattle.dvd_capture.proofs.Fetching.{all_put}
use Rattle.dvd_capture.proofs.MarkedPlaces.{front_length}
use Rattle.dvd_capture.proofs.WorkParts.{marks-height, rows-height}
use Rattle.dvd_capture.proofs.capture.fetch_marked.Goals as goal

pub returns-then-eq : goal.returns-then-eq
returns-then-eq g c =
    let sized : HasSize Marked = search rules in
    let rows : List ℕ = c.fill_marked-answer.new.rows in
    let last : List ℕ = c.fill_marked-answer.new.last in
    let all : length rows ≡ 37_856 = c.fill_marked-answer.ensures.size in
    let held = with_items_is c.args.received.now.bytes rows (all ∙ sym c.args.received.now.size) in
    let begun = subst (λ (l : List ℕ). ArePut Marked (take 34_645 l ++ last) (received_rows c.put_first.new.received) (marks_rows c.put_first.new.marks) 169)
    held (c.put_first.ensures last) in
    let received = c.put_last.new.received in
    let marks = c.put_last.new.marks in
    c.fill_marked-answer.ensures.fetches (received_rows received) (marks_rows marks)
    (λ _. all_put Marked sized (received_rows received) (marks_rows marks) (take 34_645 rows ++ last)
    (rows-height received) (marks-height marks) (c.put_last.ensures (take 34_645 rows) (front_length rows all) begun))

pub returns-else-eq : goal.returns-else-eq
returns-else-eq g c =
    let other : c.fill_marked-answer.result ≢ Full = search rules in
    c.fill_marked-answer.ensures.fetches _ _ (λ is. absurd (other is))
