-- The proof of `id_in` in src/home.rt.
use Rattle.std.proofs.Common.{◌≡◌, ◌∙◌, ℕ, None, Some, sym, ap, if◌then◌else◌, Bool}
use Rattle.std.specs.Option.{option_and_then}
use Rattle.coding.specs.Nearest.{near_of}
use Rattle.dvd_capture.specs.Parts.{marks_of_row}
use Rattle.dvd_frame.specs.Frame.{found_word}
use Rattle.dvd_assemble.specs.Home.{checked_word, id_word_in}
use Rattle.dvd_assemble.proofs.home.id_in.Goals as goal

pub returns-in_err-word : goal.returns-in_err-word
unfolding id_word_in
returns-in_err-word c = c.from_residual.ensures ∙ sym (ap (option_and_then checked_word) (sym c.codeword_near.ensures ∙ c.in_err-word.was))

pub returns-then-has_right_ied : goal.returns-then-has_right_ied
unfolding id_word_in
returns-then-has_right_ied c =
    let near : near_of 182 10 c.args.row.now (marks_of_row c.args.marks.now) ≡ Some c.in_ok-word.word = sym c.codeword_near.ensures ∙ c.in_ok-word.was in
    sym (ap (option_and_then checked_word) near
    ∙ ap (λ (right : Bool). if right then Some (found_word c.in_ok-word.word) else None) (sym c.has_right_ied.ensures ∙ c.if-has_right_ied.true)
    ∙ ap (λ (word : ℕ). Some word) (sym c.found_id.ensures))

pub returns-else-has_right_ied : goal.returns-else-has_right_ied
unfolding id_word_in
returns-else-has_right_ied c =
    let near : near_of 182 10 c.args.row.now (marks_of_row c.args.marks.now) ≡ Some c.in_ok-word.word = sym c.codeword_near.ensures ∙ c.in_ok-word.was in
    sym (ap (option_and_then checked_word) near
    ∙ ap (λ (right : Bool). if right then Some (found_word c.in_ok-word.word) else None) (sym c.has_right_ied.ensures ∙ c.if-has_right_ied.false))
