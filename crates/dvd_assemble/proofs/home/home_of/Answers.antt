-- The proof of `home_of` in src/home.rt.
use Rattle.std.proofs.Common.{rules, ◌≡◌, ◌∙◌, ℕ, Option, ap, sym}
use Rattle.std.specs.Option.{option_and_then, option_map}
use Rattle.coding.specs.Product.{line}
use Rattle.dvd_capture.specs.Answers.{marks_line}
use Rattle.dvd_assemble.specs.Home.{block_and_frame, home, home_in, id_word_in}
use Rattle.dvd_assemble.specs.Works.{frame_marks, frame_rows}
use Rattle.dvd_assemble.proofs.home.home_of.Goals as goal

pub returns-in_err-id-clause-home : goal.returns-in_err-id-clause-home
unfolding home
returns-in_err-id-clause-home c =
    let said : c.id_in.result ≡ id_word_in (line (frame_rows c.args.frame.now) 0) (marks_line (frame_marks c.args.frame.now) 0) = search rules in
    c.from_residual.ensures
    ∙ sym (ap (λ (word : Option ℕ). option_map block_and_frame (option_and_then (home_in c.args.layout.now) word)) (sym said ∙ c.in_err-id.was))

pub returns-clause-home : goal.returns-clause-home
unfolding home
returns-clause-home c =
    let said : c.id_in.result ≡ id_word_in (line (frame_rows c.args.frame.now) 0) (marks_line (frame_marks c.args.frame.now) 0) = search rules in
    c.home_of_id.ensures.home
    ∙ sym (ap (λ (word : Option ℕ). option_map block_and_frame (option_and_then (home_in c.args.layout.now) word)) (sym said ∙ c.in_ok-id.was))
