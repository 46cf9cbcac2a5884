-- The proof of `has_right_edc` in src/reading.rt.
use Rattle.std.proofs.Common.{◌≡◌, ◌∙◌, ℕ, List, ap, take, drop, arith}
use Rattle.std.proofs.lemmas.List.{take_all, length-drop}
use Rattle.std.specs.Str.{bytes_eq}
use Rattle.dvd_frame.proofs.reading.has_right_edc.Goals as goal

pub returns : goal.returns
returns c =
    let tail = drop 2060 c.args.frame.now in
    let four : take 4 tail ≡ tail = take_all 4 tail (omega (arith, length-drop 2060 c.args.frame.now)) in
    c.eq.ensures ∙ ap (λ (l : List ℕ). bytes_eq l c.edc_of_parts.result) four ∙ ap (bytes_eq tail) c.edc_of_parts.ensures
