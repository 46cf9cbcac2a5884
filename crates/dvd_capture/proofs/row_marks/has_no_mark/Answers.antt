-- The proof of `has_no_mark` in src/row_marks.rt.
use Rattle.std.proofs.Common.{◌≡◌, ◌∙◌, ℕ, true, false, List, replicate, take, sym, arith}
use Rattle.std.proofs.lemmas.Bool.Decides.{nat_tests}
use Rattle.dvd_capture.proofs.ClearMarks.{clear_prefix, clear_last, clear_marks}
use Rattle.dvd_capture.proofs.row_marks.has_no_mark.Goals as goal

pub returns-then-are_zeros : goal.returns-then-are_zeros
returns-then-are_zeros c =
    let row : List ℕ = c.args.row.now in
    let zeros : take 22 row ≡ replicate 22 0 = c.are_zeros.ensures.0 c.if-are_zeros.true in (
      λ small. clear_marks row c.told-row zeros (grind (arith, nat_tests, small)),
      λ clear. let small = clear_last row c.told-row c.fits-row clear in grind (arith, nat_tests, small),
    )

pub returns-else-are_zeros : goal.returns-else-are_zeros
returns-else-are_zeros c =
    let row : List ℕ = c.args.row.now in (
      λ is. absurd (let no : true ≡ false = sym is ∙ c.if-are_zeros.false in cc),
      λ clear. absurd (
          let no : true ≡ false = sym (c.are_zeros.ensures.1 (clear_prefix row c.told-row c.fits-row clear)) ∙ c.if-are_zeros.false in cc),
    )
