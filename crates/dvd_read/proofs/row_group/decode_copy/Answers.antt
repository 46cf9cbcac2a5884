-- The proof of `decode_copy` in src/row_group.rt.
use Rattle.std.proofs.Common.{◌≡◌, List, Bool, ℕ, MatchOption, None, length, sym, subst, arith}
use Rattle.std.specs.Prelude.{IfOk, OnErr, Result, Ok, Err}
use Rattle.std.specs.Result.{result_ok}
use Rattle.std.specs.declared.option.Option.{Option}
use Rattle.coding.specs.Filling.{marked}
use Rattle.coding.specs.Nearest.{near_of}
use Rattle.coding.specs.Words.{IsNear}
use Rattle.dvd_capture.specs.Answers.{IsFix}
use Rattle.rs_decode.specs.Errors.{HasNoneNear, error_count}
use Rattle.rs_decode.specs.declared.errors.Beyond.{Beyond}
use Rattle.rs_decode.specs.declared.errors.Fix.{Fix}
use Rattle.rs_decode.proofs.NearSearch.{near_of-some, none-near_of}
use Rattle.dvd_read.proofs.row_group.decode_copy.Goals as goal

-- what a decoder answers, as a fix or none
by_result : (row word : List ℕ) (marks : List Bool) (r : Result Fix Beyond) → length row ≡ 182 → length marks ≡ 182
    → IfOk r (λ _. IsNear 182 10 row marks word) → IfOk r (λ fix. fix.errors ≡ error_count row word marks) → IfOk r (λ fix. fix.erased ≡ marked marks)
    → OnErr r (HasNoneNear 182 10 row marks) → MatchOption (result_ok r) (near_of 182 10 row marks ≡ None) (IsFix row marks word)
by_result row word marks (Ok fix) size marks_size near errors erased none = (near_of-some 182 10 row word marks (omega arith) near, errors, erased)
by_result row word marks (Err beyond) size marks_size near errors erased none = none-near_of 182 10 row marks size marks_size none

pub returns : goal.returns
returns c =
    let row = c.args.row.now in
    let marks = c.args.erasures.now.marks in
    subst (λ (found : Option Fix). MatchOption found (near_of 182 10 row marks ≡ None) (IsFix row marks c.decode_from.new.word)) (sym c.ok.ensures.value)
    (by_result row c.decode_from.new.word marks c.decode_from.result c.told-row c.args.erasures.now.size c.decode_from.ensures.near c.decode_from.ensures.errors c.decode_from.ensures.erased
    c.decode_from.ensures.beyond)
