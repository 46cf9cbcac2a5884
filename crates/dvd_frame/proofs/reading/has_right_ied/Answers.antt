-- The proof of `has_right_ied` in src/reading.rt.
use Rattle.std.proofs.Common.{◌∙◌, sym, ap, subst, All, arith}
use Rattle.std.proofs.lemmas.List.Elements.{All-from_get_or, All-take}
use Rattle.coding.specs.Words.{IsByte}
use Rattle.dvd_frame.specs.Id.{has_check}
use Rattle.dvd_frame.proofs.IdChecks.{checked}
use Rattle.dvd_frame.proofs.reading.has_right_ied.Goals as goal

pub returns : goal.returns
returns c =
    let row = c.args.bytes.now in
    let six = c.copy_from_slice.new.self in
    let bytes : All IsByte six =
    subst (All IsByte) (sym c.copy_from_slice.ensures.after)
    (All-take IsByte 6 row (All-from_get_or IsByte row 0 (λ i within. omega (arith, c.type_inv.bytes i)))) in
    checked c.is_codeword.result six c.copy_from_slice.ensures.len bytes c.is_codeword.ensures ∙ ap has_check c.copy_from_slice.ensures.after
