-- The proof of `edc_of_parts` in src/edc.rt.
use Rattle.std.proofs.Common.{List, ℕ, ◌++◌, ap, ◌∙◌, All, arith}
use Rattle.std.specs.Int.{to_le_bytes, w32}
use Rattle.std.proofs.lemmas.List.Elements.{All-append, All-from_get_or}
use Rattle.coding.specs.Words.{IsByte}
use Rattle.cd_sector.specs.Inner.Register.{after_reading}
use Rattle.cd_sector.proofs.Division.{edc_read, after_reading-append}
use Rattle.cd_sector.proofs.edc.edc_of_parts.Goals as goal

pub returns : goal.returns
returns c =
    let prefix : List ℕ = c.args.prefix.now in
    let back : List ℕ = c.args.back.now in
    let each : All IsByte (prefix ++ back) =
    All-append IsByte prefix back (All-from_get_or IsByte prefix 0 (λ i within. omega (arith, c.type_inv.prefix i))) (All-from_get_or IsByte back 0 (λ i within. omega (arith, c.type_inv.back i))) in
    c.to_le_bytes.ensures
    ∙ ap (to_le_bytes w32) (c.with_bytes-2.ensures ∙ ap (after_reading back) c.with_bytes.ensures ∙ after_reading-append prefix back 0)
    ∙ edc_read (prefix ++ back) each
