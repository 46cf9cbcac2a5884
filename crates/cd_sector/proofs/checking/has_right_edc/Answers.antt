-- The proof of `has_right_edc` in src/checking.rt.
use Rattle.std.proofs.Common.{◌≡◌, List, ℕ, take, drop, sym, ◌∙◌, ap, ◌++◌}
use Rattle.std.specs.Str.{bytes_eq}
use Rattle.std.proofs.lemmas.Slice.Eq.{bytes_eq-Decides}
use Rattle.cd_sector.specs.Edc.{cd_edc_of}
use Rattle.cd_sector.specs.Sector.{sync}
use Rattle.cd_sector.proofs.checking.has_right_edc.Goals as goal

pub returns : goal.returns
returns c =
    let part : List ℕ = take 4 (drop 2064 c.args.sector.now) in
    let want : List ℕ = cd_edc_of (sync ++ take 2052 (drop 12 c.args.sector.now)) in
    let is : c.eq.result ≡ bytes_eq part want = c.eq.ensures ∙ ap (bytes_eq part) c.edc_of_parts.ensures in (
      λ yes. (bytes_eq-Decides part want).0 (sym is ∙ yes),
      λ same. is ∙ (bytes_eq-Decides part want).1 same,
    )
