-- The proof of `Merge::see` in src/merge.rt.
use Rattle.std.proofs.Common.{◌≡◌, ◌∙◌, ℕ, List, [], sym, ap}
use Rattle.std.proofs.lemmas.List.{get_or_read_under}
use Rattle.coding.specs.Product.{line}
use Rattle.dvd_merge.specs.Join.{join}
use Rattle.dvd_merge.specs.Planes.{place_from}
use Rattle.dvd_merge.specs.declared.place.Place.{Place}
use Rattle.dvd_merge.specs.declared.place.Place.TheVariants.{Value}
use Rattle.dvd_merge.proofs.MergeTables.{codes-height, values-height}
use Rattle.dvd_merge.proofs.PlaceLanes.{place-again}
use Rattle.dvd_merge.proofs.Tables.{place-set}
use Rattle.dvd_merge.proofs.merge.Merge.see.Goals as goal

pub returns : goal.returns
returns c =
    let values : List (List ℕ) = c.args.self.now.values.items in
    let codes : List (List ℕ) = c.args.self.now.codes.items in
    let in_values : c.index_mut.result.now ≡ line values c.args.i = get_or_read_under values c.args.i 208 c.index_mut.result.now [] c.index_mut.ensures.value c.requires.row (sym (values-height c.args.self.now)) in
    let in_codes : c.index_mut-2.result.now ≡ line codes c.args.i = get_or_read_under codes c.args.i 208 c.index_mut-2.result.now [] c.index_mut-2.ensures.value c.requires.row (sym (codes-height c.args.self.now)) in
    place-set values codes c.args.i c.index_mut.result.now c.index_mut-2.result.now c.args.j c.byte.result c.code.result _ in_values in_codes
    ((λ n. place_from (c.byte.ensures n) (c.code.ensures n)) ∙ place-again c.join-place.result ∙ c.join-place.ensures
    ∙ ap (λ (known : Place). join known (Value c.args.byte)) c.place.ensures)
