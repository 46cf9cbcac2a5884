-- The proof of `Shelf::settle` in src/shelf.rt.
use Rattle.std.proofs.Common.{◌≡◌, ◌∙◌, ◌<◌, ℕ, length, get_or, set, ap, sym, arith}
use Rattle.std.proofs.lemmas.List.{get_or-map, length-map, map-set}
use Rattle.dvd_merge.specs.Join.{Table, unseen}
use Rattle.dvd_merge.specs.Merges.{table_of}
use Rattle.dvd_assemble.specs.Assembled.{with_frame}
use Rattle.dvd_assemble.specs.Shelves.{tables_of}
use Rattle.dvd_assemble.specs.Works.{captured}
use Rattle.dvd_assemble.proofs.Settling.{settled_none, settled_some}
use Rattle.dvd_assemble.proofs.shelf.Shelf.settle.Goals as goal

pub returns-in_err-k-clause-settled : goal.returns-in_err-k-clause-settled
returns-in_err-k-clause-settled c =
    sym (settled_none c.args.layout.now (tables_of c.args.self.now) (captured c.args.frame.now) (sym c.home_of.ensures.home ∙ c.in_err-k.was))

pub index_mut-requires : goal.index_mut-requires
index_mut-requires c =
    omega (arith, c.from-2.ensures, c.in_ok-k.ensures.block, c.requires, length-map c.args.self.now.blocks.items table_of, c.args.self.now.blocks.ok.0)

pub returns-clause-settled : goal.returns-clause-settled
returns-clause-settled c =
    let shelf = c.args.self.now in
    let frame = captured c.args.frame.now in
    let within : c.from-2.result < length shelf.blocks.items =
    omega (arith, c.from-2.ensures, c.in_ok-k.ensures.block, c.requires, length-map shelf.blocks.items table_of) in
    let here : table_of c.index_mut.result.now ≡ get_or (tables_of shelf) c.from-2.result unseen =
    ap table_of c.index_mut.ensures.value ∙ sym (get_or-map table_of shelf.blocks.items c.from-2.result c.index_mut.result.now unseen within) in
    map-set table_of shelf.blocks.items c.from-2.result c.join_into.new.merge
    ∙ ap (set (tables_of shelf) c.from-2.result)
    (c.join_into.ensures ∙ ap (λ (table : Table). with_frame c.from.result frame table) here)
    ∙ ap (λ (f : ℕ). set (tables_of shelf) c.from-2.result (with_frame f frame (get_or (tables_of shelf) c.from-2.result unseen))) c.from.ensures
    ∙ ap (λ (k : ℕ). set (tables_of shelf) k (with_frame c.in_ok-k.f frame (get_or (tables_of shelf) k unseen))) c.from-2.ensures
    ∙ sym (settled_some c.args.layout.now (tables_of shelf) frame c.in_ok-k.k c.in_ok-k.f (sym c.home_of.ensures.home ∙ c.in_ok-k.was))
