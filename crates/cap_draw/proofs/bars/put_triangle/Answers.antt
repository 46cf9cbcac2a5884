-- The proof of `put_triangle` in src/bars.rt.
use Rattle.std.proofs.Common.{◌≡◌, ◌∙◌, ◌++◌, List, ℕ, ap}
use Rattle.std.specs.Prelude.{codes, decimal}
use Rattle.cap_draw.specs.Bars.{middle_of, title}
use Rattle.cap_draw.proofs.Texts.{more, more_pair, pair}
use Rattle.cap_draw.proofs.bars.put_triangle.Goals as goal

pub returns-clause-bytes : goal.returns-clause-bytes
returns-clause-bytes c =
    let page : List ℕ = c.args.page.now in
    let t1 : List ℕ = codes "<path d='M" ++ decimal (middle_of c.args.column.now) in
    let p1 : c.put_count.new.self ≡ page ++ t1 = pair page (codes "<path d='M") (decimal (middle_of c.args.column.now)) (c.put_count.ensures.bytes ∙ ap (λ n. page ++ codes "<path d='M" ++ decimal n) c.middle_of.ensures) in
    let t2 : List ℕ = t1 ++ codes " 0l5 14h-10z" in
    let p2 : c.put.new.self ≡ page ++ t2 = more page t1 (codes " 0l5 14h-10z") p1 c.put.ensures.bytes in
    let t3 : List ℕ = t2 ++ title c.args.column.now in
    let p3 : c.put_title.new.page ≡ page ++ t3 = more page t2 (title c.args.column.now) p2 c.put_title.ensures.bytes in
    let t4 : List ℕ = t3 ++ codes "refused " ++ decimal c.args.column.now.refused in
    let p4 : c.put_count-2.new.self ≡ page ++ t4 = more_pair page t3 (codes "refused ") (decimal c.args.column.now.refused) p3 c.put_count-2.ensures.bytes in
    more page t4 (codes "</title></path>\n") p4 c.put-2.ensures.bytes
