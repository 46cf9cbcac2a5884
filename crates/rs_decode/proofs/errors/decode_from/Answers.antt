-- The proof of `decode_from` in src/errors.rt.
use Rattle.std.proofs.Common.{◌≡◌, ◌≤◌, rules, sym, ap, ◌∙◌, arith}
use Rattle.rs_decode.specs.Errors.{error_count}
use Rattle.coding.specs.Filling.{marked}
use Rattle.rs_decode.proofs.Counting.{counts-from_near, IsNear-from_counts, error_count-self}
use Rattle.rs_decode.proofs.Fillings.{points-few}
use Rattle.rs_decode.proofs.LaneSums.{IsCodeword-from_zeros}
use Rattle.rs_decode.proofs.errors.decode_from.Goals as goal
use Rattle.rs_decode.proofs.errors.decode_from.Goals.{After-len-erased}

-- as many places are marked as there are points
erased_are_marked : (g : _) (c : After-len-erased g) → c.len-erased.result ≡ marked c.args.erasures.now.marks
erased_are_marked g c = c.len-erased.ensures.value ∙ points-few c.args.erasures.now.marks c.args.erasures.now.points.items c.args.erasures.now.gathered

pub returns-then-erased-clause-beyond : goal.returns-then-erased-clause-beyond
returns-then-erased-clause-beyond g c = λ word near.
    let erased = erased_are_marked g (goal.at.returns-then-erased-clause-beyond g c).After-len-erased in
    absurd (omega (arith, erased, c.if-erased.true, counts-from_near g.row.N g.row.R c.args.word.now word c.args.erasures.now.marks near))

pub returns-then-are_zeros-clause-near : goal.returns-then-are_zeros-clause-near
returns-then-are_zeros-clause-near g c =
    let word = c.args.word.now in
    let erasures = c.args.erasures.now in
    let erased = erased_are_marked g (goal.at.returns-then-are_zeros-clause-near g c).After-len-erased in
    let codeword = IsCodeword-from_zeros g.row.N g.row.R word c.deref.result.now c.told-word c.prove_bytes.ensures (c.deref.ensures.0 ∙ c.requires) (c.are_zeros.ensures.0 c.if-are_zeros.true) in
    IsNear-from_counts g.row.N g.row.R word word erasures.marks codeword c.told-word erasures.size (omega (arith, error_count-self word erasures.marks, erased, c.if-erased-eq0.true))

pub returns-then-are_zeros-clause-errors : goal.returns-then-are_zeros-clause-errors
returns-then-are_zeros-clause-errors g c = sym (error_count-self c.args.word.now c.args.erasures.now.marks)

pub returns-then-are_zeros-clause-erased : goal.returns-then-are_zeros-clause-erased
returns-then-are_zeros-clause-erased g c = omega (arith, erased_are_marked g (goal.at.returns-then-are_zeros-clause-erased g c).After-len-erased, c.if-erased-eq0.true)

pub fill_located-requires : goal.fill_located-requires
fill_located-requires g c =
    let few : marked c.args.erasures.now.marks ≤ g.row.R = omega (arith, erased_are_marked g (goal.at.fill_located-requires g c).After-len-erased, c.if-erased.false) in
    (search rules, (search rules, (search rules, (c.requires, (c.prove_bytes.ensures, few)))))

-- the codeword that was found is the only one that may be near, and it differs in too many places
pub returns-then-errors-erased-clause-beyond : goal.returns-then-errors-erased-clause-beyond
returns-then-errors-erased-clause-beyond g c = λ word near.
    let received = c.args.word.now in
    let marks = c.args.erasures.now.marks in
    let erased = erased_are_marked g (goal.at.returns-then-errors-erased-clause-beyond g c).After-len-erased in
    let counted : error_count received word marks ≡ c.count_errors-errors.result =
    ap (λ w. error_count received w marks) (c.in-Ok.ensures.nearest word near) ∙ sym c.count_errors-errors.ensures in
    absurd (omega (arith, counts-from_near g.row.N g.row.R received word marks near, erased, c.if-errors-erased.true))

pub returns-clause-near : goal.returns-clause-near
returns-clause-near g c =
    let erased = erased_are_marked g (goal.at.returns-clause-near g c).After-len-erased in
    IsNear-from_counts g.row.N g.row.R c.args.word.now c.fill_located.new.word c.args.erasures.now.marks c.in-Ok.ensures.codeword c.told-word c.args.erasures.now.size
    (omega (arith, erased, c.if-errors-erased.false, c.count_errors-errors.ensures))

pub returns-clause-erased : goal.returns-clause-erased
returns-clause-erased g c = erased_are_marked g (goal.at.returns-clause-erased g c).After-len-erased
