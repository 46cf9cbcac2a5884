-- The proof of `fill_located` in src/errors.rt.
use Rattle.std.proofs.Common.{◌≡◌, ℕ, Bool, List, length, subst, ap, ◌∙◌, arith}
use Rattle.std.proofs.lemmas.Result.{IfOk-weaker, on_err_weaker}
use Rattle.coding.specs.Words.{IsNear}
use Rattle.rs_code.specs.Inner.PowerSums.{points_of}
use Rattle.rs_code.proofs.Syndromes.{length-syndromes_of}
use Rattle.coding.specs.Filling.{IsFilling}
use Rattle.rs_decode.specs.Inner.Locator.{with_zeros}
use Rattle.rs_decode.specs.Register.{Generates, IsLeast}
use Rattle.rs_decode.proofs.Fillings.{points-few}
use Rattle.rs_decode.proofs.OneNear.{filling_once}
use Rattle.rs_decode.proofs.ErrorsFound.{located-by_shortest}
use Rattle.rs_decode.proofs.Zeros.{with_zeros-one}
use Rattle.rs_decode.proofs.errors.fill_located.Goals as goal
use Rattle.rs_decode.proofs.errors.fill_located.Goals.{After-shortest-locator, Then-locator-eq0}

pub sums_without-requires-clause-enough : goal.sums_without-requires-clause-enough
sums_without-requires-clause-enough g c =
    let erasures = c.args.erasures.now in
    let few = points-few erasures.marks erasures.points.items erasures.gathered in
    omega (arith, few, c.requires.few, ap length c.deref.ensures.0, ap length c.deref-2.ensures.0, ap length c.requires.syndromes, length-syndromes_of g.row.R c.args.word.now)

-- a near codeword fills the places that are marked or zeros of the locator
near_fills : (g : _) (c : After-shortest-locator g) (doubtful : List Bool)
    → doubtful ≡ with_zeros c.shortest-locator.result.taps.items c.args.erasures.now.marks (points_of (length c.args.erasures.now.marks))
    → (word : List ℕ) → IsNear g.row.N g.row.R c.args.word.now c.args.erasures.now.marks word → IsFilling g.row.N g.row.R c.args.word.now doubtful word
near_fills g c doubtful doubtful_is word near =
    let erasures = c.args.erasures.now in
    let few = points-few erasures.marks erasures.points.items erasures.gathered in
    let points_are = c.deref.ensures.0 in
    let locator = c.shortest-locator.result in
    located-by_shortest g.row.N g.row.R locator.len c.args.word.now word erasures.marks doubtful c.deref.result.now c.deref-2.result.now c.sums_without.result.items locator.taps.items
    (omega (arith, c.args.code.now.bounds)) c.told-word erasures.size c.requires.bytes (points_are ∙ erasures.gathered) (ap length points_are ∙ few)
    (c.deref-2.ensures.0 ∙ c.requires.syndromes) c.sums_without.ensures.are c.sums_without.ensures.len
    (subst (λ xs. Generates locator.len locator.taps.items xs) c.deref-3.ensures.0 c.shortest-locator.ensures.generates)
    (subst (IsLeast locator.len) c.deref-3.ensures.0 c.shortest-locator.ensures.least)
    doubtful_is near

-- a locator that is 1 marks no place besides
no_more : (g : _) (c : Then-locator-eq0 g)
    → c.args.erasures.now.marks ≡ with_zeros c.shortest-locator.result.taps.items c.args.erasures.now.marks (points_of (length c.args.erasures.now.marks))
no_more g c =
    let locator = c.shortest-locator.result in
    let single : length locator.taps.items ≡ 1 = omega (arith, c.shortest-locator.ensures.generates.size, c.if-locator-eq0.true) in
    with_zeros-one locator.taps.items c.args.erasures.now.marks single c.shortest-locator.ensures.generates.first

pub returns-then-locator-eq0-clause-nearest : goal.returns-then-locator-eq0-clause-nearest
returns-then-locator-eq0-clause-nearest g c =
    IfOk-weaker c.fill_from.result _ _ (λ _ filled near is_near.
    filling_once g.row.N g.row.R c.args.word.now c.args.erasures.now.marks near c.fill_from.new.word (omega (arith, c.args.code.now.bounds)) c.args.erasures.now.size
    (near_fills g (goal.at.returns-then-locator-eq0-clause-nearest g c).After-shortest-locator c.args.erasures.now.marks (no_more g (goal.at.returns-then-locator-eq0-clause-nearest g c).Then-locator-eq0) near is_near) filled)
    c.fill_from.ensures.ok

pub returns-then-locator-eq0-clause-beyond : goal.returns-then-locator-eq0-clause-beyond
returns-then-locator-eq0-clause-beyond g c =
    on_err_weaker c.fill_from.result
    (λ none word near. none word (near_fills g (goal.at.returns-then-locator-eq0-clause-beyond g c).After-shortest-locator c.args.erasures.now.marks (no_more g (goal.at.returns-then-locator-eq0-clause-beyond g c).Then-locator-eq0) word near))
    c.fill_from.ensures.err

pub returns-in-Some-clause-nearest : goal.returns-in-Some-clause-nearest
returns-in-Some-clause-nearest g c =
    let places = c.in-Some.places in
    IfOk-weaker c.fill_from-in-Some.result _ _ (λ _ filled near is_near.
    filling_once g.row.N g.row.R c.args.word.now places.marks near c.fill_from-in-Some.new.word (omega (arith, c.args.code.now.bounds)) places.size
    (near_fills g (goal.at.returns-in-Some-clause-nearest g c).After-shortest-locator places.marks (c.in-Some.ensures.1 ∙ c.mark_zeros.ensures) near is_near) filled)
    c.fill_from-in-Some.ensures.ok

pub returns-in-Some-clause-beyond : goal.returns-in-Some-clause-beyond
returns-in-Some-clause-beyond g c =
    on_err_weaker c.fill_from-in-Some.result
    (λ none word near. none word (near_fills g (goal.at.returns-in-Some-clause-beyond g c).After-shortest-locator c.in-Some.places.marks (c.in-Some.ensures.1 ∙ c.mark_zeros.ensures) word near))
    c.fill_from-in-Some.ensures.err

-- too many places would have to be filled
pub returns-in-None-clause-beyond : goal.returns-in-None-clause-beyond
returns-in-None-clause-beyond g c = λ word near.
    let filling = near_fills g (goal.at.returns-in-None-clause-beyond g c).After-shortest-locator c.mark_zeros.new.marks c.mark_zeros.ensures word near in
    absurd (omega (arith, filling.within, c.in-None.ensures))
