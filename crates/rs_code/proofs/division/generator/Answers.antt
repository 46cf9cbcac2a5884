-- The proof of `generator` in src/division.rt.
use Rattle.std.proofs.Common.{rules, ◌≡◌, subst, sym}
use Rattle.rs_code.specs.Polynomials.{HasRoots}
use Rattle.rs_code.specs.declared.division.TheConstants.{PI_GENERATOR, PO_GENERATOR}
use Rattle.rs_code.proofs.Generator.{PI-generator, PO-generator}
use Rattle.rs_code.proofs.division.generator.Goals as goal

pub returns-in-10-clause-roots : goal.returns-in-10-clause-roots
returns-in-10-clause-roots c =
    let items : c.unwrap.result.items ≡ PI_GENERATOR = search rules in
    subst (λ n. HasRoots n c.unwrap.result.items) (sym c.in-10.is) (subst (HasRoots 10) (sym items) PI-generator)

pub returns-in-16-clause-roots : goal.returns-in-16-clause-roots
returns-in-16-clause-roots c =
    let items : c.unwrap-in-16.result.items ≡ PO_GENERATOR = search rules in
    subst (λ n. HasRoots n c.unwrap-in-16.result.items) (sym c.in-16.is) (subst (HasRoots 16) (sym items) PO-generator)
