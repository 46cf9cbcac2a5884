-- The proof of `repair` in src/repairing.rt.
use Rattle.std.proofs.Common.{◌≡◌, List, ℕ, ◌++◌, drop, refl, sym, subst, arith}
use Rattle.std.proofs.lemmas.List.{length-take-le}
use Rattle.cd_sector.specs.Causes.{IsCause, IsRightSector}
use Rattle.cd_sector.specs.Repair.{repaired}
use Rattle.cd_sector.specs.Words.{IsRight}
use Rattle.cd_sector.specs.declared.checking.CdCause.{CdCause}
use Rattle.cd_sector.proofs.NearWords.{refused}
use Rattle.cd_sector.proofs.RightWords.{repaired_words, parity_cause, sync_right}
use Rattle.cd_sector.proofs.repairing.repair.Goals as goal

pub returns-in-Some-clause-cause : goal.returns-in-Some-clause-cause
returns-in-Some-clause-cause c =
    parity_cause c.args.sector.now c.repair_words.new.sector c.in-Some.word c.args.address c.repair_words.ensures.words c.in-Some.ensures.some

pub copy_from_slice-requires : goal.copy_from_slice-requires
copy_from_slice-requires c = length-take-le 12 c.repair_words.new.sector (omega (arith, c.repair_words.ensures.size))

pub check_contents-requires-clause-words : goal.check_contents-requires-clause-words
check_contents-requires-clause-words c = λ word below.
    subst (λ (prefix : List ℕ). IsRight (prefix ++ drop 12 c.repair_words.new.sector) word) (sym c.copy_from_slice.ensures.after)
    (sync_right c.repair_words.new.sector word below (c.in_default.ensures.none refl word below))

pub returns-in_err-check_contents-clause-cause : goal.returns-in_err-check_contents-clause-cause
returns-in_err-check_contents-clause-cause c =
    let is : c.copy_from_slice.new.self ++ drop 12 c.repair_words.new.sector ≡ repaired c.args.sector.now =
    repaired_words c.args.sector.now c.copy_from_slice.new.self c.repair_words.new.sector c.copy_from_slice.ensures.after c.repair_words.ensures.words in
    refused c.from_residual.result (λ (cause : CdCause). IsCause (repaired c.args.sector.now) c.args.address cause) c.in_err-check_contents.field-0.0 c.from_residual.ensures.1
    (subst (λ (s : List ℕ). IsCause s c.args.address c.in_err-check_contents.field-0.0) is c.in_err-check_contents.ensures.refused)

pub returns-clause-repaired : goal.returns-clause-repaired
returns-clause-repaired c =
    repaired_words c.args.sector.now c.copy_from_slice.new.self c.repair_words.new.sector c.copy_from_slice.ensures.after c.repair_words.ensures.words

pub returns-clause-faultless : goal.returns-clause-faultless
returns-clause-faultless c = subst (λ (s : List ℕ). IsRightSector s c.args.address) (returns-clause-repaired c) c.in_ok-check_contents.ensures.right
