-- The proof of `Header::from_bytes` in src/header.rt.
use Rattle.std.proofs.Common.{rules, ◌≡◌, ◌∙◌, length, slice_index, refl, arith}
use Rattle.dvd_capture.proofs.Headers.{each_byte, header-is, shape-known, zones-known}
use Rattle.dvd_capture.proofs.header.Header.from_bytes.Goals as goal

pub invariant_of-result-clause-known_shape : goal.invariant_of-result-clause-known_shape
invariant_of-result-clause-known_shape c = shape-known (slice_index c.args.bytes.now 8) (c.loop-at.invariant 8 (omega arith))

pub invariant_of-result-clause-known_zones : goal.invariant_of-result-clause-known_zones
invariant_of-result-clause-known_zones c = zones-known (slice_index c.args.bytes.now 9) (c.loop-at.invariant 9 (omega arith))

pub returns-clause-fields : goal.returns-clause-fields
returns-clause-fields c =
    let size : length c.args.bytes.now ≡ 32 = search rules in
    header-is (slice_index c.args.bytes.now) (λ k below. c.loop-at.invariant k (omega arith)) (λ k below. search rules) _ refl refl
    c.number_at.ensures c.number_at-2.ensures c.number_at-3.ensures c.number_at-4.ensures
    ∙ each_byte c.args.bytes.now size
