-- The proof of `Erasures::none` in src/places.rt.
use Rattle.std.proofs.Common.{replicate, length, false, sym, ap, ◌∙◌, rules, arith}
use Rattle.std.proofs.lemmas.List.{length-replicate}
use Rattle.rs_code.specs.Inner.PowerSums.{points_of}
use Rattle.rs_decode.proofs.Marks.{picked-replicate}
use Rattle.rs_decode.proofs.places.Erasures.none.Goals as goal

pub invariant_of-result : goal.invariant_of-result
invariant_of-result g c = record {
  size = length-replicate g.row.N false;
  gathered = c.new.ensures ∙ sym (picked-replicate g.row.N (points_of (length (replicate g.row.N false))));
  same_points = search rules;
  located = λ i below. absurd (omega (arith, below, ap length c.new.ensures));
}
