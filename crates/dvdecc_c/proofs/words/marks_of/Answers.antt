-- The proof of `marks_of` in src/words.rt.
use Rattle.std.proofs.Common.{◌≡◌, ◌∙◌, ℕ, Bool, false, get_or, map, not, ◌==◌, sym, refl, arith}
use Rattle.std.proofs.lemmas.List.{ext_get_or, get_or-map, length-map, length-replicate, length-set}
use Rattle.dvdecc_c.specs.Words.{lost_marks}
use Rattle.dvdecc_c.proofs.Filling.{filled-one_more}
use Rattle.dvdecc_c.proofs.words.marks_of.Goals as goal

pub loop-k-init : goal.loop-k-init
loop-k-init g c = record {
  size = length-replicate g.row.N false;
  said = λ j below. absurd (omega (arith, below));
}

pub loop-k-preserved : goal.loop-k-preserved
loop-k-preserved g c = record {
  size = length-set c.loop-k.marks c.loop-k.k _ ∙ c.loop-k.invariant.size;
  said = filled-one_more (λ j (mark : Bool). mark ≡ not (get_or c.args.lost.now j 0 == 0)) c.loop-k.marks c.loop-k.k _ false
      (omega (arith, c.loop-k-test.true, c.loop-k.invariant.size)) c.loop-k.invariant.said refl;
}

pub returns : goal.returns
unfolding lost_marks
returns g c =
    let lost = c.args.lost.now in
    ext_get_or false c.loop-k.marks (map (λ (byte : ℕ). not (byte == 0)) lost)
    (c.loop-k.invariant.size ∙ sym (length-map lost (λ (byte : ℕ). not (byte == 0)) ∙ c.told-lost))
    (λ k within.
    c.loop-k.invariant.said k (omega (arith, c.loop-k.invariant.size))
    ∙ sym (get_or-map (λ (byte : ℕ). not (byte == 0)) lost k 0 false (omega (arith, c.told-lost, c.loop-k.invariant.size))))
