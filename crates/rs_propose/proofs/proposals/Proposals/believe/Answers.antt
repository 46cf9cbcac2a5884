-- The proof of `believe` in src/proposals.rt.
use Rattle.std.proofs.Common.{◌≡◌, ℕ, false, length, length-set, replicate, take, All, sym, ap, subst, ◌∙◌, arith}
use Rattle.std.proofs.lemmas.List.Elements.{All-from_get_or}
use Rattle.std.proofs.lemmas.Simd.{get_or-replicate}
use Rattle.coding.specs.Field.{alpha, plus, power}
use Rattle.coding.specs.Words.{IsByte, value}
use Rattle.gf_field.proofs.FieldLaws.{plus-zero}
use Rattle.rs_code.proofs.Syndromes.{length-syndromes_of}
use Rattle.rs_decode.proofs.Counting.{error_count-self}
use Rattle.rs_decode.proofs.Marks.{byte-added}
use Rattle.rs_propose.proofs.AddedBytes.{believed, marked-clear, values-next}
use Rattle.rs_propose.proofs.proposals.Proposals.believe.Goals as goal

pub loop-k-init : goal.loop-k-init
loop-k-init c = record {
  size = c.told-received;
  bytes = All-from_get_or IsByte c.args.received.now 0 (λ i within. c.fits-received i);
  lanes = λ i. 16;
  values = λ k below. sym (ap (plus (value c.args.received.now (power alpha k))) (get_or-replicate {A = ℕ} 16 k 0 0 below) ∙ plus-zero (value c.args.received.now (power alpha k)));
  counted = sym (error_count-self c.args.received.now (replicate 182 false));
  few = omega arith;
}

pub loop-k-preserved : goal.loop-k-preserved
loop-k-preserved c =
    let before = c.loop-k.invariant in
    let row = c.loop-k.row in
    let place = c.in_ok-place.place in
    let inside = c.in_ok-place.ensures in
    record {
      size = ap length c.add_at-errors.ensures.added ∙ length-set row place _ ∙ before.size;
      bytes = subst (All IsByte) (sym c.add_at-errors.ensures.added) (byte-added row place _ (omega (arith, inside, before.size)) c.add_at-errors.ensures.byte before.bytes);
      lanes = c.with_byte-sums.ensures.size;
      values = λ k below. values-next c.args.received.now row _ c.loop-k.sums _ place _ k before.size inside c.add_at-errors.ensures.added (before.values k below) (c.with_byte-sums.ensures.each k below);
      counted = c.add_at-errors.ensures.counted;
      few = omega (arith, c.add_at-errors.ensures.few, before.few);
    }

pub begin_with-requires-clause-size : goal.begin_with-requires-clause-size
begin_with-requires-clause-size c = ap length c.requires.syndromes ∙ length-syndromes_of 10 c.args.received.now

pub returns-clause-near : goal.returns-clause-near
returns-clause-near c =
    let last = c.loop-k.invariant in
    let same : take 10 c.loop-k.sums ≡ c.args.syndromes.now = c.begin_with.ensures c.if-not-begin_with.false in
    believed c.args.received.now c.loop-k.row c.loop-k.sums c.args.syndromes.now c.loop-k.errors c.told-received last.size last.bytes last.values
    c.requires.syndromes same last.counted (omega (arith, last.few))

pub returns-clause-erased : goal.returns-clause-erased
returns-clause-erased c = sym (marked-clear 182)
