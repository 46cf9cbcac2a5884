-- The proof of `set_quotient` in src/folds.rt.
use Rattle.std.proofs.Common.{◌≡◌, ◌∙◌, ℕ, ◌+◌, ◌-◌, ◌*◌, ◌<◌, ◌≤◌, List, ◌++◌, length, get_or, ap, refl, subst, sym, arith}
use Rattle.std.specs.Prelude.{bit_xor}
use Rattle.std.specs.Int.Bits.{xor_zero_r}
use Rattle.std.specs.Simd.Lanes.{put_chunk, zip2}
use Rattle.std.proofs.Math.Nat.{mul-le-mul_left}
use Rattle.std.proofs.lemmas.Simd.{length-chunk, length-zip2}
use Rattle.dvd_frame.specs.Inner.Folding.{AreQuotients}
use Rattle.dvd_frame.proofs.Quotients.{byte_after-before, byte_after-from, byte_read, byte_summed, chunk_carried, first_quotient, next_quotient, place_within}
use Rattle.dvd_frame.proofs.folds.set_quotient.Goals as goal

pub loop-init : goal.loop-init
loop-init g c =
    let w : ℕ = g.row.W in
    record {
      place = omega arith;
      size = omega arith;
      width = c.fits-first.0;
      each = first_quotient w c.args.first c.args.others.now c.args.quotient.now c.store.new.bytes c.fits-first.0 (omega arith) c.store.ensures.set;
      carried = λ j below. chunk_carried w 0 c.args.quotient.now c.args.first c.store.new.bytes c.fits-first.0 (omega arith) c.store.ensures.set j below;
    }

pub loop-preserved : goal.loop-preserved
loop-preserved g c =
    let w : ℕ = g.row.W in
    let at : ℕ = c.loop.at in
    let others : List ℕ = c.args.others.now in
    let old : List ℕ = c.loop.quotient in
    let carried : List ℕ = c.loop.carried in
    let loaded : List ℕ = c.load-carried.result in
    let chunk : List ℕ = zip2 bit_xor loaded carried in
    let new : List ℕ = c.store-in-loop.new.bytes in
    let within : at + w ≤ 27 * w = place_within w at c.loop.counter 27 c.loop.invariant.place c.loop-test.true in
    let loaded_size : length loaded ≡ w = ap length c.load-carried.ensures ∙ length-chunk at w others (omega arith) in
    let size : length chunk ≡ w = length-zip2 bit_xor loaded carried (loaded_size ∙ sym c.loop.invariant.width) ∙ loaded_size in
    record {
      place = omega arith;
      size = omega arith;
      width = size;
      each = next_quotient w at c.args.first others old carried chunk new (λ j. 0) (λ j. 0) c.fits-first.0 size (omega arith) c.store-in-loop.ensures.set c.loop.invariant.each c.loop.invariant.carried
          (λ j below.
          let sum : ℕ = bit_xor (get_or others (at + j) 0) (get_or carried j 0) in
          byte_summed w loaded carried j (get_or others (at + j) 0) (get_or carried j 0) loaded_size c.loop.invariant.width below (byte_read w at others loaded j c.load-carried.ensures below) refl
          ∙ sym (xor_zero_r sum) ∙ sym (xor_zero_r (bit_xor sum 0)))
          (λ j below. byte_after-before (28 * w) old (at + w + j) (omega arith)) (λ j below. byte_after-before (32 * w) old (at + w + j) (omega arith));
      carried = λ j below. chunk_carried w (at + w) old chunk new size (omega arith) c.store-in-loop.ensures.set j below;
    }

pub loop-2-preserved : goal.loop-2-preserved
loop-2-preserved g c =
    let w : ℕ = g.row.W in
    let at : ℕ = c.loop-2.at in
    let others : List ℕ = c.args.others.now in
    let old : List ℕ = c.loop-2.quotient in
    let carried : List ℕ = c.loop-2.carried in
    let loaded : List ℕ = c.load.result in
    let far : List ℕ = c.load-in-loop-2.result in
    let both : List ℕ = zip2 bit_xor loaded carried in
    let chunk : List ℕ = zip2 bit_xor both far in
    let new : List ℕ = c.store-in-loop-2.new.bytes in
    let within : at + w ≤ 31 * w = place_within w at c.loop-2.counter 31 c.loop-2.invariant.place c.loop-2-test.true in
    let past : 27 * w ≤ at = omega (arith, mul-le-mul_left w c.loop-2.auto.counter) in
    let loaded_size : length loaded ≡ w = ap length c.load.ensures ∙ length-chunk at w others (omega arith) in
    let far_size : length far ≡ w = ap length c.load-in-loop-2.ensures ∙ length-chunk (at - 27 * w) w old (omega (arith, c.loop-2.invariant.size)) in
    let both_size : length both ≡ w = length-zip2 bit_xor loaded carried (loaded_size ∙ sym c.loop-2.invariant.width) ∙ loaded_size in
    let size : length chunk ≡ w = length-zip2 bit_xor both far (both_size ∙ sym far_size) ∙ both_size in
    record {
      place = omega arith;
      size = omega arith;
      width = size;
      each = next_quotient w at c.args.first others old carried chunk new (λ j. get_or old (at - 27 * w + j) 0) (λ j. 0) c.fits-first.0 size (omega arith) c.store-in-loop-2.ensures.set c.loop-2.invariant.each c.loop-2.invariant.carried
          (λ j below.
          let sum : ℕ = bit_xor (get_or others (at + j) 0) (get_or carried j 0) in
          let there : ℕ = get_or old (at - 27 * w + j) 0 in
          byte_summed w both far j sum there both_size far_size below
          (byte_summed w loaded carried j (get_or others (at + j) 0) (get_or carried j 0) loaded_size c.loop-2.invariant.width below (byte_read w at others loaded j c.load.ensures below) refl)
          (byte_read w (at - 27 * w) old far j c.load-in-loop-2.ensures below)
          ∙ sym (xor_zero_r (bit_xor sum there)))
          (λ j below. byte_after-from (28 * w) old (at + w + j) (at - 27 * w + j) (omega (arith, past))) (λ j below. byte_after-before (32 * w) old (at + w + j) (omega arith));
      carried = λ j below. chunk_carried w (at + w) old chunk new size (omega arith) c.store-in-loop-2.ensures.set j below;
    }

pub returns-clause-each : goal.returns-clause-each
returns-clause-each g c =
    let w : ℕ = g.row.W in
    let others : List ℕ = c.args.others.now in
    let old : List ℕ = c.loop-2.quotient in
    let carried : List ℕ = c.loop-2.carried in
    let loaded : List ℕ = c.load-2.result in
    let far : List ℕ = c.load-3.result in
    let farther : List ℕ = c.load-4.result in
    let both : List ℕ = zip2 bit_xor loaded carried in
    let three : List ℕ = zip2 bit_xor both far in
    let chunk : List ℕ = zip2 bit_xor three farther in
    let end : c.loop-2.counter ≡ 31 = omega arith in
    let is : c.loop-2.at ≡ 31 * w = omega (arith, c.loop-2.invariant.place ∙ ap (λ (n : ℕ). w * n) end) in
    let loaded_size : length loaded ≡ w = ap length c.load-2.ensures ∙ length-chunk (31 * w) w others (omega arith) in
    let far_size : length far ≡ w = ap length c.load-3.ensures ∙ length-chunk (4 * w) w old (omega (arith, c.loop-2.invariant.size)) in
    let farther_size : length farther ≡ w = ap length c.load-4.ensures ∙ length-chunk 0 w old (omega (arith, c.loop-2.invariant.size)) in
    let both_size : length both ≡ w = length-zip2 bit_xor loaded carried (loaded_size ∙ sym c.loop-2.invariant.width) ∙ loaded_size in
    let three_size : length three ≡ w = length-zip2 bit_xor both far (both_size ∙ sym far_size) ∙ both_size in
    let size : length chunk ≡ w = length-zip2 bit_xor three farther (three_size ∙ sym farther_size) ∙ three_size in
    let place : 32 * w ≡ 31 * w + w = omega arith in
    let all : 33 * w ≡ 31 * w + w + w = omega arith in
    let carried_is : (j : ℕ) → j < w → get_or carried j 0 ≡ get_or old (31 * w + j) 0 =
    λ j below. c.loop-2.invariant.carried j below ∙ ap (λ (n : ℕ). get_or old (n + j) 0) is in
    subst (AreQuotients w (c.args.first ++ others) c.store-2.new.bytes) (sym all)
    (next_quotient w (31 * w) c.args.first others old carried chunk c.store-2.new.bytes (λ j. get_or old (4 * w + j) 0) (λ j. get_or old (0 + j) 0) c.fits-first.0 size
    (omega (arith, c.loop-2.invariant.size)) (c.store-2.ensures.set ∙ ap (λ (n : ℕ). put_chunk n old chunk) place)
    (subst (λ (n : ℕ). AreQuotients w (c.args.first ++ others) old (n + w)) is c.loop-2.invariant.each) carried_is
    (λ j below.
    byte_summed w three farther j (bit_xor (bit_xor (get_or others (31 * w + j) 0) (get_or carried j 0)) (get_or old (4 * w + j) 0)) (get_or old (0 + j) 0) three_size farther_size below
    (byte_summed w both far j (bit_xor (get_or others (31 * w + j) 0) (get_or carried j 0)) (get_or old (4 * w + j) 0) both_size far_size below
    (byte_summed w loaded carried j (get_or others (31 * w + j) 0) (get_or carried j 0) loaded_size c.loop-2.invariant.width below (byte_read w (31 * w) others loaded j c.load-2.ensures below) refl)
    (byte_read w (4 * w) old far j c.load-3.ensures below))
    (byte_read w 0 old farther j c.load-4.ensures below))
    (λ j below. byte_after-from (28 * w) old (31 * w + w + j) (4 * w + j) (omega arith)) (λ j below. byte_after-from (32 * w) old (31 * w + w + j) (0 + j) (omega arith)))
