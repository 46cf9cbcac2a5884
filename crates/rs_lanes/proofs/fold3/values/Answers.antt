-- The proof of `values` in src/fold3.rt.
use Rattle.std.proofs.Common.{sym, ◌∙◌, arith}
use Rattle.coding.specs.Field.{alpha, power}
use Rattle.rs_code.proofs.Values.{value-nil}
use Rattle.rs_lanes.specs.Inner.Thirds.{exponent_at, third}
use Rattle.rs_lanes.proofs.LaneLemmas.{HasLanes-zeros}
use Rattle.rs_lanes.proofs.ThirdLemmas.{length-third, value-fives, value-fives_more}
use Rattle.rs_lanes.proofs.fold3.values.Goals as goal

pub loop-place-init : goal.loop-place-init
loop-place-init c = λ m few wanted.
    let zeros = HasLanes-zeros 5 m few in
    record { size = zeros.size; each = λ j below. zeros.each j below ∙ sym (value-nil (power alpha (exponent_at c.args.i m))) }

pub loop-place-preserved : goal.loop-place-preserved
loop-place-preserved c =
    let thirds = c.args.thirds.now in
    let i = c.args.i in
    let read = c.read_places.ensures in
    let before = c.loop-place.invariant in
    λ m few wanted. record {
      size = (read.steps m few wanted).size;
      each = λ j below.
          (read.steps m few wanted).each j below
          ∙ value-fives_more (power alpha (exponent_at i m)) (third thirds i j) c.loop-place.place _ _ (length-third thirds i j)
          (omega arith) (read.bytes m j few below) ((before m few wanted).each j below) ((c.folded_places.ensures m few).each j below);
    }

pub returns : goal.returns
returns c = λ m few wanted.
    let thirds = c.args.thirds.now in
    let i = c.args.i in
    let read = c.loop-place.invariant m few wanted in
    record {
      size = read.size;
      each = λ j below.
          read.each j below
          ∙ value-fives (power alpha (exponent_at i m)) (third thirds i j) c.loop-place.place (length-third thirds i j) (omega arith);
    }
