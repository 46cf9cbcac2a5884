-- The proof of `add_to` in src/patches.rt.
use Rattle.std.proofs.Common.{◌≡◌, ◌<◌, ◌∙◌, ℕ, List, length, length-set, get_or, set, take, arith, ap, sym, refl}
use Rattle.coding.specs.Field.{plus}
use Rattle.coding.specs.Filling.{marked}
use Rattle.coding.specs.Rows.{column, place}
use Rattle.rs_lanes.proofs.ColumnLemmas.{get_or-column, length-column}
use Rattle.rs_decode.specs.Patches.{patched}
use Rattle.rs_decode.proofs.Marks.{patched-none, patched-placed}
use Rattle.rs_decode.proofs.patches.Patches.add_to.Goals as goal

pub loop-i-init : goal.loop-i-init
loop-i-init c = record {
  size = refl;
  patched = λ marks size count are. sym (patched-none c.args.word.now marks);
}

pub loop-i-preserved : goal.loop-i-preserved
loop-i-preserved c =
    let i = c.loop-i.i in
    let word = c.loop-i.word in
    let all : List ℕ = column c.args.self.now.bytes c.args.n in
    let byte : ℕ = place c.args.self.now.bytes i c.args.n in
    let here : byte ≡ get_or all i 0 = sym (get_or-column c.args.self.now.bytes c.args.n i) in
    let inside : i < length all = omega (arith, length-column c.args.self.now.bytes c.args.n, c.loop-i-test.true, c.requires.few) in
    let before = c.loop-i.invariant in
    record {
      size = length-set word c.from.result (plus (get_or word c.from.result 0) byte) ∙ before.size;
      patched = λ marks size count are.
          ap (λ b. set word c.from.result (plus (get_or word c.from.result 0) b)) here
          ∙ ap (λ p. set word p (plus (get_or word p 0) (get_or all i 0))) c.from.ensures
          ∙ patched-placed c.args.word.now word marks c.args.places.now all i (sym size) inside (omega (arith, count)) are
          (before.patched marks size count are);
    }

pub returns : goal.returns
returns c = λ marks size count are.
    let done : c.loop-i.i ≡ marked marks = omega (arith, count) in
    c.loop-i.invariant.patched marks size count are
    ∙ ap (λ (m : ℕ). patched c.args.word.now marks (take m (column c.args.self.now.bytes c.args.n))) done
