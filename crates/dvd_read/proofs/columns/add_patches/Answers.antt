-- The proof of `add_patches` in src/columns.rt.
use Rattle.std.proofs.Common.{◌≡◌, ◌∙◌, ◌+◌, ◌<◌, ℕ, List, All, length, get_or, set, slice_index, refl, subst, sym, ap, arith}
use Rattle.std.proofs.lemmas.List.Elements.{All-get_or, All-set}
use Rattle.coding.specs.Field.{plus}
use Rattle.coding.specs.Filling.{marked}
use Rattle.coding.specs.Product.{column}
use Rattle.coding.specs.Words.{IsByte}
use Rattle.rs_decode.proofs.Marks.{patched-none, patched-placed, place_of_mark-inside}
use Rattle.rs_decode.specs.Patches.{place_of_mark}
use Rattle.rs_lanes.proofs.ColumnLemmas.{get_or-column, length-column}
use Rattle.dvd_read.specs.Parts.{answer_bytes}
use Rattle.dvd_read.proofs.Completing.{column-byte, column-long, column-same, column-with, failed-there, same-with}
use Rattle.dvd_read.proofs.Holding.{same-self}
use Rattle.dvd_read.proofs.columns.add_patches.Goals as goal

pub loop-i-init : goal.loop-i-init
loop-i-init c = record {
  same = same-self c.args.answers.now;
  bytes = c.requires.bytes;
  patched = λ n below. sym (patched-none (column (answer_bytes c.args.answers.now) (c.args.left + n)) c.args.erasures.now.marks);
  before = λ j under. refl;
}

pub bounds-answers-from : goal.bounds-answers-from
bounds-answers-from c =
    let erasures = c.args.erasures.now in
    let below : c.loop-i.i < marked erasures.marks = subst (λ (n : ℕ). c.loop-i.i < n) c.places-place-items.ensures.count c.loop-i-test.true in
    omega (arith, c.from.ensures, c.places-place-items.ensures.places c.loop-i.i below, place_of_mark-inside erasures.marks c.loop-i.i below, erasures.size, c.loop-i.invariant.same.size, c.requires.rows)

pub loop-i-preserved : goal.loop-i-preserved
loop-i-preserved c =
    let erasures = c.args.erasures.now in
    let marks = erasures.marks in
    let first = c.args.answers.now in
    let answers = c.loop-i.answers in
    let i : ℕ = c.loop-i.i in
    let r : ℕ = c.from.result in
    let row : List ℕ = c.add_lanes.new.row in
    let left : ℕ = c.args.left in
    let below : i < marked marks = subst (λ (n : ℕ). i < n) c.places-place-items.ensures.count c.loop-i-test.true in
    let here : r ≡ place_of_mark marks i = c.from.ensures ∙ c.places-place-items.ensures.places i below in
    let within : r < 208 = omega (arith, here, place_of_mark-inside marks i below, erasures.size) in
    let inside : r < length answers = omega (arith, within, c.loop-i.invariant.same.size, c.requires.rows) in
    record {
      same = same-with first answers r _ row c.loop-i.invariant.same inside (failed-there first marks i r c.requires.rows erasures.size c.requires.marks below here within);
      bytes = λ n under.
          subst (All IsByte) (sym (column-with answers r (left + n) _ row))
          (All-set IsByte (column (answer_bytes answers) (left + n)) r (slice_index row (left + n))
          (All-get_or IsByte row (left + n) 0 (omega (arith, c.add_lanes.ensures.size, under, c.requires.columns)) c.add_lanes.ensures.bytes)
          (c.loop-i.invariant.bytes n under));
      patched = λ n under.
          let all : List ℕ = column c.args.patches.now.bytes n in
          let now : List ℕ = column (answer_bytes answers) (left + n) in
          column-with answers r (left + n) _ row
          ∙ ap (λ (byte : ℕ). set now r byte)
          (c.add_lanes.ensures.added n under
          ∙ ap (λ (byte : ℕ). plus byte (slice_index c.lanes.result n)) (sym (column-byte answers r (left + n) _ inside))
          ∙ ap (plus (get_or now r 0)) (c.lanes.ensures.bytes n under ∙ sym (get_or-column c.args.patches.now.bytes n i)))
          ∙ ap (λ (p : ℕ). set now p (plus (get_or now p 0) (get_or all i 0))) c.from.ensures
          ∙ patched-placed (column (answer_bytes first) (left + n)) now marks c.places-place-items.result.now all i
          (column-long first (left + n) c.requires.rows ∙ sym erasures.size) (omega (arith, length-column c.args.patches.now.bytes n, c.lanes.ensures.count, below, c.requires.within)) below
          c.places-place-items.ensures.places (c.loop-i.invariant.patched n under);
      before = λ j under.
          column-same answers r j _ row inside (c.add_lanes.ensures.before j under) ∙ c.loop-i.invariant.before j under;
    }
