-- The proof of `count_marks` in src/row_marks.rt.
use Rattle.std.proofs.Common.{◌≡◌, ◌∙◌, ◌+◌, ◌*◌, List, ℕ, sym, ap, arith}
use Rattle.rs_decode.proofs.Marks.{marked-few, marked-none}
use Rattle.dvd_capture.specs.MarkBits.{marks_of}
use Rattle.dvd_capture.proofs.MarkCounts.{before, last-counted, ones-counted}
use Rattle.dvd_capture.proofs.row_marks.count_marks.Goals as goal

pub loop-k-init : goal.loop-k-init
loop-k-init c = record { counted = sym marked-none; few = omega arith }

pub loop-k-preserved : goal.loop-k-preserved
loop-k-preserved c =
    let row : List ℕ = c.args.bits.now in
    let k : ℕ = c.loop-k.k in
    let counted = ones-counted row k c.loop-k.count (omega arith) (omega (arith, c.type_inv.bits k)) c.loop-k.invariant.counted in
    record { counted = counted; few = omega (arith, counted, marked-few (marks_of row) (8 * (k + 1))) }

pub returns : goal.returns
returns c =
    let row : List ℕ = c.args.bits.now in
    let end : 8 * c.loop-k.k ≡ 176 = omega arith in
    last-counted row c.loop-k.count (omega (arith, c.type_inv.bits 22)) (c.loop-k.invariant.counted ∙ ap (before row) end)
