-- The proof of `read_report` in src/report.rt.
use Rattle.std.proofs.Common.{◌≡◌, ◌+◌, ◌-◌, ◌*◌, ◌^◌, ◌<◌, ◌≤◌, ℕ, length, take, arith, Option, None, Some}
use Rattle.std.proofs.lemmas.List.{length-take-le}
use Rattle.cap_lost.specs.Inner.{HasReadOn, IsReaderSound, closing_count}
use Rattle.cap_lost.specs.Reads.{IsReportRefused}
use Rattle.cap_lost.specs.declared.reader.Reader.{Reader}
use Rattle.cap_lost.proofs.Comings.{more_came, none_came, piece_refused}
use Rattle.cap_lost.proofs.Readings.{err_from}
use Rattle.cap_lost.proofs.report.read_report.Goals as goal

ended_most : (written : Option ℕ) → closing_count written ≤ 1
ended_most None = omega arith
ended_most (Some written) = omega arith

-- what is left of the lines that a report may have gets less
smaller : (old new : Reader) (bytes : ℕ) → 0 < bytes → IsReaderSound old → HasReadOn bytes old new
    → 129 * 2 ^ 33 - (129 * new.number + length new.line.items) < 129 * 2 ^ 33 - (129 * old.number + length old.line.items)
smaller old new bytes some sound moved =
    let number = sound.number in
    let below = sound.counted.below in
    let short = sound.short in
    let most = ended_most old.draft.written in omega (arith, number, below, short, most, moved, some)

pub loop-reader-init : goal.loop-reader-init
loop-reader-init g c = none_came c.args.layout c.args.zones _ _ c.new-reader.ensures.begins c.new-reader.ensures.sound

pub loop-reader-smaller : goal.loop-reader-smaller
loop-reader-smaller g c =
    let some : 0 < c.in-Ok.count = omega (arith, c.in-Ok.count-test) in
    let piece = take c.in-Ok.count c.read.new.buf in
    let whole : length piece ≡ c.in-Ok.count = length-take-le c.in-Ok.count c.read.new.buf c.in-Ok.ensures.call.bound.0 in
    smaller c.loop-reader.reader c.take.new.self (length piece) (omega (arith, whole, some)) c.loop-reader.invariant.sound c.in_ok-take-in-Ok.ensures.moved

pub loop-reader-preserved : goal.loop-reader-preserved
loop-reader-preserved g c =
    let some : 0 < c.in-Ok.count = omega (arith, c.in-Ok.count-test) in
    more_came c.args.layout c.args.zones (g.S.Source.seen c.args.src.now) (g.S.Source.seen c.loop-reader.src) (g.S.Source.seen c.read.new.self)
    c.loop-reader.reader c.loop-reader.invariant (take c.in-Ok.count c.read.new.buf) c.take.new.self
    c.in-Ok.ensures.call.bytes.0 (c.in-Ok.ensures.call.moved some).goes_on c.in_ok-take-in-Ok.ensures.read c.in_ok-take-in-Ok.ensures.sound

pub returns-in_err-take-in-Ok-clause-refused : goal.returns-in_err-take-in-Ok-clause-refused
returns-in_err-take-in-Ok-clause-refused g c =
    let some : 0 < c.in-Ok.count = omega (arith, c.in-Ok.count-test) in
    let old = g.S.Source.seen c.args.src.now in
    let new = g.S.Source.seen c.read.new.self in
    err_from (IsReportRefused c.args.layout c.args.zones old new) c.from_residual.result c.in_err-take-in-Ok.field-0.0 c.from_residual.ensures.1
    (piece_refused c.args.layout c.args.zones old (g.S.Source.seen c.loop-reader.src) new c.loop-reader.reader c.loop-reader.invariant (take c.in-Ok.count c.read.new.buf)
    c.in_err-take-in-Ok.field-0.0 c.in-Ok.ensures.call.bytes.0 (c.in-Ok.ensures.call.moved some).goes_on c.in_err-take-in-Ok.ensures.rule)
