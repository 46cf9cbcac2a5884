-- The proof of `write_map` in src/map.rt.
use Rattle.std.proofs.Common.{◌≡◌, [], length, rules, subst, sym}
use Rattle.dvd_ports.proofs.StopLemmas.{fails_after}
use Rattle.cap_lost.specs.Inner.{IsUnwritten}
use Rattle.cap_lost.specs.Map.{last_lines, lines_from, map_text}
use Rattle.cap_lost.specs.declared.map.TheConstants.{HEAD}
use Rattle.cap_lost.proofs.Pieces.{begun_then, last_written, more_written, next_lines, none_left, none_written, writes_failed}
use Rattle.cap_lost.proofs.map.write_map.Goals as goal

pub returns-in_err-write_whole : goal.returns-in_err-write_whole
returns-in_err-write_whole g c =
    let lost = c.args.lost.now in
    let old = g.K.Sink.seen c.args.out.now in
    let whole = map_text lost.extents.items lost.written c.args.total in
    writes_failed c.from_residual.result whole old (g.K.Sink.seen c.write_whole.new.out) c.from_residual.ensures.0
    (begun_then old old (g.K.Sink.seen c.write_whole.new.out) whole HEAD.now (lines_from 0 lost.extents.items lost.written c.args.total) (none_written old whole)
    c.in_err-write_whole.ensures.begun)
    c.in_err-write_whole.ensures.cause.failed

pub returns-in_err-at : goal.returns-in_err-at
returns-in_err-at g c =
    let lost = c.args.lost.now in
    let new = g.K.Sink.seen c.write_extents.new.out in
    let left = next_lines c.loop-rest.at lost.written c.args.total _ c.loop-rest.rest.now _ _ c.loop-rest.invariant c.split_at.ensures.front c.split_at.ensures.back in
    writes_failed c.from_residual-in_err-at.result (map_text lost.extents.items lost.written c.args.total) _ _ c.from_residual-in_err-at.ensures.0
    (begun_then _ _ new _ _ _ left c.in_err-at.ensures.begun) (fails_after _ _ new left.steady c.in_err-at.ensures.cause.failed)

pub loop-rest-preserved : goal.loop-rest-preserved
loop-rest-preserved g c =
    let lost = c.args.lost.now in
    let old = g.K.Sink.seen c.args.out.now in
    let new = g.K.Sink.seen c.write_extents.new.out in
    let whole = map_text lost.extents.items lost.written c.args.total in
    let left = next_lines c.loop-rest.at lost.written c.args.total _ c.loop-rest.rest.now _ _ c.loop-rest.invariant c.split_at.ensures.front c.split_at.ensures.back in
    subst (λ at. IsUnwritten whole (lines_from at c.split_at.result.1.now lost.written c.args.total) old new) (sym c.in_ok-at.ensures.end)
    (more_written _ _ _ _ _ _ left c.in_ok-at.ensures.written c.in_ok-at.ensures.cause.steady)

pub returns : goal.returns
returns g c =
    let lost = c.args.lost.now in
    let old = g.K.Sink.seen c.args.out.now in
    let mid = g.K.Sink.seen c.loop-rest.out in
    let whole = map_text lost.extents.items lost.written c.args.total in
    let empty : length c.loop-rest.rest.now ≡ 0 = search rules in
    let none = none_left c.loop-rest.rest.now empty in
    let left : IsUnwritten whole (lines_from c.loop-rest.at [] lost.written c.args.total) old mid =
    subst (λ l. IsUnwritten whole (lines_from c.loop-rest.at l lost.written c.args.total) old mid) none c.loop-rest.invariant in
    last_written c.write_last.result whole (last_lines c.loop-rest.at lost.written c.args.total) old mid (g.K.Sink.seen c.write_last.new.out) left c.write_last.ensures
