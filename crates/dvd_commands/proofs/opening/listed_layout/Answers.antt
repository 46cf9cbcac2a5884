-- The proof of `listed_layout` in src/opening.rt.
use Rattle.std.proofs.Common.{◌≡◌, length, subst, [], rules, arith}
use Rattle.dvd_ports.specs.Bytes.{Consumes}
use Rattle.std.proofs.lemmas.List.{take_all}
use Rattle.dvd_loop.proofs.StreamLemmas.{left_of}
use Rattle.dvd_commands.proofs.opening.Headers.{whole_counts}
use Rattle.dvd_commands.proofs.opening.listed_layout.Goals as goal

pub returns-in-Ok-2-clause-header : goal.returns-in-Ok-2-clause-header
returns-in-Ok-2-clause-header g c =
    let old = g.S.Source.seen c.args.src.now in
    let new = g.S.Source.seen c.read_whole.new.src in
    let bytes = c.read_whole.new.buf in
    let size : length bytes ≡ 32 = search rules in
    let enough = c.if-count-lt32.false in record {
      own = bytes;
      left = (left_of new.bytes).0;
      reads = subst (Consumes old.bytes new.bytes) (take_all c.in-Ok.count bytes (omega (arith, size, enough))) c.in-Ok.ensures.taken;
      known = (left_of new.bytes).1;
      answers = c.layout_in.ensures (left_of new.bytes).0;
    }

pub returns-in-Ok-2-clause-counts : goal.returns-in-Ok-2-clause-counts
returns-in-Ok-2-clause-counts g c =
    let bytes = c.read_whole.new.buf in
    let size : length bytes ≡ 32 = search rules in
    whole_counts c.layout_in.result bytes [] size (c.layout_in.ensures []) _ _ (c.in-Ok.ensures.stops.full (omega (arith, size, c.if-count-lt32.false)))

pub returns-in-Err-clause-header : goal.returns-in-Err-clause-header
returns-in-Err-clause-header g c =
    let new = g.S.Source.seen c.read_whole.new.src in
    let begun = c.in-Err.ensures.begun in
    let size : length c.read_whole.new.buf ≡ 32 = search rules in record {
      own = begun.taken;
      left = (left_of new.bytes).0;
      reads = begun.loses;
      known = (left_of new.bytes).1;
      answers = let fewer = begun.fewer in omega (arith, fewer, size);
    }
