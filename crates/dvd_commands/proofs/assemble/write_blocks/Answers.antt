-- The proof of `write_blocks` in src/assemble.rt.
use Rattle.std.proofs.Common.{◌<◌, length, sym, subst, arith}
use Rattle.dvd_ports.specs.Bytes.{Appends}
use Rattle.dvd_ports.specs.Whole.{AppendsPrefix}
use Rattle.dvd_ports.proofs.KnownLemmas.{Appends-none}
use Rattle.dvd_ports.proofs.StopLemmas.{fails_after, goes_on, unmoved}
use Rattle.dvd_merge.specs.Join.{Table}
use Rattle.dvd_merge.specs.MarkedText.{marked_text}
use Rattle.dvd_assemble.specs.Shelves.{tables_of}
use Rattle.dvd_commands.proofs.assemble.Frames.{block_begun, block_written, no_text}
use Rattle.dvd_commands.proofs.SeveralWrites.{writes_failed}
use Rattle.dvd_commands.proofs.assemble.write_blocks.Goals as goal

pub loop-k-init : goal.loop-k-init
loop-k-init g c = record { bytes = subst (Appends _ _) (sym (no_text (tables_of c.args.shelf.now))) (Appends-none _); steady = unmoved _ }

pub loop-k-preserved : goal.loop-k-preserved
loop-k-preserved g c =
    let tables = tables_of c.args.shelf.now in
    let within : c.loop-k.k < length tables = omega (arith, c.loop-k-test.true, c.blocks-k-end.ensures) in
    record {
      bytes = block_written _ _ _ tables c.loop-k.k within c.loop-k.invariant.bytes
          (subst (λ (table : Table). Appends (g.K.Sink.seen c.loop-k.out).bytes (g.K.Sink.seen c.write_marked.new.out).bytes (marked_text table)) c.merged.ensures
          c.in_ok-write_marked.ensures.written);
      steady = goes_on _ _ _ c.loop-k.invariant.steady c.in_ok-write_marked.ensures.cause.steady;
    }

pub returns-in_err-write_marked : goal.returns-in_err-write_marked
returns-in_err-write_marked g c =
    let tables = tables_of c.args.shelf.now in
    let within : c.loop-k.k < length tables = omega (arith, c.loop-k-test.true, c.blocks-k-end.ensures) in
    writes_failed c.from_residual.result _ _ _ c.from_residual.ensures.0
    (block_begun _ _ _ tables c.loop-k.k within c.loop-k.invariant.bytes
    (subst (λ (table : Table). AppendsPrefix (g.K.Sink.seen c.loop-k.out).bytes (g.K.Sink.seen c.write_marked.new.out).bytes (marked_text table)) c.merged.ensures
    c.in_err-write_marked.ensures.begun))
    (fails_after _ _ _ c.loop-k.invariant.steady c.in_err-write_marked.ensures.cause.failed)
