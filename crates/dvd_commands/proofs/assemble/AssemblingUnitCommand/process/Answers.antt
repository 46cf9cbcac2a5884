-- The proof of `kind` of `UnitCommand` for `Assembling` in src/assemble.rt.
use Rattle.std.proofs.Common.{refl, arith}
use Rattle.dvd_assemble.specs.Shelves.{tables_of}
use Rattle.dvd_assemble.specs.Works.{captured}
use Rattle.dvd_loop.specs.Streams.{streams}
use Rattle.dvd_loop.proofs.UnitLemmas.{err_is, sized_done, sized_short}
use Rattle.dvd_commands.proofs.assemble.Frames.{counts-few, frame_settled, placed-few, shelf_size}
use Rattle.dvd_commands.proofs.TwoSteps.{nothing_done}
use Rattle.dvd_commands.proofs.assemble.AssemblingUnitCommand.process.Goals as goal

pub returns-in_err-read_frame-clause-processed : goal.returns-in_err-read_frame-clause-processed
returns-in_err-read_frame-clause-processed g c = λ before number ready.
    let end = c.in_err-read_frame.field-0.0 in
    sized_short _ _ (λ k own. refl) c.args.k before number _ (g.S.Source.seen c.args.src.now) (g.S.Source.seen c.read_frame.new.src) (g.K.Sink.seen c.args._out.now) (g.E.Sink.seen c.args._report.now)
    c.from_residual.result end (err_is c.from_residual.result end c.from_residual.ensures.1) c.in_err-read_frame.ensures.short (c.in_err-read_frame.ensures.causes _ _)

pub settle_frame-requires : goal.settle_frame-requires
settle_frame-requires g c =
    let a = c.args.self.now in
    shelf_size a.layout a.form c.requires.ready.0 (tables_of a.shelf.now) a.placed c.requires.ready.2

pub overflow_add-self : goal.overflow_add-self
overflow_add-self g c =
    let a = c.args.self.now in
    let few = placed-few a.layout a.form c.requires.ready.0 (tables_of a.shelf.now) a.placed c.requires.ready.2 in
    let one = counts-few a.layout (captured c.read_frame.new.frame) in
    omega (arith, few, one, c.settle_frame.ensures.count, c.requires.ready.1, c.requires.unit)

pub returns-clause-processed : goal.returns-clause-processed
returns-clause-processed g c = λ before number ready.
    let a = c.args.self.now in
    let full = c.in_ok-read_frame.ensures.full in
    let read = g.S.Source.seen c.read_frame.new.src in
    let output = g.K.Sink.seen c.args._out.now in
    let report = g.E.Sink.seen c.args._report.now in
    sized_done _ _ (λ k own. refl) c.args.k before number _ (g.S.Source.seen c.args.src.now) read output report full.bytes full.size full.taken
    (c.in_ok-read_frame.ensures.causes _ _) output report _ (nothing_done _ _ (refl, refl) (streams read output report))
    (frame_settled a.layout a.form before full.bytes (captured c.read_frame.new.frame) (tables_of a.shelf.now) (tables_of c.settle_frame.new.shelf) a.placed _
    ready full.frame_is c.settle_frame.ensures.settled (omega (arith, c.settle_frame.ensures.count)))
