-- The proof of `kind` of `PlainCommand` for `Master` in src/master.rt.
use Rattle.std.proofs.Common.{◌≡◌, refl, sym, ◌∙◌}
use Rattle.dvd_block.specs.Buffers.{piece_bytes}
use Rattle.dvd_loop.proofs.UnitLemmas.{err_is, sized_done, sized_short}
use Rattle.dvd_commands.specs.Master.{bytes_of_block}
use Rattle.dvd_commands.proofs.master.Blocks.{mastered, size_is}
use Rattle.dvd_commands.proofs.TwoSteps.{write_is}
use Rattle.dvd_commands.proofs.master.MasterPlainCommand.process.Goals as goal

pub returns-in_err-read_image-clause-processed : goal.returns-in_err-read_image-clause-processed
returns-in_err-read_image-clause-processed g c = λ before number.
    let m = c.args.self.now in
    let is_there = c.at-entry.ensures.is_there in
    let size : c.image_size-size.result ≡ bytes_of_block m.blocks.layout m.blocks.zones c.args.k = c.image_size-size.ensures.value ∙ sym (size_is m.blocks.layout m.blocks.zones c.args.k c.at-entry.result is_there) in
    sized_short _ _ (λ k own. refl) c.args.k before number _ _ _ _ _ _ _ (err_is _ _ c.from_residual.ensures.1)
    (rw size at c.in_err-read_image.ensures.short) (c.in_err-read_image.ensures.causes _ _)

pub returns-clause-processed : goal.returns-clause-processed
returns-clause-processed g c = λ before number.
    let m = c.args.self.now in
    let is_there = c.at-entry.ensures.is_there in
    let read = c.in_ok-read_image.ensures in
    let is = mastered m.blocks.layout m.blocks.zones c.args.k c.at-entry.result is_there m.cpr (piece_bytes c.read_image.new.piece) _ _ c.image_size-size.ensures.value read.length
    c.image_size-size.ensures.most read.zeros c.bytes.ensures.bytes _ c.fill_block.ensures in
    sized_done _ _ (λ k own. refl) c.args.k before number _ _ _ _ _ _ is.0 c.in_ok-read_image.ensures.whole (c.in_ok-read_image.ensures.causes _ _) _ _ _
    (write_is _ _ _ is.1 _ _ _ (c.unit_written.ensures _ _ _ _ _ c.write_recording.ensures)) tt
