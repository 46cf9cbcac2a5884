-- The proof of `put_sectors` in src/reading.rt.
use Rattle.std.proofs.Common.{◌≡◌, length, [], sym, ◌∙◌, arith}
use Rattle.std.proofs.lemmas.List.{ext_get_or}
use Rattle.dvd_capture.specs.Works.{sectors_of}
use Rattle.dvdecc_c.proofs.reading.put_sectors.Goals as goal

pub returns : goal.returns
returns c =
    let size : length (sectors_of c.args.work.now) ≡ 16 = omega (arith, c.args.work.now.sectors.size, c.args.work.now.sectors.all.ok.0) in
    ext_get_or [] c.loop-f.sectors (sectors_of c.args.work.now)
    (c.loop-f.invariant.size ∙ sym size)
    (λ f within. c.loop-f.invariant.written f (omega (arith, c.loop-f.invariant.size)))
