-- The proof of `map_image` in src/lost.rt.
use Rattle.std.proofs.Common.{inl, subst, sym}
use Rattle.cap_lost.specs.Lost.{losses_in}
use Rattle.cap_lost.specs.Map.{map_text}
use Rattle.dvd_ports.specs.Whole.{IsWritten}
use Rattle.cap_top.proofs.lost.map_image.Goals as goal

pub returns-in-Ok : goal.returns-in-Ok
returns-in-Ok g c = inl (record {
  losses = losses_in c.in-Ok.lost;
  reads = c.in-Ok.ensures.read;
  answer = c.write_map.result;
  writes =
      subst (λ total. IsWritten (map_text c.in-Ok.lost.extents.items c.in-Ok.lost.written total) (g.K.Sink.seen c.args.out.now)
      (g.K.Sink.seen c.write_map.new.out) c.write_map.result) c.total.ensures c.write_map.ensures;
  reported = rw (sym c.map_end.ensures.status, sym c.map_end.ensures.line) c.end_with.ensures;
})
