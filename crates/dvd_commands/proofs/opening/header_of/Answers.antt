-- The proof of `header_of` in src/opening.rt.
use Rattle.std.proofs.Common.{◌∙◌, refl, ap, sym, arith}
use Rattle.dvd_capture.specs.Header.{header_bytes}
use Rattle.dvd_capture.specs.declared.header.Header.{Header}
use Rattle.dvd_commands.specs.Opening.{shape_number, zones_number}
use Rattle.dvd_commands.proofs.opening.header_of.Goals as goal

pub returns : goal.returns
unfolding header_bytes
returns c = λ settings is zones.
    let layout = c.args.layout.now in
    let header : Header = record {
      shape = c.number_of_shape.result;
      zones = c.number_of_zones.result;
      sectors0 = layout.sectors0;
      sectors1 = layout.sectors1;
      initial = layout.initial;
      tail = layout.tail;
      known_shape = c.number_of_shape.ensures.known;
      known_zones = c.number_of_zones.ensures.known;
    } in record {
      header = header;
      numbers = (omega (arith, layout.end0), omega (arith, layout.end1), omega (arith, layout.initial_fits), omega (arith, layout.tail_fits));
      bytes = refl;
      states = record {
        shape = ap shape_number (sym is.shape) ∙ c.number_of_shape.ensures.number;
        zones = ap zones_number zones ∙ c.number_of_zones.ensures.number;
        all = rw (is.sectors0, is.sectors1, is.initial, is.tail) refl;
      };
    }
