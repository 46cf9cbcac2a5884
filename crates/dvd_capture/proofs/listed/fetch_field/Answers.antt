-- The proof of `fetch_field` in src/listed.rt.
use Rattle.std.proofs.Common.{rules, ◌∙◌, ◌≡◌, length, List, ℕ, sym, subst, arith}
use Rattle.dvd_ports.specs.Bytes.{Consumes}
use Rattle.std.proofs.lemmas.List.{take_all}
use Rattle.dvd_capture.proofs.ListedTaken.{field-number}
use Rattle.dvd_capture.proofs.listed.fetch_field.Goals as goal

pub returns-in-Ok-eq2-clause-field : goal.returns-in-Ok-eq2-clause-field
returns-in-Ok-eq2-clause-field g c =
    let bytes : List ℕ = c.read_whole.new.buf in
    let size : length bytes ≡ 2 = search rules in record {
      own = bytes;
      size = size;
      taken = subst (Consumes _ _) (take_all c.in-Ok-eq2.field-0 bytes (omega (arith, size, c.in-Ok-eq2.field-0-is))) c.in-Ok-eq2.ensures.taken;
      is = sym (field-number bytes) ∙ sym c.read_u16.ensures ∙ sym c.from.ensures;
    }
