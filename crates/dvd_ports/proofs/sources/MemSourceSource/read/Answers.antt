-- The proof of `read` of `Source` for `MemSource` in src/sources.rt.
use Rattle.std.proofs.Common.{rules, arith}
use Rattle.std.proofs.Math.Seq.{take-add}
use Rattle.std.proofs.lemmas.List.{drop-drop}
use Rattle.std.proofs.lemmas.Grind.{common_steps}
use Rattle.dvd_ports.proofs.KnownLemmas.{gives_next}
use Rattle.dvd_ports.proofs.sources.MemSourceSource.read.Goals as goal

pub returns-clause-leaves : goal.returns-clause-leaves
returns-clause-leaves c = rw (← c.self.view_is) (λ room some.
    rw (take-add c.self.inside.at c.min-count.result c.self.inside.bytes.items)
    (rw (drop-drop c.min-count.result c.self.inside.at c.self.inside.bytes.items) (search rules)))

pub returns-clause-call : goal.returns-clause-call
returns-clause-call c = record {
  bound = search rules;
  bytes = rw (← c.self.view_is) (gives_next c.self.inside.bytes.items c.args.buf.now _ c.self.inside.at c.min-count.result
      (omega arith) (λ zero room. omega (arith, zero, room)) (grind (arith, common_steps)));
  moved = search rules;
  ended = λ none some. absurd (omega arith);
  failed = search rules;
}
