-- The proof of `read_survey` in src/drawing.rt.
use Rattle.std.proofs.Common.{◌≡◌, ◌∙◌, ◌<◌, ◌++◌, [], List, ℕ, length, take, ap, sym, append-nil, append_assoc, rules}
use Rattle.cap_survey.specs.Survey.{survey_of}
use Rattle.dvd_ports.specs.Causes.{HasMetEnd, next_count}
use Rattle.dvd_ports.proofs.KnownLemmas.{Consumes-then}
use Rattle.cap_draw.proofs.drawing.read_survey.Goals as goal

pub returns-in-Ok-end-clause-read : goal.returns-in-Ok-end-clause-read
returns-in-Ok-end-clause-read g c =
    let text : List ℕ = c.loop-reading.invariant.text in
    let piece : List ℕ = take c.in-Ok-eq0.field-0 c.read.new.buf in
    let none : c.in-Ok-eq0.field-0 ≡ 0 = search (rules, c.in-Ok-eq0.field-0-test) in
    let some : 0 < length c.read.new.buf = search rules in
    let met : HasMetEnd (g.S.Source.seen c.loop-reading.src) (g.S.Source.seen c.read.new.self) = c.in-Ok-eq0.ensures.call.ended none some in record {
      text = text ++ piece;
      reads = Consumes-then _ _ _ text piece c.loop-reading.invariant.reads c.in-Ok-eq0.ensures.call.bytes.0;
      at_end = c.in-Ok-eq0.ensures.call.bytes.1 none some;
      met = record {
        faults = met.faults ∙ c.loop-reading.invariant.on.faults;
        ends = met.ends ∙ ap next_count c.loop-reading.invariant.on.ends;
        last = met.last;
      };
      says = ap (λ n. survey_of (text ++ take n c.read.new.buf)) none ∙ c.loop-reading.invariant.same [] ∙ c.in-Ok-end.ensures.read;
    }

pub returns-in-Err-end-clause-stop : goal.returns-in-Err-end-clause-stop
returns-in-Err-end-clause-stop g c =
    let text : List ℕ = c.loop-reading.invariant.text in
    let none : c.in-Ok-eq0.field-0 ≡ 0 = search (rules, c.in-Ok-eq0.field-0-test) in
    let piece : List ℕ = take c.in-Ok-eq0.field-0 c.read.new.buf in record {
      text = text ++ piece;
      reads = Consumes-then _ _ _ text piece c.loop-reading.invariant.reads c.in-Ok-eq0.ensures.call.bytes.0;
      says = ap (λ n. survey_of (text ++ take n c.read.new.buf)) none ∙ c.loop-reading.invariant.same [] ∙ c.in-Err-end.ensures.rule;
    }

pub returns-in-Err-take-clause-stop : goal.returns-in-Err-take-clause-stop
returns-in-Err-take-clause-stop g c =
    let text : List ℕ = c.loop-reading.invariant.text in
    let piece : List ℕ = take c.in-Ok.count c.read.new.buf in record {
      text = text ++ piece;
      reads = Consumes-then _ _ _ text piece c.loop-reading.invariant.reads c.in-Ok.ensures.call.bytes.0;
      says = ap (λ l. survey_of (text ++ l)) (sym (append-nil piece)) ∙ c.loop-reading.invariant.same (piece ++ []) ∙ c.in-Err-take.ensures.rule [];
    }

pub loop-reading-preserved : goal.loop-reading-preserved
loop-reading-preserved g c =
    let text : List ℕ = c.loop-reading.invariant.text in
    let piece : List ℕ = take c.in-Ok.count c.read.new.buf in record {
      text = text ++ piece;
      reads = Consumes-then _ _ _ text piece c.loop-reading.invariant.reads c.in-Ok.ensures.call.bytes.0;
      same = λ more. ap survey_of (append_assoc text piece more) ∙ c.loop-reading.invariant.same (piece ++ more) ∙ c.in-Ok-take.ensures.read more;
      on = search rules;
      bound = search rules;
    }
