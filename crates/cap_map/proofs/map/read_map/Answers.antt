-- The proof of `read_map` in src/map.rt.
use Rattle.std.proofs.Common.{◌≡◌, ◌∙◌, ◌+◌, ◌<◌, ℕ, List, Ok, Err, Result, length, take, drop, ap, sym, arith, rules, length-drop}
use Rattle.cap_map.specs.Fields.{line_length, lines_of}
use Rattle.cap_map.specs.Inner.{read_of}
use Rattle.cap_map.specs.Lines.{line_fields}
use Rattle.cap_map.specs.Map.{MapRead, after_line, line_read, lines_read}
use Rattle.cap_map.specs.declared.fault.MapCause.{MapCause}
use Rattle.cap_map.specs.declared.fault.MapFault.{MapFault}
use Rattle.cap_map.specs.declared.fault.MapFault.TheVariants.{Rule}
use Rattle.cap_map.specs.declared.span.Span.{Span}
use Rattle.cap_map.proofs.FirstLine.{first_line}
use Rattle.cap_map.proofs.map.read_map.Goals as goal

-- the lines of a text are read by its first line, and then those after it
by_first : (good : List ℕ) (read : MapRead) (n : ℕ) (text : List ℕ) → 0 < length text
    → lines_read good read n (lines_of text)
    ≡ after_line n (line_read good read (line_fields (take (line_length text) text))) (λ next. lines_read good next (n + 1) (lines_of (drop (line_length text + 1) text)))
by_first good read n text some = ap (lines_read good read n) (first_line text some)

-- where the first line is read
goes_on : (good : List ℕ) (read next : MapRead) (n end : ℕ) (text rest : List ℕ) → 0 < length text → end ≡ line_length text → rest ≡ drop (end + 1) text
    → line_read good read (line_fields (take end text)) ≡ Ok next → lines_read good next (n + 1) (lines_of rest) ≡ lines_read good read n (lines_of text)
goes_on good read next n end text rest some at left is =
    let then : Result MapRead MapCause → Result (List Span) MapFault = λ r. after_line n r (λ x. lines_read good x (n + 1) (lines_of (drop (line_length text + 1) text))) in
    ap (λ r. lines_read good next (n + 1) (lines_of r)) (left ∙ ap (λ e. drop (e + 1) text) at)
    ∙ ap then (sym is ∙ ap (λ e. line_read good read (line_fields (take e text))) at) ∙ sym (by_first good read n text some)

-- and where it breaks a rule
stops : (good : List ℕ) (read : MapRead) (n end : ℕ) (text : List ℕ) (cause : MapCause) → 0 < length text → end ≡ line_length text
    → line_read good read (line_fields (take end text)) ≡ Err cause → lines_read good read n (lines_of text) ≡ Err (Rule n cause)
stops good read n end text cause some at is =
    let then : Result MapRead MapCause → Result (List Span) MapFault = λ r. after_line n r (λ x. lines_read good x (n + 1) (lines_of (drop (line_length text + 1) text))) in
    by_first good read n text some ∙ ap then (ap (λ e. line_read good read (line_fields (take e text))) (sym at) ∙ is)

pub returns-in-Err-Rule-clause-rule : goal.returns-in-Err-Rule-clause-rule
returns-in-Err-Rule-clause-rule c =
    let some : 0 < length c.loop-rest.rest.now = search rules in
    sym c.loop-rest.invariant.same ∙ stops c.args.good.now (read_of c.loop-rest.draft) c.loop-rest.line c.line_length-end.result c.loop-rest.rest.now _ some c.line_length-end.ensures.count
    (rw c.in-Err-Rule.field-0-is at c.in-Err-Rule.ensures.rule) ∙ ap (λ cause. Err (Rule c.loop-rest.line cause)) (sym c.in-Err-Rule.cause-is)

pub loop-rest-preserved : goal.loop-rest-preserved
loop-rest-preserved c =
    let some : 0 < length c.loop-rest.rest.now = search rules in record {
      same = goes_on c.args.good.now (read_of c.loop-rest.draft) (read_of c.take.new.self) c.loop-rest.line c.line_length-end.result c.loop-rest.rest.now c.after_line-rest.result.now some
          c.line_length-end.ensures.count c.after_line-rest.ensures c.in-Ok.ensures.read ∙ c.loop-rest.invariant.same;
      counted = rw c.after_line-rest.ensures (omega (arith, length-drop (c.line_length-end.result + 1) c.loop-rest.rest.now));
    }
