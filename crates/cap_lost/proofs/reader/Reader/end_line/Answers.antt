-- The proof of `Reader::end_line` in src/reader.rt.
use Rattle.std.proofs.Common.{◌∙◌, ◌+◌, ◌≤◌, ◌++◌, ℕ, [], ◌∷◌, Err, Option, None, Some, ap, arith, subst, sym}
use Rattle.cap_map.specs.Fields.{lines_of}
use Rattle.cap_lost.specs.Inner.{StopsAs, closing_count, goes_on, sayings_of}
use Rattle.cap_lost.specs.Report.{IsFaultOf, line_read, lines_read}
use Rattle.cap_lost.specs.declared.fault.ReportFault.TheVariants.{Rule}
use Rattle.cap_lost.proofs.Readings.{broken_last, broken_on, read_last, read_on}
use Rattle.cap_lost.proofs.reader.Reader.end_line.Goals as goal

-- a report ends once at most
ended_most : (written : Option ℕ) → closing_count written ≤ 1
ended_most None = omega arith
ended_most (Some written) = omega arith

pub overflow_add-self : goal.overflow_add-self
overflow_add-self c =
    let most = ended_most c.args.self.now.draft.written in
    let below = c.requires.sound.counted.below in
    let number = c.requires.sound.number in omega (arith, most, below, number)

pub returns-in-Ok-clause-read : goal.returns-in-Ok-clause-read
returns-in-Ok-clause-read c = λ rest.
    let self = c.args.self.now in
    read_on self.layout self.zones (sayings_of self.draft) self.number self.line.items (sayings_of c.read_line.new.draft) rest c.requires.sound.within (rw c.as_slice.ensures.value at c.in-Ok.ensures.read)
    ∙ ap (λ l. lines_read self.layout self.zones (sayings_of c.read_line.new.draft) (self.number + 1) (lines_of (l ++ rest))) (sym c.clear.ensures)

pub returns-in-Ok-clause-read_last : goal.returns-in-Ok-clause-read_last
returns-in-Ok-clause-read_last c = λ some.
    let self = c.args.self.now in
    read_last self.layout self.zones (sayings_of self.draft) self.number self.line.items (sayings_of c.read_line.new.draft) some c.requires.sound.within (rw c.as_slice.ensures.value at c.in-Ok.ensures.read)
    ∙ ap (λ l. lines_read self.layout self.zones (sayings_of c.read_line.new.draft) (self.number + 1) (lines_of (l ++ []))) (sym c.clear.ensures)

pub returns-in-Err-Rule-clause-rule : goal.returns-in-Err-Rule-clause-rule
returns-in-Err-Rule-clause-rule c =
    let self = c.args.self.now in
    let breaks = ap (λ l. line_read self.layout self.zones (sayings_of self.draft) l) (sym c.as_slice.ensures.value) ∙ (rw c.in-Err-Rule.field-0-is at c.in-Err-Rule.ensures.rule) in
    subst (StopsAs (λ rest. goes_on self (10 ∷ rest))) (sym c.breaks.ensures)
    (λ rest. broken_on self.layout self.zones (sayings_of self.draft) self.number self.line.items _ rest c.requires.sound.within breaks
    ∙ ap (λ cause. Err (Rule self.number cause)) (sym c.in-Err-Rule.cause-is))

pub returns-in-Err-Rule-clause-rule_last : goal.returns-in-Err-Rule-clause-rule_last
returns-in-Err-Rule-clause-rule_last c = λ some.
    let self = c.args.self.now in
    let breaks = ap (λ l. line_read self.layout self.zones (sayings_of self.draft) l) (sym c.as_slice.ensures.value) ∙ (rw c.in-Err-Rule.field-0-is at c.in-Err-Rule.ensures.rule) in
    subst (IsFaultOf (goes_on self [])) (sym c.breaks.ensures)
    (broken_last self.layout self.zones (sayings_of self.draft) self.number self.line.items _ some c.requires.sound.within breaks
    ∙ ap (λ cause. Err (Rule self.number cause)) (sym c.in-Err-Rule.cause-is))
