-- The proof of `run_units` in src/loops.rt.
use Rattle.std.proofs.Common.{◌≡◌, ◌≤◌, ◌+◌, ◌∙◌, List, [], ◌∷◌, ◌++◌, ℕ, refl, ap, sym, subst, Result, Err, Ok, arith}
use Rattle.dvd_loop.specs.Machine.{EndsAfterLast, Step, Units, bad_of}
use Rattle.dvd_loop.specs.Streams.{HaveReached, Streams, streams}
use Rattle.dvd_loop.specs.UnitCommand.{AreSteps, IsProcessed}
use Rattle.dvd_loop.specs.declared.ends.LoopEnd.{LoopEnd}
use Rattle.dvd_loop.specs.declared.ends.LoopEnd.TheVariants.{Done}
use Rattle.dvd_loop.specs.declared.ends.UnitKind.{UnitKind}
use Rattle.dvd_loop.specs.declared.ends.UnitKind.TheVariants.{Good, Bad, Last}
use Rattle.dvd_loop.proofs.Reached.{behind_ends, closing_ends, last_ends, opening_ends, reached_first, reached_next, unit_ends}
use Rattle.dvd_loop.proofs.StreamLemmas.{causes_first, done_on, go_on}
use Rattle.dvd_loop.proofs.loops.run_units.Goals as goal

-- what is processed of the units of one key is so of the units of an equal key
processed_as : {Key : Type 0} (units : Key → Units) (a b : Key) (before : List (List ℕ)) (ready : List (List ℕ) → Type 0) (old new : Streams) (answer : Result UnitKind LoopEnd) → a ≡ b
    → IsProcessed (units a) before ready old new answer → IsProcessed (units b) before ready old new answer
processed_as units a b before ready old new answer is = subst (λ key. IsProcessed (units key) before ready old new answer) is

-- and so is their closing
closing_as : {Key : Type 0} (units : Key → Units) (a b : Key) (before : List (List ℕ)) (old new : Streams) (answer : Result (Unit {0}) LoopEnd) → a ≡ b
    → (steps : List Step) × (units a).closes before steps × AreSteps steps old new answer
    → (steps : List Step) × (units b).closes before steps × AreSteps steps old new answer
closing_as units a b before old new answer is = subst (λ key. (steps : List Step) × (units key).closes before steps × AreSteps steps old new answer) is

pub returns-in-Err-clause-follows : goal.returns-in-Err-clause-follows
returns-in-Err-clause-follows g c = record {
  comes = opening_ends _ _ _ c.in-Err.end (c.in-Err.ensures.opens (g.S.Source.seen c.args.src.now));
  causes = c.in-Err.ensures.causes (g.S.Source.seen c.args.src.now);
}

pub loop-k-init : goal.loop-k-init
loop-k-init g c = record {
  same = refl;
  before = [];
  ready = c.requires;
  reached = reached_first _ _ _ (c.in_default.ensures.opens (g.S.Source.seen c.args.src.now));
  few = omega arith;
  last = c.count-k-end.ensures;
  causes = c.in_default.ensures.causes (g.S.Source.seen c.args.src.now);
}

pub process-requires-clause-ready : goal.process-requires-clause-ready
process-requires-clause-ready g c = let i = c.loop-k.invariant in (i.before, i.reached.number, i.ready)

pub returns-in-Ok-clause-follows : goal.returns-in-Ok-clause-follows
returns-in-Ok-clause-follows g c =
    let i = c.loop-k.invariant in
    let done = processed_as g.C.UnitCommand.units _ _ i.before _ _ _ (Ok c.in-Ok.kind) i.same (c.in-Ok.ensures.processed i.before i.reached.number i.ready) in record {
      comes = last_ends _ _ _ _ _ _ i.reached _ _ c.in-Ok.kind done
          (omega (arith, i.last)) (c.is_last.ensures.yes c.if-is_last.true);
      causes = causes_first _ _ _ Done Done i.causes (done_on _ _ done.causes);
    }

pub returns-in-Err-process-clause-follows : goal.returns-in-Err-process-clause-follows
returns-in-Err-process-clause-follows g c =
    let i = c.loop-k.invariant in
    let ended = processed_as g.C.UnitCommand.units _ _ i.before (g.C.UnitCommand.ready c.process.new.self) _ _ (Err c.in-Err-process.end) i.same (c.in-Err-process.ensures.processed i.before i.reached.number i.ready) in record {
      comes = unit_ends _ _ _ _ _ _ i.reached _ c.in-Err-process.end (omega (arith, i.last)) ended.comes;
      causes = causes_first _ _ _ c.in-Err-process.end c.in-Err-process.end i.causes ended.causes;
    }

-- a unit raises the number of damaged ones by one at most
bad-le : (kind : UnitKind) → bad_of kind ≤ 1
bad-le Good = omega arith
bad-le Bad = omega arith
bad-le Last = omega arith

pub loop-k-preserved : goal.loop-k-preserved
loop-k-preserved g c =
    let i = c.loop-k.invariant in
    let done = processed_as g.C.UnitCommand.units _ _ i.before _ _ _ (Ok c.in-Ok.kind) i.same (c.in-Ok.ensures.processed i.before i.reached.number i.ready) in record {
      same = c.in-Ok.ensures.same ∙ i.same;
      before = i.before ++ done.own ∷ [];
      ready = done.next;
      reached = reached_next _ _ _ _ _ _ i.reached _ _ c.in-Ok.kind done
          (omega (arith, i.last)) (c.is_last.ensures.no c.if-is_last.false) (c.loop-k.bad + c.bad-bad.result) (ap (λ n. c.loop-k.bad + n) c.bad-bad.ensures);
      few = omega (arith, i.few, c.bad-bad.ensures, bad-le c.in-Ok.kind);
      last = i.last;
      causes = go_on _ _ _ i.causes done.causes;
    }

pub returns-in-Ok-close-clause-follows : goal.returns-in-Ok-close-clause-follows
returns-in-Ok-close-clause-follows g c =
    let mid = streams (g.S.Source.seen c.loop-k.src) (g.K.Sink.seen c.close.new.out) (g.E.Sink.seen c.close.new.report) in
    let new = streams (g.S.Source.seen c.expect_end.new.src) (g.K.Sink.seen c.close.new.out) (g.E.Sink.seen c.close.new.report) in
    let i = c.loop-k.invariant in
    let units = g.C.UnitCommand.units (g.C.UnitCommand.key c.args.command.now) in
    let all : c.loop-k.k ≡ units.count = omega (arith, i.last) in
    let closed = closing_as g.C.UnitCommand.units _ _ i.before _ _ (Ok c.in-Ok-close.field-0) i.same
    (c.in-Ok-close.ensures.closes (g.S.Source.seen c.loop-k.src) i.before (i.reached.number ∙ all ∙ ap (λ key. (g.C.UnitCommand.units key).count) (sym i.same)) i.ready) in record {
      comes = behind_ends units _ _ _ _ _ i.reached all closed.0 closed.1 mid new c.expect_end.result closed.2
          (subst (λ b. HaveReached (EndsAfterLast b c.loop-k.bad) mid new c.expect_end.result) (c.after_last.ensures ∙ ap (λ key. (g.C.UnitCommand.units key).after_last) i.same)
          (c.expect_end.ensures.comes (g.K.Sink.seen c.close.new.out) (g.E.Sink.seen c.close.new.report)));
      causes = causes_first _ _ _ c.expect_end.result c.expect_end.result
          (go_on _ _ _ i.causes (c.in-Ok-close.ensures.causes (g.S.Source.seen c.loop-k.src)))
          (c.expect_end.ensures.causes (g.K.Sink.seen c.close.new.out) (g.E.Sink.seen c.close.new.report));
    }

pub returns-in-Err-close-clause-follows : goal.returns-in-Err-close-clause-follows
returns-in-Err-close-clause-follows g c =
    let i = c.loop-k.invariant in
    let units = g.C.UnitCommand.units (g.C.UnitCommand.key c.args.command.now) in
    let all : c.loop-k.k ≡ units.count = omega (arith, i.last) in
    let closed = closing_as g.C.UnitCommand.units _ _ i.before _ _ (Err c.in-Err-close.end) i.same
    (c.in-Err-close.ensures.closes (g.S.Source.seen c.loop-k.src) i.before (i.reached.number ∙ all ∙ ap (λ key. (g.C.UnitCommand.units key).count) (sym i.same)) i.ready) in record {
      comes = closing_ends units _ _ _ _ _ i.reached all closed.0 closed.1 _ c.in-Err-close.end closed.2;
      causes = causes_first _ _ _ c.in-Err-close.end c.in-Err-close.end i.causes (c.in-Err-close.ensures.causes (g.S.Source.seen c.loop-k.src));
    }
