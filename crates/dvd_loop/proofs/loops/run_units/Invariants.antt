-- What each iteration of the loop in `run_units` keeps.
use Rattle.std.proofs.Common.{◌≡◌, ◌≤◌, ℕ, List}
use Rattle.dvd_loop.specs.Streams.{streams, HaveGoneOn}
use Rattle.dvd_loop.proofs.Reached.{Reached}
use Rattle.dvd_loop.proofs.loops.run_units.Given as goal

abbrev pub invariant-loop-k : goal.invariant-loop-k
invariant-loop-k g l =
    let key = g.C.UnitCommand.key l.fn.command in
    let old = streams (g.S.Source.seen l.fn.src) (g.K.Sink.seen l.fn.out) (g.E.Sink.seen l.fn.report) in
    let now = streams (g.S.Source.seen l.src) (g.K.Sink.seen l.out) (g.E.Sink.seen l.report) in record {
      same : g.C.UnitCommand.key l.command ≡ key;
      before : List (List ℕ);
      ready : g.C.UnitCommand.ready l.command before;
      reached : Reached (g.C.UnitCommand.units key) l.k before old now l.bad;
      few : l.bad ≤ l.k;
      last : l.k-end ≡ (g.C.UnitCommand.units key).count;
      causes : HaveGoneOn old now;
    }
