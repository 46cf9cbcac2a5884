-- The proof of `make_each` in src/making.rt.
use Rattle.std.proofs.Common.{refl}
use Rattle.dvd_loop.proofs.LoopEnds.{never_told, plain_end}
use Rattle.dvd_loop.proofs.Silent.{beside, one_write, plain_silent}
use Rattle.dvd_commands.specs.Making.{sectors_made}
use Rattle.dvd_commands.specs.Inner.Making.{IsMadeAs}
use Rattle.dvd_commands.proofs.making.make_each.Goals as goal

pub returns-clause-follows : goal.returns-clause-follows
returns-clause-follows g c = λ report.
    beside (sectors_made (IsMadeAs c.args.made) c.args.first c.args.sectors)
    (plain_silent _ _ _ (λ k own steps kind done. one_write steps done.made done.writes))
    _ _ _ _ report c.run_plain.result c.run_plain.ensures

pub returns-clause-ends : goal.returns-clause-ends
returns-clause-ends g c =
    let f = c.run_plain.ensures.comes in
    plain_end (sectors_made (IsMadeAs c.args.made) c.args.first c.args.sectors) (λ k. 2048) (λ k own. refl) refl f.bytes f.outcome f.holds
    (λ k before own steps does. let no = does.good in cc) c.run_plain.result f.ends
    (never_told _ _ c.run_plain.result c.run_plain.ensures.causes.report)
