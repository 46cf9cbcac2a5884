-- The proof of `put_fault` in src/setting.rt.
use Rattle.std.proofs.Common.{ap, ◌∙◌, ◌++◌, codes, decimal, append_assoc}
use Rattle.dvd_report.proofs.setting.put_fault.Goals as goal

pub returns-in-EmptyLayer-clause-items : goal.returns-in-EmptyLayer-clause-items
returns-in-EmptyLayer-clause-items c =
    rw c.in-EmptyLayer.is (c.put_byte.ensures.bytes ∙ ap (λ l. l ++ decimal c.in-EmptyLayer.layer) c.put.ensures.bytes ∙ append_assoc c.args.line.now (codes "empty layer ") (decimal c.in-EmptyLayer.layer))
