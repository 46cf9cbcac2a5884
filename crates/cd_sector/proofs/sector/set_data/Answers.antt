-- The proof of `set_data` in src/sector.rt.
use Rattle.std.proofs.Common.{arith}
use Rattle.cd_sector.proofs.Assembly.{data_written}
use Rattle.cd_sector.proofs.sector.set_data.Goals as goal

pub returns-clause-prefix : goal.returns-clause-prefix
returns-clause-prefix c =
    data_written c.args.address c.args.user.now c.header.result c.cd_edc-check.result
    c.put.new.out c.put-2.new.out c.put-3.new.out c.put-4.new.out c.put-5.new.out c.put-6.new.out
    (omega arith) (omega arith) c.header.ensures
    c.put.ensures c.put-2.ensures c.put-3.ensures c.put-4.ensures c.put-5.ensures c.put-6.ensures c.cd_edc-check.ensures
