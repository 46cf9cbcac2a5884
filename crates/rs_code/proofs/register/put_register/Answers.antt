-- The proof of `put_register` in src/register.rt.
use Rattle.rs_code.proofs.Registers.{written_is}
use Rattle.rs_code.proofs.register.put_register.Goals as goal

pub returns : goal.returns
returns c = written_is c.args.register _ _ _ c.to_be_bytes.ensures c.copy_from_slice.ensures.after
