-- The proof of `copy_received` in src/frames.rt.
use Rattle.std.proofs.Common.{◌+◌, ◌*◌, ℕ, List, refl, arith}
use Rattle.coding.specs.Product.{line}
use Rattle.dvd_read.proofs.FrameFaults.{prefixes-all, prefixes-next, width-next}
use Rattle.dvd_read.proofs.frames.copy_received.Goals as goal

pub loop-q-init : goal.loop-q-init
loop-q-init c = record { size = c.told-frame; prefix = refl; widths = λ k none. absurd (omega arith) }

pub loop-q-preserved : goal.loop-q-preserved
loop-q-preserved c =
    let rows : List (List ℕ) = c.args.rows.now in
    let row : List ℕ = line rows (12 * c.args.f + c.loop-q.q) in
    record {
      size = c.put_data.array_long;
      prefix = prefixes-next rows c.args.f c.loop-q.q c.loop-q.frame c.put_data.new.frame row c.put_data.ensures.prefix c.loop-q.invariant.prefix refl;
      widths = width-next rows c.args.f c.loop-q.q row refl c.put_data.ensures.width c.loop-q.invariant.widths;
    }

pub returns-clause-frame : goal.returns-clause-frame
returns-clause-frame c = prefixes-all c.args.rows.now c.args.f c.loop-q.q c.loop-q.frame c.loop-q.invariant.size (omega arith) c.loop-q.invariant.prefix

pub returns-clause-widths : goal.returns-clause-widths
returns-clause-widths c = λ q below. c.loop-q.invariant.widths q (omega arith)
