-- Ours: how the loops of commands have their blocks read and given their parity. A loop is handed a closure for it,
-- which holds the workers. A unit is processed knowing that each call of the closure does what the call of one worker
-- does.
use Rattle.std.specs.Prelude.{◌≤◌, ℕ, Result}
use denote.Ref.{Bor, MutBor}
use denote.Param.Members.{Shared}
use Rattle.dvd_block.specs.Buffers.{block_rows}
use Rattle.coding.specs.Product.{IsParityAdded}
use Rattle.dvd_block.specs.declared.block.Block.{Block}
use Rattle.dvd_capture.specs.Rule.{HasBlock}
use Rattle.dvd_capture.specs.Works.{stage_of}
use Rattle.dvd_capture.specs.declared.work.Work.{Work}
use Rattle.dvd_layout.specs.Place.{HasNumbers}
use Rattle.dvd_layout.specs.declared.entry.BlockPlan.{BlockPlan}
use Rattle.dvd_read.specs.Calls.{IsBlockRead}
use Rattle.dvd_decoding.specs.declared.cause.Cause.{Cause}
use Rattle.dvd_read.specs.declared.fixed.Fixed.{Fixed}

-- each call of f reads a captured block
pub record IsReader {F : Type 0} (g : Shared F (MutBor Work × (Bor BlockPlan × Unit {0})) (Result Fixed Cause × (MutBor Work × Unit {0}))) (f : F) : Type 0 where
  pub may : (work : MutBor Work) (plan : Bor BlockPlan) → HasBlock (stage_of work.now) → HasNumbers plan.now → g.pre f (work, (plan, tt))
  pub does : (work after : MutBor Work) (plan : Bor BlockPlan) (answer : Result Fixed Cause) → g.post f (work, (plan, tt)) (answer, (after, tt))
      → IsBlockRead work.now after.now plan.now answer

-- each call of f gives a block its parity
pub record IsAdder {F : Type 0} (g : Shared F (MutBor Block × Unit {0}) (Unit {0} × (MutBor Block × Unit {0}))) (f : F) : Type 0 where
  pub may : (block : MutBor Block) → g.pre f (block, tt)
  pub does : (block after : MutBor Block) → g.post f (block, tt) (tt, (after, tt)) → IsParityAdded (block_rows block.now) (block_rows after.now)

-- Workers may be at work: the runtime and the gate are shared with threads, and there are 1 to 16 of them.
abbrev pub MayWork : Type 0 → Type 0 → ℕ → Type 0
MayWork runtime gate workers = runtime × gate × (1 ≤ workers) × (workers ≤ 16)

-- and they may read this captured block as this entry of a plan
abbrev pub MayRead : Type 0 → Type 0 → ℕ → Work → BlockPlan → Type 0
MayRead runtime gate workers work plan = runtime × gate × (1 ≤ workers) × (workers ≤ 16) × HasBlock (stage_of work) × HasNumbers plan
