-- The sectors of a block that is read are the Main Data of the block that two passes find.
use Rattle.std.proofs.Common.{◌≡◌, ◌∙◌, ℕ, Bool, cond, List, length, replicate, ap, is_none}
use Rattle.std.specs.declared.option.Option.{Option}
use Rattle.dvd_layout.specs.declared.entry.BlockPlan.{BlockPlan}
use Rattle.dvd_decoding.specs.declared.cause.Cause.{Cause}
use Rattle.dvd_decoding.specs.Frames.{main_data}
use Rattle.dvd_decoding.specs.Reading.{block_in, block_sectors, IsReadAs}
use Rattle.dvd_read.proofs.BlockRead.{read-determined}

pub sectors-read : (rows : List (List ℕ)) (marks : List (List Bool)) (entry : BlockPlan) (sectors : List (List ℕ))
    → length rows ≡ 208 → length marks ≡ 208 → IsReadAs rows marks entry sectors → sectors ≡ main_data (block_in rows marks) entry
unfolding block_sectors
sectors-read rows marks entry sectors size marks_size read =
    let determined = read-determined rows marks entry sectors size marks_size read in
    determined.1 ∙ ap (λ (cause : Option Cause). cond (is_none cause) (main_data (block_in rows marks) entry) (replicate 16 (replicate 2048 0))) determined.0
