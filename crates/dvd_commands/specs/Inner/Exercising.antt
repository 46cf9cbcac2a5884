-- What the private calls of `exercise` promise.
use Rattle.std.specs.Prelude.{◌≡◌, ◌≤◌, ℕ, ◌+◌, ◌*◌, ◌^◌, Bool, List, length}
use Rattle.std.specs.List.{list_all, range_with_len}
use Rattle.std.specs.Str.{bytes_eq}
use Rattle.coding.specs.Filling.{marked}
use Rattle.coding.specs.Product.{line}
use Rattle.coding.specs.TwoPass.{answers_of, failed_of}
use Rattle.dvd_capture.specs.declared.work.Work.{Work}
use Rattle.dvd_layout.specs.declared.layout.Layout.{Layout}
use Rattle.dvd_layout.specs.declared.layout.Shape.TheVariants.{Single}
use Rattle.coding.specs.Found.{block_differences}
use Rattle.dvd_decoding.specs.Reading.{block_in}
use Rattle.dvd_commands.specs.Exercise.{AreTrials, IsLeft, Trial, drawn_sector, failed_in, fixed_in, state_at}
use Rattle.dvd_commands.specs.declared.exercise.Counts.{Counts}

-- a disk with one layer and this number of blocks
pub record IsDiskOf (blocks : ℕ) (layout : Layout) : Type 0 where
  pub shape : layout.shape ≡ Single
  pub sectors0 : layout.sectors0 ≡ 16 * blocks

-- these are the sixteen sectors of those bytes
unfoldable pub are_sectors : List (List ℕ) → List ℕ → Bool
are_sectors sectors image = list_all (λ f. bytes_eq (line sectors f) (drawn_sector image f)) (range_with_len 0 16)

-- one block more that was read back whole, from these rows and marks
pub record CountsOne (rows : List (List ℕ)) (marks : List (List Bool)) (before after : Counts) : Type 0 where
  pub whole : after.whole ≡ before.whole + 1
  pub fixed : after.fixed ≡ before.fixed + block_differences rows (block_in rows marks)
  pub failed : after.failed ≡ before.failed + marked (failed_of (answers_of rows marks))

-- After the first n blocks: the generator's state, the counts, and what the last of them left.
pub record HaveBeenTried (seed n state : ℕ) (counts : Counts) (work : Work) : Type 0 where
  pub state_is : state ≡ state_at seed n
  pub trials : List Trial
  pub count : length trials ≡ n
  pub are : AreTrials seed trials
  pub whole : counts.whole ≡ n
  pub fixed : counts.fixed ≡ fixed_in trials
  pub failed : counts.failed ≡ failed_in trials
  pub fixed_most : counts.fixed ≤ n * 2 ^ 32
  pub failed_most : counts.failed ≤ n * 2 ^ 16
  pub left : (k : ℕ) → n ≡ k + 1 → IsLeft seed k work
