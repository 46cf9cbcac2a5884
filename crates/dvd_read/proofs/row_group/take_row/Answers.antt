-- The proof of `take_row` in src/row_group.rt.
use Rattle.std.proofs.Common.{Some, refl}
use Rattle.std.proofs.lemmas.List.Elements.{All-from_get_or}
use Rattle.coding.specs.Words.{IsByte}
use Rattle.dvd_read.proofs.Standing.{own-row}
use Rattle.dvd_read.proofs.row_group.take_row.Goals as goal

pub returns : goal.returns
returns c = record {
  bytes = c.copy_row.ensures;
  width = c.told-row;
  answered = refl;
  right = λ vanishes.
      own-row c.args.row.now (record { bytes = c.copy_row.new.to; fix = Some (record { errors = 0; erased = 0 }) })
      (record { size = c.told-row; bytes = All-from_get_or IsByte c.args.row.now 0 (λ i within. c.fits-row i); vanishes = vanishes }) c.copy_row.ensures
      refl;
}
