-- The proof of `put_row` in src/frame.rt.
use Rattle.std.proofs.Common.{◌∙◌, sym}
use Rattle.dvd_assemble.proofs.Reading.{record_begins}
use Rattle.dvd_assemble.proofs.frame.put_row.Goals as goal

pub slice_bounds-copy_from_slice-end : goal.slice_bounds-copy_from_slice-end
slice_bounds-copy_from_slice-end c = sym c.told-row

pub slice_bounds-copy_from_slice-end-2 : goal.slice_bounds-copy_from_slice-end-2
slice_bounds-copy_from_slice-end-2 c = sym (record_begins c.args.form c.args.bytes.now c.requires)

pub copy_from_slice-requires : goal.copy_from_slice-requires
copy_from_slice-requires c = c.told-row ∙ sym (record_begins c.args.form c.args.bytes.now c.requires)
