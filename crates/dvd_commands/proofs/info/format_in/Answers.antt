-- The proof of `format_in` in src/info.rt.
use Rattle.std.proofs.Common.{◌≡◌, ◌∙◌, inr, Some, refl, ap, sym}
use Rattle.dvd_capture.specs.Works.{marks_of_work, rows_of, sectors_of}
use Rattle.dvd_control.specs.Format.{control_fault}
use Rattle.dvd_decoding.specs.Reading.{IsReadAs}
use Rattle.dvd_commands.proofs.info.Blocks.{not_ok, on_ok}
use Rattle.dvd_commands.proofs.info.format_in.Goals as goal

pub returns-clause-none : goal.returns-clause-none
returns-clause-none c = λ none.
    let sectors = sectors_of c.read_block.new.work in
    let sector = c.copy_from_slice.new.self in
    let fault = not_ok c.from_bytes.result (λ fault. control_fault sector ≡ Some fault) (sym c.ok-2.ensures.value ∙ none) c.from_bytes.ensures.refused in
    let read = on_ok c.read_block.result (IsReadAs (rows_of c.args.work.now) (marks_of_work c.args.work.now) c.args.entry.now sectors) c.in_ok-ok.field-0
    (sym c.ok.ensures.value ∙ c.in_ok-ok.was) c.read_block.ensures.read in record {
      why = inr (sectors, fault.0, read, ap control_fault (sym (c.copy_from_slice.ensures.after ∙ c.sector.ensures.value)) ∙ fault.1);
      nothing = refl;
      good = refl;
    }
