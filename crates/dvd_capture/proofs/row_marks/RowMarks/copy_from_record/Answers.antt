-- The proof of `RowMarks::copy_from_record` in src/row_marks.rt.
use Rattle.std.proofs.Common.{◌≡◌, ◌⊎◌, ◌∙◌, ℕ, false, List, drop, replicate, inl, inr, refl, length-drop, ap, arith}
use Rattle.std.proofs.lemmas.List.{take_all}
use Rattle.dvd_capture.specs.Captured.{marks_in}
use Rattle.dvd_capture.specs.declared.form.Form.{Form}
use Rattle.dvd_capture.specs.declared.form.Form.TheVariants.{Listed, Plain}
use Rattle.dvd_capture.specs.MarkBits.{marks_of}
use Rattle.dvd_capture.proofs.row_marks.RowMarks.copy_from_record.Goals as goal

-- a form without mark bits in its rows
no_bits : (form : Form) (row : List ℕ) → (form ≡ Plain) ⊎ (form ≡ Listed) → replicate 182 false ≡ marks_in form row
no_bits form row (inl is) = rw is refl
no_bits form row (inr is) = rw is refl

pub returns-in-Plain : goal.returns-in-Plain
returns-in-Plain c = c.none.ensures ∙ no_bits c.args.form c.args.bytes.now c.in-Plain.is

pub returns-in-Marked : goal.returns-in-Marked
returns-in-Marked c =
    rw c.in-Marked.is
    (ap marks_of (c.copy_from_slice.ensures.after ∙ take_all _ (drop 182 c.args.bytes.now) (omega (arith, length-drop 182 c.args.bytes.now))))
