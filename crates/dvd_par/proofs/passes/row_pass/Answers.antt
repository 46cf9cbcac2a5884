-- The proof of `row_pass` in src/passes.rt.
use Rattle.std.proofs.Common.{◌+◌, ◌<◌, ℕ, length, get_or, subst, arith}
use Rattle.coding.specs.Product.{line}
use Rattle.dvd_capture.specs.Answers.{IsAnswer, marks_line}
use Rattle.dvd_capture.specs.Parts.{marks_rows, received_rows}
use Rattle.dvd_par.proofs.passes.row_pass.Goals as goal

pub returns : goal.returns
returns g c = record {
  are = λ i d within.
      let said = (c.for_each_piece.ensures.pieces i d (omega arith)).1 in
      let inside : said.offset < length said.after_call.now = omega (arith, said.call.1, said.offset_in_chunk) in
      let at : ℕ = said.start + said.offset in
      subst
      (λ n. IsAnswer (line (received_rows c.args.received.now) n) (marks_line (marks_rows c.args.marks.now) n) (get_or c.for_each_piece.new.items i d))
      {x = said.start + said.offset} (omega (arith, said.start_plus_offset))
      (subst (IsAnswer (line (received_rows c.args.received.now) at) (marks_line (marks_rows c.args.marks.now) at)) said.new_element
      (said.call.0.are said.offset d inside));
}
