-- The proof of `column_pieces` in src/passes.rt.
use Rattle.std.proofs.Common.{◌≡◌, ◌+◌, ◌<◌, length, map, get_or, subst, ap, sym, ◌∙◌, arith}
use Rattle.coding.specs.TwoPass.{column_answer}
use Rattle.dvd_read.specs.Parts.{answer_word, column_word}
use Rattle.dvd_par.proofs.passes.column_pieces.Goals as goal

pub returns : goal.returns
returns g c = record {
  are = λ i d within.
      let said = (c.for_each_piece.ensures.pieces i d (omega arith)).1 in
      let inside : said.offset < length said.after_call.now = omega (arith, said.call.1, said.offset_in_chunk) in
      subst (λ n. column_word (get_or c.for_each_piece.new.items i d) ≡ column_answer (map answer_word c.args.answers.now) n)
      {x = said.start + said.offset} (omega (arith, said.start_plus_offset))
      (ap column_word (sym said.new_element) ∙ said.call.0.are said.offset d inside);
}
