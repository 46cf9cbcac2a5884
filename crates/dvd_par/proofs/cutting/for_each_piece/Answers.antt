-- The proof of `for_each_piece` in src/cutting.rt.
use Rattle.std.proofs.Common.{◌<◌, ◌∙◌, length, get_or, ap, refl, subst, sym}
use Rattle.std.specs.Fork.{IsChunk}
use Rattle.dvd_par.proofs.cutting.for_each_piece.Goals as goal

pub returns : goal.returns
returns g c = record {
  size = c.piece_size-size.result;
  is_size = c.piece_size-size.ensures;
  pieces = λ i d within.
      let chunk = (c.for_each_chunk_mut.ensures.by_index i d within).1 in
      let done = chunk.call in (
        refl,
        record {
          start = chunk.start;
          offset = chunk.offset;
          start_plus_offset = chunk.start_plus_offset;
          argument = done.argument;
          argument_is = subst (IsChunk c.args.items.now c.piece_size-size.result chunk.start) (sym done.argument_is) chunk.argument_is;
          offset_in_chunk = subst (λ l. chunk.offset < length l) (sym done.argument_is) chunk.offset_in_chunk;
          old_element = ap (λ l. get_or l chunk.offset d) done.argument_is ∙ chunk.old_element;
          after_call = done.after_call;
          call = done.call;
          new_element = ap (λ l. get_or l chunk.offset d) done.left ∙ chunk.new_element;
        },
      );
}
