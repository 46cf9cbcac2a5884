-- The proof of `read` in src/buffers.rt.
use Rattle.std.proofs.Common.{◌≡◌, ◌∙◌, ◌<◌, ◌++◌, ap, sym, subst, refl, arith, length, take, slice_index, slice_set, is_some, length-append}
use Rattle.std.proofs.lemmas.List.{get_or_default, length-take-le, with_items_is}
use Rattle.cap_interleave.specs.Blocks.{block_written}
use Rattle.cap_interleave.specs.Inner.{BuffersState}
use Rattle.cap_interleave.proofs.BlockLemmas.{filled_room}
use Rattle.cap_interleave.proofs.HeldLemmas.{gives_by, same_state}
use Rattle.cap_interleave.proofs.buffers.Buffers.read.Goals as goal

pub returns-clause-read : goal.returns-clause-read
returns-clause-read g c =
    let count = c.in_ok-held.held in
    let own = take count c.fetch.new.block in
    let size : length c.deref_mut.result.now ≡ c.args.self.now.size = c.deref_mut.ensures.len ∙ ap (λ (b : BuffersState). b.size) c.self.view_is in
    let held : c.self.inside.held.items ≡ c.args.self.now.held = ap (λ (b : BuffersState). b.held) c.self.view_is in
    let block : c.deref.result.now ≡ c.fetch.new.block = c.deref.ensures.value ∙ with_items_is c.self.inside.block c.fetch.new.block (c.fetch.ensures.size ∙ c.deref_mut.ensures.len) in
    let few : length own ≡ count = length-take-le count c.fetch.new.block (omega (arith, c.in_ok-held.ensures.bound, c.in_ok-held.ensures.size)) in
    let here : c.index.result.now ≡ slice_index c.args.self.now.held c.args.c =
    c.index.ensures ∙ get_or_default c.self.inside.held.items c.args.c c.index.result.now 0 (subst (λ l. c.args.c < length l) (sym held) c.requires.capture)
    ∙ ap (λ l. slice_index l c.args.c) held in
    let unit : c.put_block.new.unit.items ≡ c.args.self.now.unit ++ block_written c.args.self.now.fill own =
    c.put_block.ensures.items ∙ ap (λ o. c.self.inside.unit.items ++ block_written (is_some c.self.inside.lost) (take count o)) block ∙ ap (λ (b : BuffersState). b.unit ++ block_written b.fill own) c.self.view_is in
    record {
      own = own;
      gives = gives_by _ _ _ _ _ _ _ _ size here refl c.in_ok-held.ensures.gives;
      becomes = same_state _ _ (ap (λ (b : BuffersState). b.size) c.self.view_is) (ap (λ (b : BuffersState). b.fill) c.self.view_is)
          (ap (λ l. slice_set l c.args.c count) held ∙ ap (slice_set c.args.self.now.held c.args.c) (sym few)) unit;
      room = omega (
        arith,
        ap length unit,
        length-append c.args.self.now.unit (block_written c.args.self.now.fill own),
        filled_room c.args.self.now.fill own (omega (arith, few, c.in_ok-held.ensures.bound, c.deref_mut.ensures.len, c.self.invariant)),
      );
    }
