-- The proof of `set_first_keys` in src/scrambling.rt.
use Rattle.std.proofs.Common.{◌≡◌, ℕ, ◌+◌, ◌*◌, take, refl, sym, ◌∙◌, ap, arith}
use Rattle.dvd_frame.specs.Inner.Registers.{keys_from}
use Rattle.dvd_frame.proofs.KeyWords.{keys_written}
use Rattle.dvd_frame.proofs.scrambling.set_first_keys.Goals as goal

pub loop-place-init : goal.loop-place-init
unfolding keys_from
loop-place-init c =
    let preset : ℕ = c.args.preset in
    record {
      written = refl;
      word = c.next_word-word.ensures.word preset 0 c.new-stream.ensures;
      next = c.next_word-next.ensures.word preset 8 (c.next_word-word.ensures.after preset 0 c.new-stream.ensures);
    }

pub loop-place-preserved : goal.loop-place-preserved
loop-place-preserved c =
    let preset : ℕ = c.args.preset in
    let place : ℕ = 8 * c.loop-place.place in
    let past : place + 8 ≡ 8 * (c.loop-place.place + 1) = omega arith in
    let further : place + 16 ≡ 8 * (c.loop-place.place + 1) + 8 = omega arith in
    record {
      written = ap (λ (m : ℕ). take m c.put.new.out) (sym past)
          ∙ keys_written preset place 8 c.loop-place.keys c.put.new.out c.to_be_bytes.result
          c.put.ensures c.loop-place.invariant.written (c.to_be_bytes.ensures ∙ c.loop-place.invariant.word)
          ∙ ap (keys_from preset 0) past;
      word = c.loop-place.invariant.next ∙ ap (λ (k : ℕ). keys_from preset k 8) past;
      next = c.word_after.ensures preset place c.loop-place.invariant.word c.loop-place.invariant.next ∙ ap (λ (k : ℕ). keys_from preset k 8) further;
    }
