-- The proof of `word_after` in src/scrambling.rt.
use Rattle.std.proofs.Common.{◌≡◌, ℕ, ◌+◌, ◌*◌, ◌/◌, ◌%◌, ◌^◌, ap, arith}
use Rattle.dvd_frame.proofs.KeyWords.{word_follows}
use Rattle.dvd_frame.proofs.scrambling.word_after.Goals as goal

pub returns : goal.returns
returns c = λ preset k is_word is_next.
    let both : ℕ = c.from.result * 2 ^ 64 % 2 ^ 128 + c.from-2.result in
    let joined : both ≡ c.args.word * 2 ^ 64 + c.args.next = omega arith in
    word_follows preset k c.args.word c.args.next (both * 2 ^ 8 % 2 ^ 128 / 2 ^ 64) (both * 2 ^ 40 % 2 ^ 128 / 2 ^ 64) (omega arith) (omega arith)
    (ap (λ (b : ℕ). b * 2 ^ 8 % 2 ^ 128 / 2 ^ 64) joined) (ap (λ (b : ℕ). b * 2 ^ 40 % 2 ^ 128 / 2 ^ 64) joined) is_word is_next
