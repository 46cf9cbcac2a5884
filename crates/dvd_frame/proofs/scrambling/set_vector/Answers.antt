-- The proof of `set_vector` in src/scrambling.rt.
use Rattle.std.proofs.Common.{◌≡◌, ℕ, ◌+◌, ◌-◌, List, length, take, drop, sym, ap, ap₂, ◌∙◌, arith}
use Rattle.std.specs.Prelude.{bit_xor}
use Rattle.std.specs.Simd.Lanes.{zip2}
use Rattle.std.proofs.lemmas.Simd.{length-chunk, take_more_put_chunk}
use Rattle.coding.specs.BitDivision.{plus_prefix}
use Rattle.dvd_frame.specs.Inner.Registers.{keys_from}
use Rattle.dvd_frame.proofs.ChunkFolds.{plus_prefix-zip2}
use Rattle.dvd_frame.proofs.KeyWords.{length-keys, keys_written, vector_follows}
use Rattle.dvd_frame.proofs.scrambling.set_vector.Goals as goal

pub returns : goal.returns
returns c = λ preset made.
    let keys : List ℕ = c.args.keys.now in
    let at : ℕ = c.args.at in
    let vector : List ℕ = zip2 bit_xor c.load.result c.load-2.result in
    let far_size : length (take 32 (drop (at - 240) keys)) ≡ 32 = length-chunk (at - 240) 32 keys (omega arith) in
    let near_size : length (take 32 (drop (at - 176) keys)) ≡ 32 = length-chunk (at - 176) 32 keys (omega arith) in
    let long : length c.load.result ≡ length c.load-2.result = ap length c.load.ensures ∙ far_size ∙ sym (ap length c.load-2.ensures ∙ near_size) in
    let follows : vector ≡ keys_from preset at 32 =
    plus_prefix-zip2 c.load.result c.load-2.result long ∙ ap₂ plus_prefix c.load.ensures c.load-2.ensures
    ∙ vector_follows preset at (at - 240) (at - 176) keys (omega arith) (omega arith) made in
    let size : length vector ≡ 32 = ap length follows ∙ length-keys preset at 32 in
    keys_written preset at 32 keys _ vector (take_more_put_chunk at keys vector (at + length vector) (omega arith) (omega (arith, size))) made follows
