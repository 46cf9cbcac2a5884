-- The proof of `scramble_slice` in src/scrambling.rt.
use Rattle.std.proofs.Common.{◌≡◌, ℕ, List, length, take, get_or, ap, ◌∙◌, arith}
use Rattle.std.specs.Prelude.{bit_xor}
use Rattle.std.proofs.lemmas.List.{length-take-le}
use Rattle.dvd_frame.specs.Inner.Registers.{keys_from}
use Rattle.dvd_frame.specs.Scrambling.{preset_of}
use Rattle.dvd_frame.proofs.KeyWords.{key_made}
use Rattle.dvd_frame.proofs.Masking.{masked_parts}
use Rattle.dvd_frame.proofs.scrambling.scramble_slice.Goals as goal

pub returns : goal.returns
returns c =
    let count : ℕ = c.count.result in
    let main : List ℕ = c.args.main.now in
    let prefix_size : length (take count main) ≡ count = length-take-le count main (omega arith) in
    let made : c.select.new.self.bytes ≡ keys_from (preset_of c.args.id) 0 2048 =
    c.select.new.self.made ∙ ap (λ (p : ℕ). keys_from p 0 2048) c.select.ensures in
    masked_parts c.args.id c.args.rule main c.combine.new.bytes count c.count.ensures.value (omega arith) (omega arith)
    (λ k below. c.combine.ensures k (omega arith) ∙ ap (bit_xor (get_or (take count main) k 0)) (key_made (preset_of c.args.id) 2048 k c.select.new.self.bytes made (omega arith)))
