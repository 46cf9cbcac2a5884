-- The proof of `scramble_into` in src/scrambling.rt.
use Rattle.std.proofs.Common.{◌≡◌, ℕ, ◌+◌, ◌-◌, List, ◌++◌, length, take, drop, get_or, sym, ap, ◌∙◌, arith}
use Rattle.std.specs.Prelude.{bit_xor}
use Rattle.std.proofs.lemmas.List.{length-drop, length-take-le, take-append-le, take_all}
use Rattle.dvd_frame.specs.Inner.Registers.{keys_from}
use Rattle.dvd_frame.specs.Scrambling.{preset_of}
use Rattle.dvd_frame.proofs.KeyWords.{key_made}
use Rattle.dvd_frame.proofs.Masking.{masked_parts}
use Rattle.dvd_frame.proofs.scrambling.scramble_into.Goals as goal

pub returns : goal.returns
returns c =
    let count : ℕ = c.count-count.result in
    let bytes : List ℕ = c.args.bytes.now in
    let prefix : List ℕ = c.combine_into.new.out in
    let all : List ℕ = c.put.new.out in
    let prefix_size : length (take count bytes) ≡ count = length-take-le count bytes (omega arith) in
    let size : length prefix ≡ count = c.combine_into.ensures.size ∙ length-take-le count c.args.main.now (omega arith) in
    let made : c.select.new.self.bytes ≡ keys_from (preset_of c.args.id) 0 2048 =
    c.select.new.self.made ∙ ap (λ (p : ℕ). keys_from p 0 2048) c.select.ensures in
    let rest : List ℕ = take (length bytes - count) (drop count bytes) in
    let rest_is : rest ≡ drop count bytes =
    take_all (length bytes - count) (drop count bytes) (omega (arith, length-drop count bytes)) in
    let whole : count + length rest ≡ 2048 = omega (arith, length-drop count bytes, ap length rest_is) in
    sym (take_all 2048 all (omega arith)) ∙ ap (λ (n : ℕ). take n all) (sym whole) ∙ c.put.ensures
    ∙ ap (λ (l : List ℕ). take count (prefix ++ drop count c.args.main.now) ++ l) rest_is
    ∙ ap (λ (l : List ℕ). l ++ drop count bytes)
    (take-append-le count prefix _ (omega (arith, size)) ∙ take_all count prefix (omega (arith, size)))
    ∙ masked_parts c.args.id c.args.rule bytes prefix count c.count-count.ensures.value (omega arith) size
    (λ k below.
    c.combine_into.ensures.each k (omega (arith, size))
    ∙ ap (bit_xor (get_or (take count bytes) k 0))
    (key_made (preset_of c.args.id) 2048 k c.select.new.self.bytes made (omega arith)))
