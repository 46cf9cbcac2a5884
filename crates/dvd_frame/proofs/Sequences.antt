-- The sequence of scrambling bits, and the register that shows 15 of them.
use Rattle.std.proofs.Common.{◌≡◌, ℕ, zero, suc, ◌+◌, ◌*◌, ◌/◌, ◌%◌, ◌^◌, ◌≤◌, List, [], ◌∷◌, ◌++◌, length, get_or, take, drop, refl, sym, ◌∙◌, ap, arith}
use Rattle.std.specs.Prelude.{bit_xor}
use Rattle.std.proofs.lemmas.List.{length_push, get_or-drop, drop-append-le, drop-drop, take_at}
use Rattle.coding.specs.BitDivision.{plus_prefix}
use Rattle.coding.specs.Bits.{bits, number_of}
use Rattle.dvd_frame.specs.Scrambling.{sequence, scrambling_byte, window}
use Rattle.dvd_frame.proofs.BitLists.{length-bits, bits-mod, bits-split, plus_prefix-bits, number_of-bits}

-- the first 15 + n bits are as many
pub length-sequence : (preset n : ℕ) → length (sequence preset n) ≡ 15 + n
unfolding sequence
length-sequence preset zero = length-bits 15 preset
length-sequence preset (suc n) =
    omega (arith, length_push (sequence preset n) (bit_xor (get_or (sequence preset n) n 0) (get_or (sequence preset n) (n + 4) 0)), length-sequence preset n)

-- the bits after the one that leaves, and the sum of the first and the fifth
pub sequence_step : (preset n : ℕ)
    → drop (suc n) (sequence preset (suc n))
    ≡ drop 1 (drop n (sequence preset n)) ++ bit_xor (get_or (drop n (sequence preset n)) 0 0) (get_or (drop n (sequence preset n)) 4 0) ∷ []
unfolding sequence
sequence_step preset n =
    let u : List ℕ = sequence preset n in
    let long : suc n ≤ length u = omega (arith, length-sequence preset n) in
    let first : n + 0 ≡ n = omega arith in
    let next : n + 1 ≡ suc n = omega arith in
    drop-append-le (suc n) u (bit_xor (get_or u n 0) (get_or u (n + 4) 0) ∷ []) long
    ∙ ap (λ (l : List ℕ). l ++ bit_xor (get_or u n 0) (get_or u (n + 4) 0) ∷ []) (sym (drop-drop 1 n u ∙ ap (λ (k : ℕ). drop k u) next))
    ∙ ap (λ (x : ℕ). drop 1 (drop n u) ++ bit_xor x (get_or u (n + 4) 0) ∷ []) (sym (get_or-drop n u 0 0 ∙ ap (λ (k : ℕ). get_or u k 0) first))
    ∙ ap (λ (x : ℕ). drop 1 (drop n u) ++ bit_xor (get_or (drop n u) 0 0) x ∷ []) (sym (get_or-drop n u 4 0))

-- a window one bit further on
moved : List ℕ → List ℕ
moved shown = drop 1 shown ++ bit_xor (get_or shown 0 0) (get_or shown 4 0) ∷ []

-- a window eight bits further on
moved_by_byte : List ℕ → List ℕ
moved_by_byte shown = moved (moved (moved (moved (moved (moved (moved (moved shown)))))))

-- one term more moves the end of the sequence on by one bit
sequence_moves : (preset n next : ℕ) → n + 1 ≡ next → drop next (sequence preset next) ≡ moved (drop n (sequence preset n))
unfolding moved
sequence_moves preset n next is =
    let same : next ≡ suc n = omega arith in ap (λ (m : ℕ). drop m (sequence preset m)) same ∙ sequence_step preset n

-- the window at the next byte is the one at this byte, moved by eight bits
window_moves : (preset k : ℕ) → window preset (k + 1) ≡ moved_by_byte (window preset k)
unfolding window moved_by_byte
window_moves preset k =
    let n : ℕ = 8 * k in
    sequence_moves preset (n + 7) (8 * (k + 1)) (omega arith)
    ∙ ap moved (sequence_moves preset (n + 6) (n + 7) (omega arith)
    ∙ ap moved (sequence_moves preset (n + 5) (n + 6) (omega arith)
    ∙ ap moved (sequence_moves preset (n + 4) (n + 5) (omega arith)
    ∙ ap moved (sequence_moves preset (n + 3) (n + 4) (omega arith)
    ∙ ap moved (sequence_moves preset (n + 2) (n + 3) (omega arith)
    ∙ ap moved (sequence_moves preset (n + 1) (n + 2) (omega arith)
    ∙ ap moved (sequence_moves preset n (n + 1) (omega arith))))))))

-- of 15 bits the last seven, and after them the sums of the first eight with those four places further on
bits_moved : (register : ℕ) → moved_by_byte (bits 15 register) ≡ bits 7 register ++ plus_prefix (take 8 (bits 15 register)) (take 8 (bits 11 register))
unfolding moved_by_byte moved bits plus_prefix
bits_moved register = refl

-- the upper eight of the lowest 8 + m bits
upper_bits : (m register : ℕ) → take 8 (bits (8 + m) register) ≡ bits 8 (register / 2 ^ m)
upper_bits m register =
    ap (λ (l : List ℕ). take 8 l) (bits-split 8 m register) ∙ take_at (bits 8 (register / 2 ^ m)) (bits m register) 8 (length-bits 8 (register / 2 ^ m))

-- a register whose lowest seven bits moved up by eight, with the eight sums at the end
register_moved : (register next : ℕ) → next ≡ register % 2 ^ 7 * 256 + bit_xor (register / 2 ^ 7) (register / 2 ^ 3) % 2 ^ 8
    → bits 15 next ≡ moved_by_byte (bits 15 register)
register_moved register next is =
    let sums : ℕ = bit_xor (register / 2 ^ 7) (register / 2 ^ 3) in
    let upper : next / 2 ^ 8 ≡ register % 2 ^ 7 = omega (arith, is) in
    let lower : next % 2 ^ 8 ≡ sums % 2 ^ 8 = omega (arith, is) in
    bits-split 7 8 next
    ∙ ap (λ (l : List ℕ). l ++ bits 8 next) (ap (bits 7) upper ∙ bits-mod 7 register)
    ∙ ap (λ (l : List ℕ). bits 7 register ++ l) (sym (bits-mod 8 next) ∙ ap (bits 8) lower ∙ bits-mod 8 sums ∙ sym (plus_prefix-bits 8 (register / 2 ^ 7) (register / 2 ^ 3)))
    ∙ ap (λ (l : List ℕ). bits 7 register ++ plus_prefix l (bits 8 (register / 2 ^ 3))) (sym (upper_bits 7 register))
    ∙ ap (λ (l : List ℕ). bits 7 register ++ plus_prefix (take 8 (bits 15 register)) l) (sym (upper_bits 3 register))
    ∙ sym (bits_moved register)

-- a register that shows the window at byte k shows the next once it has moved by a byte
pub shifted_window : (preset k register next : ℕ) → next ≡ register % 2 ^ 7 * 256 + bit_xor (register / 2 ^ 7) (register / 2 ^ 3) % 2 ^ 8
    → bits 15 register ≡ window preset k → bits 15 next ≡ window preset (k + 1)
shifted_window preset k register next is shows = register_moved register next is ∙ ap moved_by_byte shows ∙ sym (window_moves preset k)

-- a register that shows the window at byte k has that byte in its lowest eight bits
pub byte_shown : (preset k register : ℕ) → bits 15 register ≡ window preset k → register % 256 ≡ scrambling_byte preset k
unfolding scrambling_byte window bits
byte_shown preset k register shows =
    sym (number_of-bits 8 register) ∙ ap (λ (l : List ℕ). number_of (drop 7 l)) shows ∙ ap number_of (drop-drop 7 (8 * k) (sequence preset (8 * k)))
