-- Sixteen bytes read into the register at once: what is left of each, with the register's own bytes added to the first
-- four, is added up.
use Rattle.std.proofs.Common.{◌≡◌, ℕ, zero, suc, ◌+◌, ◌*◌, ◌/◌, ◌%◌, ◌^◌, ◌<◌, ◌≤◌, List, [], ◌∷◌, ◌++◌, length, get_or, drop, refl, sym, ◌∙◌, ap, ap₂, zero-add, add-one, arith}
use Rattle.std.specs.Prelude.{bit_xor}
use Rattle.std.specs.Int.{to_le_bytes, w32}
use Rattle.std.specs.Int.Bits.{xor_zero_r, xor_assoc}
use Rattle.std.specs.List.{concat}
use Rattle.std.proofs.lemmas.Nat.{xor_comm}
use Rattle.std.proofs.Math.Seq.{drop-cons}
use Rattle.std.proofs.lemmas.List.{drop_all}
use Rattle.rs_code.proofs.Chunks.{bytes_at_places}
use Rattle.cd_sector.specs.Inner.Register.{stepped, after_steps, after_reading, after_word}
use Rattle.cd_sector.proofs.Division.{after_reading-append}
use Rattle.cd_sector.proofs.Steps.{after_steps_sum, byte_read}

-- steps that follow others
after_steps-twice : (m n register : ℕ) → after_steps m (after_steps n register) ≡ after_steps (n + m) register
unfolding after_steps
after_steps-twice m zero register = ap (λ (k : ℕ). after_steps k register) (sym (zero-add m))
after_steps-twice m (suc n) register =
    let count : suc (n + m) ≡ suc n + m = omega arith in
    after_steps-twice m n (stepped register) ∙ ap (λ (k : ℕ). after_steps k register) count

-- what is in the register besides goes through all steps by itself
reading_sum : (bytes : List ℕ) (a register : ℕ)
    → after_reading bytes (bit_xor a register) ≡ bit_xor (after_steps (8 * length bytes) a) (after_reading bytes register)
unfolding after_reading after_steps
reading_sum [] a register = refl
reading_sum (byte ∷ bytes) a register =
    let count : 8 + 8 * length bytes ≡ 8 * suc (length bytes) = omega arith in
    ap (λ (x : ℕ). after_reading bytes (after_steps 8 x)) (xor_assoc a register byte)
    ∙ ap (after_reading bytes) (after_steps_sum 8 a (bit_xor register byte))
    ∙ reading_sum bytes (after_steps 8 a) (after_steps 8 (bit_xor register byte))
    ∙ ap (λ (x : ℕ). bit_xor x (after_reading bytes (after_steps 8 (bit_xor register byte))))
    (after_steps-twice (8 * length bytes) 8 a ∙ ap (λ (k : ℕ). after_steps k a) count)

-- the first byte meets the register's lowest, and the others meet what is above it
reading_first : (byte : ℕ) (bytes : List ℕ) (register : ℕ)
    → after_reading (byte ∷ bytes) register ≡ bit_xor (after_steps (8 + 8 * length bytes) (bit_xor byte (register % 256))) (after_reading bytes (register / 256))
unfolding after_reading
reading_first byte bytes register =
    let met : ℕ = after_steps 8 (bit_xor (register % 256) byte) in
    ap (after_reading bytes) (sym (byte_read register byte) ∙ xor_comm (register / 256) met)
    ∙ reading_sum bytes met (register / 256)
    ∙ ap (λ (x : ℕ). bit_xor x (after_reading bytes (register / 256)))
    (after_steps-twice (8 * length bytes) 8 (bit_xor (register % 256) byte) ∙ ap (after_steps (8 + 8 * length bytes)) (xor_comm (register % 256) byte))

-- four bytes meet all of the register
reading_four : (a b c d n : ℕ) (bytes : List ℕ) (register : ℕ) → n ≡ 8 + 8 * length bytes
    → after_reading (a ∷ b ∷ c ∷ d ∷ bytes) register
    ≡ bit_xor (after_word n (bit_xor a (register % 256) ∷ bit_xor b (register / 256 % 256) ∷ bit_xor c (register / 256 / 256 % 256) ∷ bit_xor d (register / 256 / 256 / 256 % 256) ∷ []))
    (after_reading bytes (register / 256 / 256 / 256 / 256))
reading_four a b c d n bytes register size =
    let x : ℕ = bit_xor a (register % 256) in
    let y : ℕ = bit_xor b (register / 256 % 256) in
    let z : ℕ = bit_xor c (register / 256 / 256 % 256) in
    let w : ℕ = bit_xor d (register / 256 / 256 / 256 % 256) in
    let rest : ℕ = after_reading bytes (register / 256 / 256 / 256 / 256) in
    let first : 8 + 8 * suc (suc (suc (length bytes))) ≡ 24 + n = omega arith in
    let second : 8 + 8 * suc (suc (length bytes)) ≡ 16 + n = omega arith in
    let third : 8 + 8 * suc (length bytes) ≡ 8 + n = omega arith in
    reading_first a (b ∷ c ∷ d ∷ bytes) register
    ∙ ap₂ (λ (k t : ℕ). bit_xor (after_steps k x) t) first
    (reading_first b (c ∷ d ∷ bytes) (register / 256)
    ∙ ap₂ (λ (k t : ℕ). bit_xor (after_steps k y) t) second
    (reading_first c (d ∷ bytes) (register / 256 / 256)
    ∙ ap₂ (λ (k t : ℕ). bit_xor (after_steps k z) t) third
    (reading_first d bytes (register / 256 / 256 / 256)
    ∙ ap (λ (k : ℕ). bit_xor (after_steps k w) rest) (sym size))))
    ∙ sym (xor_assoc (after_steps (24 + n) x) (after_steps (16 + n) y) (bit_xor (after_steps (8 + n) z) (bit_xor (after_steps n w) rest)))
    ∙ ap (bit_xor (bit_xor (after_steps (24 + n) x) (after_steps (16 + n) y))) (sym (xor_assoc (after_steps (8 + n) z) (after_steps n w) rest))
    ∙ sym (xor_assoc (bit_xor (after_steps (24 + n) x) (after_steps (16 + n) y)) (bit_xor (after_steps (8 + n) z) (after_steps n w)) rest)

-- four bytes that meet nothing of the register
reading_word : (e f g h n : ℕ) (bytes : List ℕ) → n ≡ 8 + 8 * length bytes
    → after_reading (e ∷ f ∷ g ∷ h ∷ bytes) 0 ≡ bit_xor (after_word n (e ∷ f ∷ g ∷ h ∷ [])) (after_reading bytes 0)
reading_word e f g h n bytes size = reading_four e f g h n bytes 0 size ∙ rw (xor_zero_r e, xor_zero_r f, xor_zero_r g, xor_zero_r h) refl

-- sixteen bytes, of which only the first four meet the register
reading_sixteen : (a b c d e f g h i j k l m n o p register : ℕ) → register < 2 ^ 32
    → bit_xor (bit_xor (after_word 104 (bit_xor a (register % 256) ∷ bit_xor b (register / 256 % 256) ∷ bit_xor c (register / 256 / 256 % 256) ∷ bit_xor d (register / 256 / 256 / 256 % 256) ∷ []))
    (after_word 72 (e ∷ f ∷ g ∷ h ∷ []))) (bit_xor (after_word 40 (i ∷ j ∷ k ∷ l ∷ [])) (after_word 8 (m ∷ n ∷ o ∷ p ∷ [])))
    ≡ after_reading (a ∷ b ∷ c ∷ d ∷ e ∷ f ∷ g ∷ h ∷ i ∷ j ∷ k ∷ l ∷ m ∷ n ∷ o ∷ p ∷ []) register
unfolding after_reading
reading_sixteen a b c d e f g h i j k l m n o p register fits =
    let none : register / 256 / 256 / 256 / 256 ≡ 0 = omega arith in
    let four : List ℕ = m ∷ n ∷ o ∷ p ∷ [] in
    let eight : List ℕ = i ∷ j ∷ k ∷ l ∷ four in
    let twelve : List ℕ = e ∷ f ∷ g ∷ h ∷ eight in
    let first : ℕ = after_word 104 (bit_xor a (register % 256) ∷ bit_xor b (register / 256 % 256) ∷ bit_xor c (register / 256 / 256 % 256) ∷ bit_xor d (register / 256 / 256 / 256 % 256) ∷ []) in
    let second : ℕ = after_word 72 (e ∷ f ∷ g ∷ h ∷ []) in
    let third : ℕ = after_word 40 (i ∷ j ∷ k ∷ l ∷ []) in
    let fourth : ℕ = after_word 8 (m ∷ n ∷ o ∷ p ∷ []) in
    xor_assoc first second (bit_xor third fourth)
    ∙ sym (reading_four a b c d 104 twelve register refl
    ∙ ap (bit_xor first)
    (ap (after_reading twelve) none
    ∙ reading_word e f g h 72 eight refl
    ∙ ap (bit_xor second)
    (reading_word i j k l 40 four refl
    ∙ ap (bit_xor third) (reading_word m n o p 8 [] refl ∙ xor_zero_r fourth))))

-- sixteen bytes, one by one
sixteen_bytes : (chunk : List ℕ) → length chunk ≡ 16
    → get_or chunk 0 0 ∷ get_or chunk 1 0 ∷ get_or chunk 2 0 ∷ get_or chunk 3 0 ∷ get_or chunk 4 0 ∷ get_or chunk 5 0 ∷ get_or chunk 6 0 ∷ get_or chunk 7 0 ∷ get_or chunk 8 0 ∷ get_or chunk 9 0 ∷ get_or chunk 10 0 ∷ get_or chunk 11 0 ∷ get_or chunk 12 0 ∷ get_or chunk 13 0 ∷ get_or chunk 14 0 ∷ get_or chunk 15 0 ∷ [] ≡ chunk
sixteen_bytes chunk size = bytes_at_places 16 chunk size

-- the register's bytes, one by one
register_bytes : (register : ℕ) (four : List ℕ) → four ≡ to_le_bytes w32 register
    → (get_or four 0 0 ≡ register % 256) × (get_or four 1 0 ≡ register / 256 % 256) × (get_or four 2 0 ≡ register / 256 / 256 % 256)
    × (get_or four 3 0 ≡ register / 256 / 256 / 256 % 256)
register_bytes register four is =
    let byte : (i : ℕ) → get_or four i 0 ≡ get_or (to_le_bytes w32 register) i 0 = λ i. ap (λ (l : List ℕ). get_or l i 0) is in
    (omega (arith, byte 0), omega (arith, byte 1), omega (arith, byte 2), omega (arith, byte 3))

-- a chunk of sixteen bytes, with the register's four bytes added to the first four
pub chunk_read : (register : ℕ) (chunk four : List ℕ) → register < 2 ^ 32 → length chunk ≡ 16 → four ≡ to_le_bytes w32 register
    → bit_xor (bit_xor (after_word 104 (bit_xor (get_or chunk 0 0) (get_or four 0 0) ∷ bit_xor (get_or chunk 1 0) (get_or four 1 0)
    ∷ bit_xor (get_or chunk 2 0) (get_or four 2 0) ∷ bit_xor (get_or chunk 3 0) (get_or four 3 0) ∷ []))
    (after_word 72 (get_or chunk 4 0 ∷ get_or chunk 5 0 ∷ get_or chunk 6 0 ∷ get_or chunk 7 0 ∷ [])))
    (bit_xor (after_word 40 (get_or chunk 8 0 ∷ get_or chunk 9 0 ∷ get_or chunk 10 0 ∷ get_or chunk 11 0 ∷ [])) (after_word 8 (get_or chunk 12 0 ∷ get_or chunk 13 0 ∷ get_or chunk 14 0 ∷ get_or chunk 15 0 ∷ [])))
    ≡ after_reading chunk register
chunk_read register chunk four fits size is =
    let are = register_bytes register four is in
    rw (are.0, are.1, are.2, are.3)
    (reading_sixteen (get_or chunk 0 0) (get_or chunk 1 0) (get_or chunk 2 0) (get_or chunk 3 0) (get_or chunk 4 0) (get_or chunk 5 0) (get_or chunk 6 0) (get_or chunk 7 0) (get_or chunk 8 0) (get_or chunk 9 0) (get_or chunk 10 0) (get_or chunk 11 0) (get_or chunk 12 0) (get_or chunk 13 0) (get_or chunk 14 0) (get_or chunk 15 0)
    register fits
    ∙ ap (λ (l : List ℕ). after_reading l register) (sixteen_bytes chunk size))

-- the next chunk of a list of chunks
pub chunks-next : (chunks : List (List ℕ)) (i register : ℕ) → i < length chunks
    → after_reading (concat (drop (i + 1) chunks)) (after_reading (get_or chunks i []) register) ≡ after_reading (concat (drop i chunks)) register
chunks-next chunks i register within =
    after_reading-append (get_or chunks i []) (concat (drop (i + 1) chunks)) register
    ∙ ap (λ (l : List (List ℕ)). after_reading (get_or chunks i [] ++ concat l) register) (ap (λ (k : ℕ). drop k chunks) (add-one i))
    ∙ ap (λ (l : List (List ℕ)). after_reading (concat l) register) (sym (drop-cons chunks i [] within))

-- no chunk is left
pub chunks-end : (chunks : List (List ℕ)) (i register : ℕ) → length chunks ≤ i → after_reading (concat (drop i chunks)) register ≡ register
unfolding after_reading
chunks-end chunks i register all = ap (λ (l : List (List ℕ)). after_reading (concat l) register) (drop_all i chunks all)
