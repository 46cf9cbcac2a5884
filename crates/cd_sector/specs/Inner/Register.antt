-- The register of the EDC (ours): 32 bits in one word, that of the highest power lowest.
use Rattle.std.specs.Prelude.{ℕ, zero, suc, ◌+◌, ◌/◌, ◌%◌, ◌==◌, bit_xor, slice_index, if◌then◌else◌, List, [], ◌∷◌}

-- the register after one step of the division, once the next bit is added to it
unfoldable pub stepped : ℕ → ℕ
stepped register = bit_xor (register / 2) (if register % 2 == 1 then 0xD8018001 else 0)

-- the register after n steps
unfoldable pub after_steps : ℕ → ℕ → ℕ
after_steps zero register = register
after_steps (suc n) register = after_steps n (stepped register)

-- the register after these bytes are read
unfoldable pub after_reading : List ℕ → ℕ → ℕ
after_reading [] register = register
after_reading (byte ∷ bytes) register = after_reading bytes (after_steps 8 (bit_xor register byte))

-- what is left of four bytes: n steps after the last, and eight more steps for each one before it
abbrev pub after_word : ℕ → List ℕ → ℕ
after_word n word =
    bit_xor (bit_xor (after_steps (24 + n) (slice_index word 0)) (after_steps (16 + n) (slice_index word 1)))
    (bit_xor (after_steps (8 + n) (slice_index word 2)) (after_steps n (slice_index word 3)))
