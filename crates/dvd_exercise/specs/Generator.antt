-- Pseudo-random numbers for a self-test: ours, since ECMA-267 has none. A state is a number below 2^64.
use Rattle.std.specs.Prelude.{ℕ, zero, suc, ◌+◌, ◌*◌, ◌/◌, ◌%◌, ◌^◌, bit_xor, List, map}
use Rattle.std.specs.List.{range_with_len}
use Rattle.dvd_exercise.specs.declared.generator.Rand.{Rand}

-- the state of a generator
abbrev pub state_of : Rand → ℕ
state_of rand = rand.state

-- The next state: three times the exclusive or with itself, shifted by 13 to the left, by 7 to the right and by 17 to
-- the left. Bits shifted over the ends are lost.
unfoldable pub step : ℕ → ℕ
step x =
    let y = bit_xor x (x * 2 ^ 13 % 2 ^ 64) in
    let z = bit_xor y (y / 2 ^ 7) in
    bit_xor z (z * 2 ^ 17 % 2 ^ 64)

-- the state after n words; each word is the state that it leaves
unfoldable pub state_after : ℕ → ℕ → ℕ
state_after x zero = x
state_after x (suc n) = step (state_after x n)

-- of the words drawn from a state on, counted from 0, the top eight bits of word k
unfoldable pub drawn_byte : ℕ → ℕ → ℕ
drawn_byte x k = state_after x (k + 1) / 2 ^ 56

-- n bytes, drawn from a state on
unfoldable pub bytes_from : ℕ → ℕ → List ℕ
bytes_from x n = map (drawn_byte x) (range_with_len 0 n)
