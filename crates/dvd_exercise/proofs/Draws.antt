-- Words and bytes that are drawn one after the other.
use Rattle.std.proofs.Common.{◌≡◌, ℕ, zero, suc, ◌+◌, ◌/◌, ◌^◌, ◌<◌, length, get_or, refl, ap, add-zero, add-one, add-suc, zero-add}
use Rattle.std.proofs.lemmas.List.FromFn.{get_or-map-range_with_len, length-map-range_with_len}
use Rattle.dvd_exercise.specs.Generator.{drawn_byte, bytes_from, state_after, step}

-- no word yet
pub state_none : (x : ℕ) → state_after x 0 ≡ x
unfolding state_after
state_none x = refl

-- one word more
pub state_more : (x n : ℕ) → step (state_after x n) ≡ state_after x (n + 1)
unfolding state_after
state_more x n = rw add-one refl

-- the first words
pub state_one : (x : ℕ) → step x ≡ state_after x 1
unfolding state_after
state_one x = refl

-- the first two
pub two_words : (x : ℕ) → step (step x) ≡ state_after x 2
unfolding state_after
two_words x = refl

-- one byte more
pub byte_more : (x n : ℕ) → step (state_after x n) / 2 ^ 56 ≡ drawn_byte x n
unfolding drawn_byte
byte_more x n = ap (λ (y : ℕ). y / 2 ^ 56) (state_more x n)

-- words after words
pub state-add : (x m n : ℕ) → state_after (state_after x m) n ≡ state_after x (m + n)
unfolding state_after
state-add x m zero = rw add-zero refl
state-add x m (suc n) = rw add-suc (ap step (state-add x m n))

-- how many bytes are drawn
pub length-bytes_from : (x n : ℕ) → length (bytes_from x n) ≡ n
unfolding bytes_from
length-bytes_from x n = length-map-range_with_len (drawn_byte x) 0 n

-- the byte in its place
pub get_or-bytes_from : (x n k : ℕ) → k < n → get_or (bytes_from x n) k 0 ≡ drawn_byte x k
unfolding bytes_from
get_or-bytes_from x n k below = get_or-map-range_with_len (drawn_byte x) 0 n k k 0 below (zero-add k)
