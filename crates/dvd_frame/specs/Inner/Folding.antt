-- What the division of chunks by a multiple of the divisor writes. A byte that a list lacks is 0.
use Rattle.std.specs.Prelude.{◌≡◌, ℕ, ◌+◌, ◌*◌, ◌<◌, List, ◌++◌, bit_xor, replicate, slice_index}

-- byte k of a list that begins p places on
abbrev pub byte_after : ℕ → List ℕ → ℕ → ℕ
byte_after p bytes k = slice_index (replicate p 0 ++ bytes) k

-- The first n bytes of a quotient: each is the byte that is divided, with those of the quotient 1, 28 and 32 chunks of
-- w bytes before it.
abbrev pub AreQuotients : ℕ → List ℕ → List ℕ → ℕ → Type 0
AreQuotients w bytes quotient n =
    (k : ℕ) → k < n
    → slice_index quotient k
    ≡ bit_xor (bit_xor (bit_xor (slice_index bytes k) (byte_after w quotient k)) (byte_after (28 * w) quotient k)) (byte_after (32 * w) quotient k)

-- The first n bytes that a quotient of 33 chunks leaves of those after it: of 65 chunks all but the first are in the
-- list, which has 32 of them before these.
abbrev pub AreRests : ℕ → List ℕ → List ℕ → List ℕ → ℕ → Type 0
AreRests w others quotient rest n =
    (k : ℕ) → k < n
    → slice_index rest k
    ≡ bit_xor (bit_xor (bit_xor (slice_index others (32 * w + k)) (slice_index quotient (32 * w + k))) (slice_index quotient (5 * w + k))) (slice_index quotient (w + k))
