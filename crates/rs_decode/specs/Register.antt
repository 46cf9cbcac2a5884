-- Linear feedback registers (ours): the rules by which each number of a list is a sum of multiples of the numbers
-- before it.
use Rattle.std.specs.Prelude.{◌≡◌, ℕ, zero, suc, ◌+◌, ◌-◌, ◌<◌, ◌≤◌, List, length, All, slice_index}
use Rattle.coding.specs.Field.{plus, product}
use Rattle.coding.specs.Words.{IsByte}

-- the sum of the first values of a function, from its value at 0 on
unfoldable pub total : ℕ → (ℕ → ℕ) → ℕ
total zero f = 0
total (suc count) f = plus (total count f) (f count)

-- the connection at place n: the sum over i from 0 to len of the i-th tap times the number i places before n
unfoldable pub connection : ℕ → List ℕ → List ℕ → ℕ → ℕ
connection len taps seq n = total (len + 1) (λ i. product (slice_index taps i) (slice_index seq (n - i)))

-- A register of length len generates a list: its first tap is 1, and from place len on each connection is 0.
-- So the list's first len numbers and the other taps determine the list.
pub record Generates (len : ℕ) (taps seq : List ℕ) : Type 0 where
  pub within : len ≤ length seq
  pub size : length taps ≡ len + 1
  pub bytes : All IsByte taps
  pub first : slice_index taps 0 ≡ 1
  pub vanishes : (n : ℕ) → len ≤ n → n < length seq → connection len taps seq n ≡ 0

-- no register that generates the list is shorter
abbrev pub IsLeast : ℕ → List ℕ → Type 0
IsLeast len seq = (other : ℕ) (taps : List ℕ) → Generates other taps seq → len ≤ other
