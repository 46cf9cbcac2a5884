-- Words over the field and their codes (ECMA-267, clauses 16.2 and 18).
-- A word of n bytes is a polynomial whose first byte is the coefficient of x^(n-1).
use Rattle.std.specs.Prelude.{◌≡◌, ℕ, ◌+◌, ◌-◌, ◌<◌, ◌≤◌, Bool, List, [], ◌∷◌, length, take, All, ◌==◌, if◌then◌else◌}
use Rattle.coding.specs.Field.{alpha, plus, product, power}

-- a byte is a number below 256
abbrev pub IsByte : ℕ → Type 0
IsByte b = b < 256

-- the polynomial's value at x: the sum of each byte times the power of x whose coefficient it is
unfoldable pub value : List ℕ → ℕ → ℕ
value [] x = 0
value (byte ∷ rest) x = plus (product byte (power x (length rest))) (value rest x)

-- a codeword of n bytes with r parity bytes: its values at alpha^0 to alpha^(r-1) are 0; no generator polynomial is
-- named
pub record IsCodeword (n r : ℕ) (word : List ℕ) : Type 0 where
  pub size : length word ≡ n
  pub bytes : All IsByte word
  pub vanishes : (k : ℕ) → k < r → value word (power alpha k) ≡ 0

-- the codeword that begins with this message; the code divides by a generator to find it
pub record IsEncoded (n r : ℕ) (message word : List ℕ) : Type 0 where
  pub codeword : IsCodeword n r word
  pub begins : take (n - r) word ≡ message

-- What a word costs against a received one: two for each place that isn't marked and differs, and one for each marked
-- place, whose byte doesn't count.
unfoldable pub cost : List ℕ → List ℕ → List Bool → ℕ
cost (byte ∷ word) (got ∷ received) (mark ∷ marks) =
    (if mark then 1 else if byte == got then 0 else 2) + cost word received marks
cost word received marks = 0

-- A codeword near a received word with marks. The decoder uses syndromes and a locator; this definition needs neither.
pub record IsNear (n r : ℕ) (received : List ℕ) (marks : List Bool) (word : List ℕ) : Type 0 where
  pub codeword : IsCodeword n r word
  pub received_size : length received ≡ n
  pub marks_size : length marks ≡ n
  pub within : cost word received marks ≤ r
