-- The damage that a self-test does to a received block: ours, since ECMA-267 has none. Some rows are bad, some are
-- lost, and each other row has a few single errors. All is drawn from one state x, word by word.
use Rattle.std.specs.Prelude.{◌≡◌, ◌≢◌, ℕ, zero, suc, ◌+◌, ◌-◌, ◌*◌, ◌%◌, ◌<◌, Bool, true, false, ◌==◌, if◌then◌else◌, List, [], length, map, replicate, slice_index, slice_index_or, bit_or, bit_xor}
use Rattle.std.specs.List.{list_any, range_with_len}
use Rattle.coding.specs.Product.{line}
use Rattle.dvd_exercise.specs.Generator.{drawn_byte, state_after}

-- From state x on, the first word gives the number of bad rows, 8 at most,
abbrev pub bad_count : ℕ → ℕ
bad_count x = state_after x 1 % 9

-- the second the number of lost rows, so few that twice the bad rows plus the lost rows is at most 16,
abbrev pub lost_count : ℕ → ℕ
lost_count x = state_after x 2 % (17 - 2 * bad_count x)

-- and the third the first of these rows.
abbrev pub start_row : ℕ → ℕ
start_row x = state_after x 3 % 208

-- The bad rows and then the lost ones are five apart, round the block. No row comes twice, since 5 and 208 have no
-- common divisor.
abbrev pub damaged_row : ℕ → ℕ → ℕ
damaged_row start turn = (start + 5 * turn) % 208

-- whether a row is one of the first n of them
unfoldable pub is_hit : ℕ → ℕ → ℕ → Bool
is_hit start n row = list_any (λ turn. damaged_row start turn == row) (range_with_len 0 n)

-- a row each of whose bytes becomes the exclusive or with one that is drawn from state y on
unfoldable pub combined : ℕ → List ℕ → List ℕ
combined y row = map (λ j. bit_xor (slice_index row j) (drawn_byte y j)) (range_with_len 0 182)

-- From state y on, the first word gives the number of single errors of a row, 5 at most,
abbrev pub drawn_errors : ℕ → ℕ
drawn_errors y = state_after y 1 % 6

-- and the second the place of the first. The others follow 31 apart, round the row, and no place comes twice.
abbrev pub error_place : ℕ → ℕ → ℕ
error_place y u = (state_after y 2 % 182 + 31 * u) % 182

-- the byte of error u for the exclusive or: the byte that is drawn then, with its lowest bit set, so that it is never 0
abbrev pub error_byte : ℕ → ℕ → ℕ
error_byte y u = bit_or (drawn_byte y (2 + u)) 1

-- `after` is `before` with n new values at these places, and nothing else is changed
pub record IsChanged {X : Type 0} (none : X) (n : ℕ) (place : ℕ → ℕ) (value : ℕ → X) (before after : List X) : Type 0 where
  pub size : length after ≡ length before
  pub changed : (t : ℕ) → t < n → slice_index_or after (place t) none ≡ value t
  pub others : (k : ℕ) → ((t : ℕ) → t < n → place t ≢ k) → slice_index_or after k none ≡ slice_index_or before k none

-- the single errors of one row, drawn from state y on
abbrev pub HasErrors : ℕ → List ℕ → List ℕ → Type 0
HasErrors y before after =
    IsChanged 0 (drawn_errors y) (error_place y) (λ u. bit_xor (slice_index before (error_place y u)) (error_byte y u)) before after

-- The state from which the single errors of a row are drawn. Those of row 0 are drawn from state y on, and the others
-- follow row by row. For the n rows that are bad or lost nothing is drawn.
unfoldable pub row_state : ℕ → ℕ → ℕ → ℕ → ℕ
row_state start n y zero = y
row_state start n y (suc row) =
    if is_hit start n row then row_state start n y row
    else state_after (row_state start n y row) (2 + drawn_errors (row_state start n y row))

-- What becomes of the rows and marks of a block with these numbers of bad and lost rows, from row `start` on. All bytes
-- are drawn from state y on: 182 for each bad row, and then those of the single errors.
pub record IsHurtBy (bad lost start y : ℕ) (rows : List (List ℕ)) (marks : List (List Bool)) (hurt_rows : List (List ℕ)) (hurt_marks : List (List Bool)) : Type 0 where
  pub height : length hurt_rows ≡ length rows
  pub bad_rows : (t : ℕ) → t < bad → line hurt_rows (damaged_row start t) ≡ combined (state_after y (182 * t)) (line rows (damaged_row start t))
  pub lost_rows : (t : ℕ) → t < lost → line hurt_rows (damaged_row start (bad + t)) ≡ replicate 182 0
  pub others : (row : ℕ) → row < 208 → is_hit start (bad + lost) row ≡ false
      → HasErrors (row_state start (bad + lost) (state_after y (182 * bad)) row) (line rows row) (line hurt_rows row)
  pub marked : IsChanged [] lost (λ t. damaged_row start (bad + t)) (λ t. replicate 182 true) marks hurt_marks

-- what becomes of them by all that is drawn from state x on
abbrev pub IsHurt : ℕ → List (List ℕ) → List (List Bool) → List (List ℕ) → List (List Bool) → Type 0
IsHurt x = IsHurtBy (bad_count x) (lost_count x) (start_row x) (state_after x 3)

-- the state that the damage leaves
abbrev pub hurt_state : ℕ → ℕ
hurt_state x = row_state (start_row x) (bad_count x + lost_count x) (state_after (state_after x 3) (182 * bad_count x)) 208
