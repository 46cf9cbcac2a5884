-- Worked values from outside the program, computed from the definitions.
use Rattle.std.specs.Prelude.{◌≡◌, [], ◌∷◌, map, refl}
use Rattle.std.specs.List.{range_with_len}
use Rattle.coding.specs.Field.{alpha, shift, shifted, partial_product, product, power}
use Rattle.coding.specs.Recording.{recorded_rows, record_at, row_at}
use Rattle.coding.specs.Words.{value}

-- alpha^7 times alpha is alpha^8, the byte 1D
product-80-02 : product 0x80 0x02 ≡ 0x1D
unfolding product partial_product shifted shift
product-80-02 = refl

-- the byte F4 is the inverse of 03
product-03-f4 : product 0x03 0xF4 ≡ 0x01
unfolding product partial_product shifted shift
product-03-f4 = refl

-- the powers of alpha repeat after 255: alpha^255 is 01
power-alpha-255 : power alpha 255 ≡ 0x01
unfolding power product partial_product shifted shift
power-alpha-255 = refl

-- an ID of four bytes and its two parity bytes are a word whose value at 01 is 0
value-at-one : value (0x00 ∷ 0x03 ∷ 0x00 ∷ 0x00 ∷ 0x11 ∷ 0x12 ∷ []) 1 ≡ 0
unfolding value power product partial_product shifted shift
value-at-one = refl

-- and whose value at alpha is 0
value-at-alpha : value (0x00 ∷ 0x03 ∷ 0x00 ∷ 0x00 ∷ 0x11 ∷ 0x12 ∷ []) alpha ≡ 0
unfolding value power product partial_product shifted shift
value-at-alpha = refl

-- where rows of a block are recorded: the first row of outer parity, 192, comes after the twelve rows of frame 0
rows_at : map record_at (0 ∷ 11 ∷ 12 ∷ 191 ∷ 192 ∷ 207 ∷ []) ≡ 0 ∷ 11 ∷ 13 ∷ 206 ∷ 12 ∷ 207 ∷ []
rows_at = refl

-- which rows of the block are recorded at these places
rows_there : map row_at (0 ∷ 11 ∷ 12 ∷ 13 ∷ 206 ∷ 207 ∷ []) ≡ 0 ∷ 11 ∷ 192 ∷ 12 ∷ 191 ∷ 207 ∷ []
rows_there = refl

-- `row_at` lists the rows in the order of recording
rows_in_order : map row_at (range_with_len 0 208) ≡ recorded_rows
unfolding recorded_rows
rows_in_order = refl

-- `row_at` is the inverse of `record_at`
rows_found : map (λ i. row_at (record_at i)) (range_with_len 0 208) ≡ range_with_len 0 208
rows_found = refl
