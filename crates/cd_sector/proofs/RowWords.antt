-- The words of a sector as columns of rows: where the bytes of chunks are (chunk_place), the words that columns are
-- (column_word), right words as columns that are codewords (column_right), and the rows of diagonals (twice_place,
-- pair_set, diagonal_place, own_place, last_rows). A part that was put (put_below, put_two_below, put_at), and words whose last two
-- bytes were (encoded_word).
use Rattle.std.proofs.Common.{◌≡◌, ◌↔◌, ℕ, zero, suc, ◌+◌, ◌-◌, ◌*◌, ◌/◌, ◌%◌, ◌<◌, ◌≤◌, List, [], ◌∷◌, length, get_or, set, take, drop, ◌++◌, inl, inr, sym, ◌∙◌, ap, get_or-take, length-append, arith}
use Rattle.std.specs.Simd.{first_chunks}
use Rattle.std.proofs.lemmas.Bool.{cases_lt}
use Rattle.std.proofs.lemmas.List.{get_or-drop, get_or-set_same, get_or-set_other, length-set, get_or_append_left, get_or-append_right, length-take-le}
use Rattle.coding.specs.Words.{IsCodeword}
use Rattle.coding.specs.Rows.{place, column}
use Rattle.rs_lanes.proofs.ColumnLemmas.{length-column, get_or-column}
use Rattle.cd_sector.specs.Words.{sector_place, word_size, sector_word, IsRight}
use Rattle.cd_sector.proofs.Places.{whole_word, sector_place-q, sector_place-own}
use Rattle.cd_sector.proofs.Encoding.{right_word, word_right}

-- byte j of chunk m
pub chunk_place : (count m j : ℕ) (bytes : List ℕ) → m < count → j < 86 → place (first_chunks 86 count bytes) m j ≡ get_or bytes (86 * m + j) 0
chunk_place zero m j bytes inside below = absurd (omega arith)
chunk_place (suc count) zero j bytes inside below = get_or-take 86 bytes j 0 below ∙ ap (λ (at : ℕ). get_or bytes at 0) (omega arith)
chunk_place (suc count) (suc m) j bytes inside below =
    chunk_place count m j (drop 86 bytes) (omega arith) below
    ∙ get_or-drop 86 bytes (86 * m + j) 0
    ∙ ap (λ (at : ℕ). get_or bytes at 0) (omega arith)

-- a column whose bytes are at the places of a word is this word
pub column_word : (sector : List ℕ) (rows : List (List ℕ)) (word j : ℕ) → length rows ≡ word_size word
    → ((m : ℕ) → m < length rows → place rows m j ≡ get_or sector (sector_place word m) 0) → column rows j ≡ sector_word sector word
column_word sector rows word j size same =
    whole_word sector word (column rows j) (length-column rows j ∙ size)
    (λ m inside. get_or-column rows j m ∙ same m (omega (arith, length-column rows j)))

-- so the word is right where the column is a codeword
pub column_right : (sector : List ℕ) (rows : List (List ℕ)) (word j : ℕ) → length rows ≡ word_size word
    → ((m : ℕ) → m < length rows → place rows m j ≡ get_or sector (sector_place word m) 0) → IsCodeword (length rows) 2 (column rows j) ↔ IsRight sector word
column_right sector rows word j size same =
    let is = column_word sector rows word j size same in
    (right_word (length rows) word sector (column rows j) size is, word_right (length rows) word sector (column rows j) size is)

-- a list, twice one after the other
pub twice_place : (bytes whole : List ℕ) (at : ℕ) → length bytes ≡ 2236 → whole ≡ bytes ++ bytes → at < 4472 → get_or whole at 0 ≡ get_or bytes (at % 2236) 0
twice_place bytes whole at size is below =
    elim (cases_lt at 2236) [
      | inl first ↦ ap (λ (l : List ℕ). get_or l at 0) is ∙ get_or_append_left bytes bytes 0 at (omega arith) ∙ ap (λ (k : ℕ). get_or bytes k 0) (omega arith)
      | inr back ↦
          ap (λ (l : List ℕ). get_or l at 0) is ∙ get_or-append_right bytes bytes 2236 at 0 size back ∙ ap (λ (k : ℕ). get_or bytes k 0) (omega arith)
    ]

-- a pair more of a row
pub pair_set : (row : List ℕ) (f : ℕ → ℕ) (n low high : ℕ) → 2 * n + 1 < length row → ((k : ℕ) → k < 2 * n → get_or row k 0 ≡ f k)
    → low ≡ f (2 * n) → high ≡ f (2 * n + 1) → (k : ℕ) → k < 2 * (n + 1) → get_or (set (set row (2 * n) low) (2 * n + 1) high) k 0 ≡ f k
pair_set row f n low high inside before low_is high_is k below =
    elim (cases_lt k (2 * n + 1)) [
      | inl under ↦
          get_or-set_other (set row (2 * n) low) (2 * n + 1) k high 0 (omega arith)
          ∙ elim (cases_lt k (2 * n)) [
            | inl early ↦ get_or-set_other row (2 * n) k low 0 (omega arith) ∙ before k early
            | inr last ↦
                let is : k ≡ 2 * n = omega arith in
                ap (λ (i : ℕ). get_or (set row (2 * n) low) i 0) is ∙ get_or-set_same row (2 * n) low 0 (omega arith) ∙ low_is ∙ ap f (sym is)
          ]
      | inr over ↦
          let is : k ≡ 2 * n + 1 = omega arith in
          ap (λ (i : ℕ). get_or (set (set row (2 * n) low) (2 * n + 1) high) i 0) is
          ∙ get_or-set_same (set row (2 * n) low) (2 * n + 1) high 0 (omega (arith, length-set row (2 * n) low)) ∙ high_is ∙ ap f (sym is)
    ]

-- the m-th byte of a Q word on its diagonal
pub diagonal_place : (m n : ℕ) → m < 43 → n < 52 → 12 + (88 * m % 2236 + 86 * (n / 2) + n % 2) % 2236 ≡ sector_place (86 + n) m
diagonal_place m n covered below = omega (arith, sector_place-q (86 + n) m (omega arith) covered)

-- and the two of its own
pub own_place : (m n : ℕ) → 43 ≤ m → 2248 + 52 * (m - 43) + n ≡ sector_place (86 + n) m
own_place m n own = omega (arith, sector_place-own (86 + n) m (omega arith) own)

-- the last two of 45 rows, set
pub last_rows : (rows : List (List ℕ)) (x y : List ℕ) (n : ℕ) (f : ℕ → ℕ) → length rows ≡ 45 → ((m : ℕ) → m < 43 → place rows m n ≡ f m)
    → get_or x n 0 ≡ f 43 → get_or y n 0 ≡ f 44 → (m : ℕ) → m < 45 → place (set (set rows 43 x) 44 y) m n ≡ f m
last_rows rows x y n f size before x_is y_is m inside =
    elim (cases_lt m 44) [
      | inl under ↦
          ap (λ (row : List ℕ). get_or row n 0) (get_or-set_other (set rows 43 x) 44 m y [] (omega arith))
          ∙ elim (cases_lt m 43) [
            | inl early ↦ ap (λ (row : List ℕ). get_or row n 0) (get_or-set_other rows 43 m x [] (omega arith)) ∙ before m early
            | inr last ↦
                let is : m ≡ 43 = omega arith in
                ap (λ (i : ℕ). place (set rows 43 x) i n) is
                ∙ ap (λ (row : List ℕ). get_or row n 0) (get_or-set_same rows 43 x [] (omega arith)) ∙ x_is ∙ ap f (sym is)
          ]
      | inr over ↦
          let is : m ≡ 44 = omega arith in
          ap (λ (i : ℕ). place (set (set rows 43 x) 44 y) i n) is
          ∙ ap (λ (row : List ℕ). get_or row n 0) (get_or-set_same (set rows 43 x) 44 y [] (omega (arith, length-set rows 43 x))) ∙ y_is ∙ ap f (sym is)
    ]

-- what is before a part that was put stays
pub put_below : (old new part : List ℕ) (from at : ℕ) → take (from + length part) new ≡ take from old ++ part → from ≤ length old → at < from → get_or new at 0 ≡ get_or old at 0
put_below old new part from at put inside below =
    sym (get_or-take (from + length part) new at 0 (omega arith))
    ∙ ap (λ (l : List ℕ). get_or l at 0) put
    ∙ get_or_append_left (take from old) part 0 at (omega (arith, length-take-le from old inside))
    ∙ get_or-take from old at 0 below

-- likewise of two parts, the second after the first
pub put_two_below : (old middle new first second : List ℕ) (from next at : ℕ) → take (from + length first) middle ≡ take from old ++ first
    → take (next + length second) new ≡ take next middle ++ second → from ≤ length old → next ≤ length middle → from ≤ next → at < from
    → get_or new at 0 ≡ get_or old at 0
put_two_below old middle new first second from next at put_first put_second inside inside_middle order below =
    put_below middle new second next at put_second inside_middle (omega arith) ∙ put_below old middle first from at put_first inside below

-- and the part is there
pub put_at : (old new part : List ℕ) (from j : ℕ) → take (from + length part) new ≡ take from old ++ part → from ≤ length old → j < length part
    → get_or new (from + j) 0 ≡ get_or part j 0
put_at old new part from j put inside below =
    sym (get_or-take (from + length part) new (from + j) 0 (omega arith))
    ∙ ap (λ (l : List ℕ). get_or l (from + j) 0) put
    ∙ get_or-append_right (take from old) part from (from + j) 0 (length-take-le from old inside) (omega arith)
    ∙ ap (λ (k : ℕ). get_or part k 0) (omega arith)

-- a word is right whose front is a column, and whose last two bytes make this a codeword
pub encoded_word : (sector : List ℕ) (rows : List (List ℕ)) (n word j p q : ℕ) → length rows ≡ n → n + 2 ≡ word_size word
    → ((m : ℕ) → m < n → place rows m j ≡ get_or sector (sector_place word m) 0)
    → p ≡ get_or sector (sector_place word n) 0 → q ≡ get_or sector (sector_place word (n + 1)) 0
    → IsCodeword (length rows + 2) 2 (column rows j ++ p ∷ q ∷ []) → IsRight sector word
encoded_word sector rows n word j p q many size first p_is q_is codeword =
    right_word (length rows + 2) word sector whole (omega arith) (whole_word sector word whole (long ∙ omega arith) each) codeword
  where
    prefix_long : length (column rows j) ≡ n
    prefix_long = length-column rows j ∙ many

    whole : List ℕ
    whole = column rows j ++ p ∷ q ∷ []

    long : length whole ≡ n + 2
    long = omega (arith, length-append (column rows j) (p ∷ q ∷ []), prefix_long)

    last : (k : ℕ) → k < 2 → get_or (p ∷ q ∷ []) k 0 ≡ get_or sector (sector_place word (n + k)) 0
    last zero below = p_is ∙ ap (λ (m : ℕ). get_or sector (sector_place word m) 0) (omega arith)
    last (suc zero) below = q_is
    last (suc (suc k)) below = absurd (omega arith)

    each : (m : ℕ) → m < length whole → get_or whole m 0 ≡ get_or sector (sector_place word m) 0
    each m inside =
        elim (cases_lt m n) [
          | inl early ↦ get_or_append_left (column rows j) (p ∷ q ∷ []) 0 m (omega (arith, prefix_long)) ∙ get_or-column rows j m ∙ first m early
          | inr late ↦
              let is : n + (m - n) ≡ m = omega arith in
              get_or-append_right (column rows j) (p ∷ q ∷ []) n m 0 prefix_long late
              ∙ last (m - n) (omega (arith, long))
              ∙ ap (λ (k : ℕ). get_or sector (sector_place word k) 0) is
        ]
