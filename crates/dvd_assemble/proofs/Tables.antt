-- Tables of one shape: what isn't seen changes nothing, and a frame's table is joined by its rows.
use Rattle.std.proofs.Common.{◌≡◌, inl, inr, ◌∙◌, refl, sym, ap, ℕ, zero, suc, ◌/◌, ◌%◌, ◌<◌, ◌≤◌, ◌==◌, if◌then◌else◌, List, [], ◌∷◌, ◌++◌, length, map, get_or, replicate, arith}
use Rattle.std.specs.List.{fold, range_with_len}
use Rattle.std.specs.Simd.Lanes.{zip2}
use Rattle.std.proofs.lemmas.Bool.Decides.{eqb_tells}
use Rattle.std.proofs.lemmas.List.{ext_get_or, get_or-replicate, length-replicate}
use Rattle.std.proofs.lemmas.List.Sums.{fold-append}
use Rattle.std.proofs.lemmas.List.FromFn.{length-map-range_with_len, get_or-map-range_with_len}
use Rattle.std.proofs.lemmas.Simd.{length-zip2}
use Rattle.coding.specs.Recording.{record_at}
use Rattle.dvd_capture.proofs.Mapped.{mapped}
use Rattle.dvd_merge.specs.Join.{Table, join, join_rows, join_tables, joined, known_row, unseen}
use Rattle.dvd_merge.specs.declared.place.Place.{Place}
use Rattle.dvd_merge.specs.declared.place.Place.TheVariants.{Unseen}
use Rattle.dvd_merge.proofs.Places.{Tells, join-unseen, row-join}
use Rattle.dvd_assemble.specs.Assembled.{frame_row, frame_table, with_frame}
use Rattle.dvd_assemble.specs.Frames.{Frame}

-- 208 rows of at most 182 places
pub record IsShaped (table : Table) : Type 0 where
  pub height : length table ≡ 208
  pub widths : (i : ℕ) → length (known_row table i) ≤ 182

-- a row joined with unseen places stays as it is
unseen_row : (row : List Place) (n : ℕ) → length row ≤ n → join_rows row (replicate n Unseen) ≡ row
unseen_row [] n fits = refl
unseen_row (p ∷ row) zero fits = absurd (omega (arith, fits))
unseen_row (p ∷ row) (suc n) fits = ap (λ q. q ∷ join_rows row (replicate n Unseen)) (join-unseen p) ∙ ap (λ r. p ∷ r) (unseen_row row n (omega (arith, fits)))

-- the table in which nothing is seen has 208 rows
pub length-unseen : length unseen ≡ 208
unfolding unseen
length-unseen = length-replicate 208 (replicate 182 Unseen)

-- each of 182 unseen places
pub row-unseen : (i : ℕ) → i < 208 → known_row unseen i ≡ replicate 182 Unseen
unfolding unseen
row-unseen i below = get_or-replicate 208 i (replicate 182 Unseen) [] below

-- the join of tables of one height has that height
length-join : (a b : Table) → length a ≡ length b → length (join_tables a b) ≡ length a
unfolding join_tables
length-join a b same = length-zip2 join_rows a b same

-- a table that is joined with one in which nothing is seen stays as it is
pub join_none : (table : Table) → IsShaped table → join_tables table unseen ≡ table
join_none table shaped =
    ext_get_or [] (join_tables table unseen) table (heights)
    (λ i within. let below : i < 208 = omega (arith, within, heights, shaped.height) in
    row-join table unseen i ∙ ap (join_rows (known_row table i)) (row-unseen i below) ∙ unseen_row (known_row table i) 182 (shaped.widths i))
  where
    heights : length (join_tables table unseen) ≡ length table
    heights = length-join table unseen (shaped.height ∙ sym length-unseen)

-- no row of an unseen table has more than 182 places
rows-unseen : (n i : ℕ) → length (get_or (replicate n (replicate 182 Unseen)) i []) ≤ 182
rows-unseen zero i = omega arith
rows-unseen (suc n) zero = omega (arith, length-replicate 182 Unseen)
rows-unseen (suc n) (suc i) = rows-unseen n i

-- the table in which nothing is seen has the shape of a block
unseen-shaped : IsShaped unseen
unfolding unseen
unseen-shaped = record { height = length-unseen; widths = rows-unseen 208 }

-- the join of two rows is no longer than the first
zip_short : (a b : List Place) → length (zip2 join a b) ≤ length a
zip_short [] b = omega arith
zip_short (p ∷ a) [] = omega arith
zip_short (p ∷ a) (q ∷ b) = let less = zip_short a b in omega (arith, less)

-- a table that is joined with one of 208 rows keeps its shape
join-shaped : (a b : Table) → IsShaped a → length b ≡ 208 → IsShaped (join_tables a b)
unfolding join_tables
join-shaped a b shaped height = record {
  height = length-zip2 join_rows a b (shaped.height ∙ sym height) ∙ shaped.height;
  widths = λ i.
      let row : known_row (zip2 join_rows a b) i ≡ join_rows (known_row a i) (known_row b i) = row-join a b i in
      omega (arith, ap length row, zip_short (known_row a i) (known_row b i), shaped.widths i);
}

-- so does one that is joined with several of 208 rows, one after the other
fold-shaped : {A : Type 0} (say : A → Table) → ((x : A) → length (say x) ≡ 208) → (start : Table) (xs : List A) → IsShaped start
    → IsShaped (fold join_tables start (map say xs))
fold-shaped say high start [] shaped = shaped
fold-shaped say high start (x ∷ xs) shaped = fold-shaped say high (join_tables start (say x)) xs (join-shaped start (say x) shaped (high x))

-- the join of such tables has the shape of a block
pub joined-shaped : {A : Type 0} (say : A → Table) → ((x : A) → length (say x) ≡ 208) → (xs : List A) → IsShaped (joined (map say xs))
unfolding joined
joined-shaped say high xs = fold-shaped say high unseen xs unseen-shaped

-- a list with one element more is mapped with one image more
map-more : {A B : Type 0} (f : A → B) (xs : List A) (x : A) → map f (xs ++ x ∷ []) ≡ map f xs ++ f x ∷ []
map-more f [] x = refl
map-more f (y ∷ xs) x = ap (λ ys. f y ∷ ys) (map-more f xs x)

-- one table more is joined to the join of those before it
pub joined-more : {A : Type 0} (say : A → Table) (xs : List A) (x : A) → joined (map say (xs ++ x ∷ [])) ≡ join_tables (joined (map say xs)) (say x)
unfolding joined
joined-more say xs x = ap (fold join_tables unseen) (map-more say xs x) ∙ fold-append join_tables unseen (map say xs) (say x ∷ [])

-- what a frame says of its block has 208 rows
pub length-frame_table : (f : ℕ) (frame : Frame) → length (frame_table f frame) ≡ 208
unfolding frame_table
length-frame_table f frame =
    length-map-range_with_len (λ i. if record_at i / 13 == f then frame_row frame (record_at i % 13) else replicate 182 Unseen) 0 208

-- a frame that is joined by its rows is joined by its table
pub by_table : (f : ℕ) (frame : Frame) (table : Table) → IsShaped table → with_frame f frame table ≡ join_tables table (frame_table f frame)
unfolding with_frame frame_table join_tables
by_table f frame table shaped =
    sym (mapped rows (zip2 join_rows table (map says (range_with_len 0 208))) 208 [] height
    (λ i below.
    row-join table (map says (range_with_len 0 208)) i
    ∙ ap (join_rows (known_row table i)) (get_or-map-range_with_len says 0 208 i i [] below (omega arith))
    ∙ sym (by_frame i (eqb_tells (record_at i / 13) f))))
  where
    rows : ℕ → List Place
    rows i = if record_at i / 13 == f then join_rows (known_row table i) (frame_row frame (record_at i % 13)) else known_row table i

    says : ℕ → List Place
    says i = if record_at i / 13 == f then frame_row frame (record_at i % 13) else replicate 182 Unseen

    height : length (zip2 join_rows table (map says (range_with_len 0 208))) ≡ 208
    height = length-zip2 join_rows table (map says (range_with_len 0 208)) (shaped.height ∙ sym (length-map-range_with_len says 0 208)) ∙ shaped.height

    by_frame : (i : ℕ) → Tells (record_at i / 13) f → rows i ≡ join_rows (known_row table i) (says i)
    by_frame i (inl here) = rw here.0 refl
    by_frame i (inr elsewhere) = rw elsewhere.0 (sym (unseen_row (known_row table i) 182 (shaped.widths i)))
