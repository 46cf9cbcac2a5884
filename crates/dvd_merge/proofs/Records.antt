-- Rows in the marked form.
use Rattle.std.proofs.Common.{◌≡◌, ℕ, ◌<◌, Bool, false, List, [], length, get_or, sym, ◌∙◌, ap, arith}
use Rattle.std.specs.Simd.Lanes.{zip2}
use Rattle.std.proofs.lemmas.List.{ext_get_or}
use Rattle.std.proofs.lemmas.Simd.{get_or-zip2, length-zip2}
use Rattle.coding.specs.Product.{line}
use Rattle.dvd_capture.specs.Answers.{marks_line}
use Rattle.dvd_merge.specs.Join.{Table, join, join_rows, join_tables, known_row, seen, seen_row, seen_table}
use Rattle.dvd_merge.specs.declared.place.Place.{Place}
use Rattle.dvd_merge.specs.declared.place.Place.TheVariants.{Unseen}

-- a list that is joined at each place is the join
pub zipped_all : {A B C : Type 0} (f : A → B → C) (xs : List A) (ys : List B) (zs : List C) (n : ℕ) (a : A) (b : B) (c : C)
    → length xs ≡ n → length ys ≡ n → length zs ≡ n → ((q : ℕ) → q < n → get_or zs q c ≡ f (get_or xs q a) (get_or ys q b)) → zs ≡ zip2 f xs ys
zipped_all f xs ys zs n a b c xs_size ys_size zs_size each =
    ext_get_or c zs (zip2 f xs ys) (zs_size ∙ sym (length-zip2 f xs ys (xs_size ∙ sym ys_size) ∙ xs_size))
    (λ q within. let below : q < n = omega (arith, zs_size, within) in
    each q below ∙ sym (get_or-zip2 f xs ys q a b c (omega (arith, below, xs_size)) (omega (arith, below, ys_size))))

-- a received row
pub row_taken : (old now : List Place) (bytes : List ℕ) (marks : List Bool) → length old ≡ 182 → length bytes ≡ 182 → length marks ≡ 182 → length now ≡ 182
    → ((q : ℕ) → q < 182 → get_or now q Unseen ≡ join (get_or old q Unseen) (seen (get_or bytes q 0) (get_or marks q false)))
    → now ≡ join_rows old (seen_row bytes marks)
row_taken old now bytes marks old_size bytes_size marks_size now_size each =
    zipped_all join old (seen_row bytes marks) now 182 Unseen Unseen Unseen old_size
    (length-zip2 seen bytes marks (bytes_size ∙ sym marks_size) ∙ bytes_size) now_size
    (λ q below. each q below ∙ ap (join (get_or old q Unseen))
    (sym (get_or-zip2 seen bytes marks q 0 false Unseen (omega (arith, below, bytes_size)) (omega (arith, below, marks_size)))))

-- a received block
pub table_taken : (old now : Table) (rows : List (List ℕ)) (marks : List (List Bool)) → length old ≡ 208 → length rows ≡ 208 → length marks ≡ 208 → length now ≡ 208
    → ((q : ℕ) → q < 208 → known_row now q ≡ join_rows (known_row old q) (seen_row (line rows q) (marks_line marks q)))
    → now ≡ join_tables old (seen_table rows marks)
unfolding join_tables seen_table
table_taken old now rows marks old_size rows_size marks_size now_size each =
    zipped_all join_rows old (zip2 seen_row rows marks) now 208 [] [] [] old_size
    (length-zip2 seen_row rows marks (rows_size ∙ sym marks_size) ∙ rows_size) now_size
    (λ q below. each q below ∙ ap (join_rows (known_row old q))
    (sym (get_or-zip2 seen_row rows marks q [] [] [] (omega (arith, below, rows_size)) (omega (arith, below, marks_size)))))
