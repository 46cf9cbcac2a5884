-- What a row of a join costs, where all captures but one received the bytes of the block alone.
use Rattle.std.proofs.Common.{◌≡◌, ◌≢◌, ◌⊎◌, ℕ, zero, suc, ◌<◌, ◌≤◌, ◌==◌, Bool, true, false, if◌then◌else◌, List, [], ◌∷◌, ◌++◌, length, get_or, map, replicate, All, inl, inr, refl, sym, ◌∙◌, ap, subst, arith}
use Rattle.std.specs.List.{fold}
use Rattle.std.proofs.lemmas.Bool.Decides.{eqb_tells}
use Rattle.std.proofs.lemmas.List.Elements.{All-append}
use Rattle.coding.specs.Words.{cost}
use Rattle.coding.specs.Product.{line, place}
use Rattle.dvd_capture.specs.Answers.{marks_line}
use Rattle.dvd_merge.specs.Agreeing.{IsTableOf}
use Rattle.dvd_merge.specs.Join.{Table, byte_of, join, join_rows, join_tables, joined, joined_marks, joined_rows, joined_mark, known_at, known_row, seen, seen_row, seen_table, unseen}
use Rattle.dvd_merge.specs.declared.place.Place.{Place}
use Rattle.dvd_merge.specs.declared.place.Place.TheVariants.{Unseen, Value}
use Rattle.dvd_merge.proofs.Lattice.{fold_middle}
use Rattle.dvd_merge.proofs.Places.{Tells, join-apart, join-same, join-unseen, place-join, row-join, row-seen, tables-assoc, tables-comm, tables-idem, unseen-join}

-- a place that isn't seen, or has this byte
abbrev Has : ℕ → Place → Type 0
Has byte p = (p ≡ Unseen) ⊎ (p ≡ Value byte)

-- the join of two such places is one
has-join : (byte : ℕ) (p q : Place) → Has byte p → Has byte q → Has byte (join p q)
has-join byte p q (inl a) other = subst (Has byte) (sym (ap (λ s. join s q) a ∙ unseen-join q)) other
has-join byte p q (inr a) (inl b) = inr (ap (join p) b ∙ join-unseen p ∙ a)
has-join byte p q (inr a) (inr b) = inr (ap (λ s. join s q) a ∙ ap (join (Value byte)) b ∙ join-same byte)

-- no capture
same_row : (n i : ℕ) (row : List Place) → ((j : ℕ) → get_or row j Unseen ≡ Unseen) → (j : ℕ) → get_or (get_or (replicate n row) i []) j Unseen ≡ Unseen
same_row zero i row none j = refl
same_row (suc n) zero row none j = none j
same_row (suc n) (suc i) row none j = same_row n i row none j

-- each place of a row that isn't seen is unseen, also after its end
pub unseen_place : (n j : ℕ) → get_or (replicate n Unseen) j Unseen ≡ Unseen
unseen_place zero j = refl
unseen_place (suc n) zero = refl
unseen_place (suc n) (suc j) = unseen_place n j

-- a table in which nothing is seen is of every block
pub is_of-unseen : (block : List (List ℕ)) → IsTableOf block unseen
unfolding unseen
is_of-unseen block i j = inl (same_row 208 i (replicate 182 Unseen) (unseen_place 182) j)

-- the join of two tables of a block is of that block
is_of-join : (block : List (List ℕ)) (a b : Table) → IsTableOf block a → IsTableOf block b → IsTableOf block (join_tables a b)
is_of-join block a b of_a of_b i j = from (place-join (known_row a i) (known_row b i) j)
  where
    here : known_at (join_tables a b) i j ≡ get_or (join_rows (known_row a i) (known_row b i)) j Unseen
    here = ap (λ row. get_or row j Unseen) (row-join a b i)

    from : (get_or (join_rows (known_row a i) (known_row b i)) j Unseen ≡ Unseen)
        ⊎ (get_or (join_rows (known_row a i) (known_row b i)) j Unseen ≡ join (known_at a i j) (known_at b i j)) → Has (place block i j) (known_at (join_tables a b) i j)
    from (inl none) = inl (here ∙ none)
    from (inr is) = subst (Has (place block i j)) (sym (here ∙ is)) (has-join (place block i j) (known_at a i j) (known_at b i j) (of_a i j) (of_b i j))

-- captures that received the bytes of the block alone have such a join
pub is_of-fold : (block : List (List ℕ)) (start : Table) (tables : List Table) → IsTableOf block start
    → ((k : ℕ) (d : Table) → k < length tables → IsTableOf block (get_or tables k d)) → IsTableOf block (fold join_tables start tables)
is_of-fold block start [] of_start each = of_start
is_of-fold block start (table ∷ tables) of_start each =
    is_of-fold block (join_tables start table) tables (is_of-join block start table of_start (each 0 table (omega arith)))
    (λ k d within. each (suc k) d (omega (arith, within)))

-- one place
abbrev place_weight : ℕ → ℕ → Bool → ℕ
place_weight byte got mark = if mark then 1 else if byte == got then 0 else 2

-- an unmarked place with the byte of the block weighs nothing
no_weight : (byte : ℕ) → place_weight byte byte false ≡ 0
no_weight byte = by_cases (eqb_tells byte byte)
  where
    by_cases : Tells byte byte → place_weight byte byte false ≡ 0
    by_cases (inl is) = rw is.0 refl
    by_cases (inr is) = absurd (is.1 refl)

-- and one with another byte two
full_weight : (byte got : ℕ) → byte ≢ got → place_weight byte got false ≡ 2
full_weight byte got apart = by_cases (eqb_tells byte got)
  where
    by_cases : Tells byte got → place_weight byte got false ≡ 2
    by_cases (inl is) = absurd (apart is.1)
    by_cases (inr is) = rw is.0 refl

-- what a place of a table weighs
abbrev weight_of : ℕ → Place → ℕ
weight_of byte p = place_weight byte (byte_of p) (joined_mark p)

-- a place weighs no more than in the one capture
place_bound : (byte got : ℕ) (mark : Bool) (other : Place) → Has byte other → weight_of byte (join (seen got mark) other) ≤ place_weight byte got mark
place_bound byte got true other (inl is) =
    subst (λ p. weight_of byte p ≤ 1) (sym (unseen-join other ∙ is)) (omega arith)
place_bound byte got true other (inr is) =
    subst (λ p. weight_of byte p ≤ 1) (sym (unseen-join other ∙ is)) (omega (arith, no_weight byte))
place_bound byte got false other (inl is) =
    subst (λ p. weight_of byte p ≤ place_weight byte got false) (sym (ap (join (Value got)) is ∙ join-unseen (Value got))) (omega arith)
place_bound byte got false other (inr is) = by_cases (eqb_tells byte got)
  where
    by_cases : Tells byte got → weight_of byte (join (Value got) other) ≤ place_weight byte got false
    by_cases (inl same) =
        subst (λ p. weight_of byte p ≤ place_weight byte got false)
        (sym (ap (join (Value got)) (is ∙ ap Value same.1) ∙ join-same got)) (omega arith)
    by_cases (inr apart) =
        subst (λ p. weight_of byte p ≤ place_weight byte got false)
        (sym (ap (join (Value got)) is ∙ join-apart got byte (λ e. apart.1 (sym e)))) (omega (arith, full_weight byte got apart.1))

-- one row
row_bound : (word row : List ℕ) (marks : List Bool) (others : List Place) → ((j : ℕ) → Has (get_or word j 0) (get_or others j Unseen))
    → cost word (map byte_of (join_rows (seen_row row marks) others)) (map joined_mark (join_rows (seen_row row marks) others)) ≤ cost word row marks
unfolding cost
row_bound [] row marks others has = omega arith
row_bound (byte ∷ word) [] marks others has = omega arith
row_bound (byte ∷ word) (got ∷ row) [] others has = omega arith
row_bound (byte ∷ word) (got ∷ row) (mark ∷ marks) [] has = omega arith
row_bound (byte ∷ word) (got ∷ row) (mark ∷ marks) (other ∷ others) has =
    omega (arith, place_bound byte got mark other (has 0), row_bound word row marks others (λ j. has (suc j)))

-- a row of a table, as bytes and as marks
line-map : {A B : Type 0} (f : A → B) (rows : List (List A)) (i : ℕ) → get_or (map (map f) rows) i [] ≡ map f (get_or rows i [])
line-map f [] i = refl
line-map f (row ∷ rows) zero = refl
line-map f (row ∷ rows) (suc i) = line-map f rows i

-- row i of the bytes of a table has the bytes of its row i
pub bytes-row : (table : Table) (i : ℕ) → line (joined_rows table) i ≡ map byte_of (known_row table i)
unfolding joined_rows
bytes-row = line-map byte_of

-- row i of the marks of a table has the marks of its row i
pub marks-row : (table : Table) (i : ℕ) → marks_line (joined_marks table) i ≡ map joined_mark (known_row table i)
unfolding joined_marks
marks-row = line-map joined_mark

module _ (block rows : List (List ℕ)) (marks : List (List Bool)) (others : Table) (of_block : IsTableOf block others) (i : ℕ) where
  -- row i of the one capture, joined with row i of the other captures
  abbrev one : List Place
  one = join_rows (seen_row (line rows i) (marks_line marks i)) (known_row others i)

  -- it is row i of the join of their tables
  row_is : known_row (join_tables (seen_table rows marks) others) i ≡ one
  row_is = row-join (seen_table rows marks) others i ∙ ap (λ row. join_rows row (known_row others i)) (row-seen rows marks i)

  -- so row i of the join costs no more against the block than in the one capture
  joined_bound : (all : Table) → all ≡ join_tables (seen_table rows marks) others
      → cost (line block i) (line (joined_rows all) i) (marks_line (joined_marks all) i) ≤ cost (line block i) (line rows i) (marks_line marks i)
  joined_bound all is =
      let row : known_row all i ≡ one = ap (λ table. known_row table i) is ∙ row_is in
      subst (λ n. n ≤ cost (line block i) (line rows i) (marks_line marks i))
      (sym (ap (λ bytes. cost (line block i) bytes (marks_line (joined_marks all) i)) (bytes-row all i ∙ ap (map byte_of) row)
      ∙ ap (cost (line block i) (map byte_of one)) (marks-row all i ∙ ap (map joined_mark) row)))
      (row_bound (line block i) (line rows i) (marks_line marks i) (known_row others i) (λ j. of_block i j))

-- each row of the join of all captures
pub cost_bound : (block rows : List (List ℕ)) (marks : List (List Bool)) (before after : List Table)
    → All (IsTableOf block) before → All (IsTableOf block) after → (i : ℕ)
    → cost (line block i) (line (joined_rows (joined (before ++ seen_table rows marks ∷ after))) i)
    (marks_line (joined_marks (joined (before ++ seen_table rows marks ∷ after))) i)
    ≤ cost (line block i) (line rows i) (marks_line marks i)
unfolding joined
cost_bound block rows marks before after of_before of_after i =
    joined_bound block rows marks (fold join_tables unseen (before ++ after))
    (is_of-fold block unseen (before ++ after) (is_of-unseen block) (All-append (IsTableOf block) before after of_before of_after)) i
    (joined (before ++ seen_table rows marks ∷ after))
    (fold_middle join_tables tables-comm tables-assoc tables-idem unseen (seen_table rows marks) before after)
