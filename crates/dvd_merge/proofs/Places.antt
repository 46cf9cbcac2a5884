-- The join of places and of tables: neither order nor repetition matters.
use Rattle.std.proofs.Common.{◌≡◌, ◌≢◌, ◌⊎◌, ℕ, zero, suc, ◌==◌, Bool, true, false, List, [], ◌∷◌, length, get_or, inl, inr, refl, sym, ◌∙◌, ap, arith}
use Rattle.std.specs.Simd.Lanes.{zip2}
use Rattle.std.specs.Array.{AllZipBelow}
use Rattle.std.proofs.lemmas.List.{ext_get_or}
use Rattle.std.proofs.lemmas.Bool.Decides.{eqb_tells}
use Rattle.dvd_merge.specs.Join.{Table, join, join_rows, join_tables, known_row, seen, seen_row, seen_table}
use Rattle.dvd_merge.specs.declared.place.Place.{Place}
use Rattle.dvd_merge.specs.declared.place.Place.TheVariants.{Unseen, Value, Conflict}
use Rattle.dvd_merge.proofs.Lattice.{zip2-assoc, zip2-comm, zip2-idem, zip2-row}

-- a clone of places is these places
pub same_places : (n : ℕ) (xs ys : List Place) → length xs ≡ n → AllZipBelow (λ (x y : Place). y ≡ x) xs ys n → ys ≡ xs
same_places n xs ys size clones =
    ext_get_or Unseen ys xs (clones.long ∙ sym size) (λ k within. clones.at k Unseen Unseen (omega (arith, clones.long, within)))

-- whether two numbers are equal, and what the test of them says
abbrev pub Tells : ℕ → ℕ → Type 0
Tells a b = ((((a == b) ≡ true) × (a ≡ b)) ⊎ (((a == b) ≡ false) × (a ≢ b)))

-- two values
pub join-same : (a : ℕ) → join (Value a) (Value a) ≡ Value a
unfolding join
join-same a = by_cases (eqb_tells a a)
  where
    by_cases : Tells a a → join (Value a) (Value a) ≡ Value a
    by_cases (inl is) = rw is.0 refl
    by_cases (inr is) = absurd (is.1 refl)

-- two different values make a conflict
pub join-apart : (a b : ℕ) → a ≢ b → join (Value a) (Value b) ≡ Conflict
unfolding join
join-apart a b apart = by_cases (eqb_tells a b)
  where
    by_cases : Tells a b → join (Value a) (Value b) ≡ Conflict
    by_cases (inl is) = absurd (apart is.1)
    by_cases (inr is) = rw is.0 refl

-- an unseen place changes nothing, whether it comes second
pub join-unseen : (p : Place) → join p Unseen ≡ p
unfolding join
join-unseen Unseen = refl
join-unseen (Value a) = refl
join-unseen Conflict = refl

-- or first
pub unseen-join : (p : Place) → join Unseen p ≡ p
unfolding join
unseen-join p = refl

-- a conflict stays, whether it comes first
pub conflict-join : (p : Place) → join Conflict p ≡ Conflict
unfolding join
conflict-join p = refl

-- or second
join-conflict : (p : Place) → join p Conflict ≡ Conflict
unfolding join
join-conflict Unseen = refl
join-conflict (Value a) = refl
join-conflict Conflict = refl

-- a place joined with itself stays as it is
pub join-idem : (p : Place) → join p p ≡ p
join-idem Unseen = unseen-join Unseen
join-idem (Value a) = join-same a
join-idem Conflict = conflict-join Conflict

-- the order of two places doesn't matter
pub join-comm : (p q : Place) → join p q ≡ join q p
join-comm Unseen q = unseen-join q ∙ sym (join-unseen q)
join-comm Conflict q = conflict-join q ∙ sym (join-conflict q)
join-comm (Value a) Unseen = join-unseen (Value a) ∙ sym (unseen-join (Value a))
join-comm (Value a) Conflict = join-conflict (Value a) ∙ sym (conflict-join (Value a))
join-comm (Value a) (Value b) = by_cases (eqb_tells a b)
  where
    by_cases : Tells a b → join (Value a) (Value b) ≡ join (Value b) (Value a)
    by_cases (inl is) = rw is.1 refl
    by_cases (inr is) = join-apart a b is.1 ∙ sym (join-apart b a (λ e. is.1 (sym e)))

-- nor which two of three are joined first
pub join-assoc : (p q r : Place) → join (join p q) r ≡ join p (join q r)
join-assoc Unseen q r = ap (λ s. join s r) (unseen-join q) ∙ sym (unseen-join (join q r))
join-assoc Conflict q r = ap (λ s. join s r) (conflict-join q) ∙ conflict-join r ∙ sym (conflict-join (join q r))
join-assoc (Value a) Unseen r = ap (λ s. join s r) (join-unseen (Value a)) ∙ ap (join (Value a)) (sym (unseen-join r))
join-assoc (Value a) Conflict r =
    ap (λ s. join s r) (join-conflict (Value a)) ∙ conflict-join r ∙ sym (ap (join (Value a)) (conflict-join r) ∙ join-conflict (Value a))
join-assoc (Value a) (Value b) Unseen = join-unseen (join (Value a) (Value b)) ∙ ap (join (Value a)) (sym (join-unseen (Value b)))
join-assoc (Value a) (Value b) Conflict =
    join-conflict (join (Value a) (Value b)) ∙ sym (ap (join (Value a)) (join-conflict (Value b)) ∙ join-conflict (Value a))
join-assoc (Value a) (Value b) (Value c) = by_cases (eqb_tells a b) (eqb_tells b c)
  where
    by_cases : Tells a b → Tells b c → join (join (Value a) (Value b)) (Value c) ≡ join (Value a) (join (Value b) (Value c))
    by_cases (inl ab) bc =
        rw ab.1 (ap (λ s. join s (Value c)) (join-same b) ∙ sym (ap (λ s. join s (Value c)) (join-same b)) ∙ again bc)
      where
        again : Tells b c → join (join (Value b) (Value b)) (Value c) ≡ join (Value b) (join (Value b) (Value c))
        again (inl is) = rw is.1 (join-comm (join (Value c) (Value c)) (Value c))
        again (inr is) =
            ap (λ s. join s (Value c)) (join-same b) ∙ join-apart b c is.1
            ∙ sym (ap (join (Value b)) (join-apart b c is.1) ∙ join-conflict (Value b))
    by_cases (inr ab) (inl bc) =
        rw (sym bc.1) (ap (λ s. join s (Value b)) (join-apart a b ab.1) ∙ conflict-join (Value b)
        ∙ sym (ap (join (Value a)) (join-same b) ∙ join-apart a b ab.1))
    by_cases (inr ab) (inr bc) =
        ap (λ s. join s (Value c)) (join-apart a b ab.1) ∙ conflict-join (Value c)
        ∙ sym (ap (join (Value a)) (join-apart b c bc.1) ∙ join-conflict (Value a))

-- the order of two tables doesn't matter
pub tables-comm : (a b : Table) → join_tables a b ≡ join_tables b a
unfolding join_tables
tables-comm = zip2-comm join_rows (zip2-comm join join-comm)

-- nor which two of three are joined first
pub tables-assoc : (a b c : Table) → join_tables (join_tables a b) c ≡ join_tables a (join_tables b c)
unfolding join_tables
tables-assoc = zip2-assoc join_rows (zip2-assoc join join-assoc)

-- a table joined with itself stays as it is
pub tables-idem : (a : Table) → join_tables a a ≡ a
unfolding join_tables
tables-idem = zip2-idem join_rows (zip2-idem join join-idem)

-- row by row
pub row-join : (a b : Table) (i : ℕ) → known_row (join_tables a b) i ≡ join_rows (known_row a i) (known_row b i)
unfolding join_tables
row-join = zip2-row join

-- row i of the table of a captured block is what its bytes and marks say
pub row-seen : (rows : List (List ℕ)) (marks : List (List Bool)) (i : ℕ) → known_row (seen_table rows marks) i ≡ seen_row (get_or rows i []) (get_or marks i [])
unfolding seen_table
row-seen = zip2-row seen

-- place by place: after the end of a row nothing is seen
pub place-join : (a b : List Place) (j : ℕ)
    → (get_or (zip2 join a b) j Unseen ≡ Unseen) ⊎ (get_or (zip2 join a b) j Unseen ≡ join (get_or a j Unseen) (get_or b j Unseen))
place-join [] b j = inl refl
place-join (p ∷ a) [] j = inl refl
place-join (p ∷ a) (q ∷ b) zero = inr refl
place-join (p ∷ a) (q ∷ b) (suc j) = place-join a b j
