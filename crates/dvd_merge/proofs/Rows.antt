-- Rows that are joined 32 places at a time.
use Rattle.std.proofs.Common.{◌≡◌, ◌⊎◌, ℕ, ◌+◌, ◌-◌, ◌<◌, ◌≤◌, Bool, false, List, length, get_or, inl, inr, refl, sym, ◌∙◌, ap, subst, arith}
use Rattle.std.proofs.lemmas.Bool.{cases_lt}
use Rattle.std.proofs.lemmas.Simd.{get_or-zip2, length-zip2}
use Rattle.dvd_capture.specs.MarkBits.{is_set}
use Rattle.dvd_merge.specs.Join.{join, join_rows, seen, seen_row}
use Rattle.dvd_merge.specs.Planes.{place_from, row_of}
use Rattle.dvd_merge.specs.Inner.Rows.{AreJoined, HasPlaces, at_place, joined_at}
use Rattle.dvd_merge.specs.declared.place.Place.TheVariants.{Unseen}
use Rattle.dvd_merge.proofs.PlaceLanes.{joined-again}
use Rattle.dvd_merge.proofs.Records.{row_taken}

-- two planes agree with two others at a place
same_place : (a b c d : List ℕ) (k m : ℕ) → get_or a k 0 ≡ get_or c m 0 → get_or b k 0 ≡ get_or d m 0 → at_place a b k ≡ at_place c d m
same_place a b c d k m values codes = λ i. place_from (values i) (codes i)

module _ (values codes bytes marks : List ℕ) (at : ℕ) (lv lc lb lm : List ℕ) (rv rc new_values new_codes : List ℕ)
    (load_v : (k : ℕ) → k < 32 → get_or lv k 0 ≡ get_or values (at + k) 0) (load_c : (k : ℕ) → k < 32 → get_or lc k 0 ≡ get_or codes (at + k) 0)
    (load_b : (k : ℕ) → k < 32 → get_or lb k 0 ≡ get_or bytes (at + k) 0) (load_m : (k : ℕ) → k < 32 → get_or lm k 0 ≡ get_or marks (at + k) 0)
    (joined : HasPlaces rv rc (joined_at lv lc lb lm))
    (set_v : (k : ℕ) → k < 32 → get_or new_values (at + k) 0 ≡ get_or rv k 0) (set_c : (k : ℕ) → k < 32 → get_or new_codes (at + k) 0 ≡ get_or rc k 0)
    (below_v : (k : ℕ) → k < at → get_or new_values k 0 ≡ get_or values k 0) (below_c : (k : ℕ) → k < at → get_or new_codes k 0 ≡ get_or codes k 0)
    (above_v : (k : ℕ) → at + 32 ≤ k → get_or new_values k 0 ≡ get_or values k 0) (above_c : (k : ℕ) → at + 32 ≤ k → get_or new_codes k 0 ≡ get_or codes k 0) where
  -- lanes that are loaded, joined and stored join their places
  pub AreJoined-lanes : AreJoined values codes new_values new_codes bytes marks at
  AreJoined-lanes = record {
    joined = λ k small.
        same_place new_values new_codes rv rc (at + k) k (set_v k small) (set_c k small)
        ∙ joined.each k small
        ∙ (λ i. join (place_from (load_v k small i) (load_c k small i)) (seen (load_b k small i) (is_set (load_m k small i))));
    below = λ k low. same_place new_values new_codes values codes k k (below_v k low) (below_c k low);
    above = λ k high. same_place new_values new_codes values codes k k (above_v k high) (above_c k high);
  }

-- The places below `done` are joined, and the others are as they were.
pub record AreJoinedBelow (old_values old_codes values codes bytes marks : List ℕ) (done : ℕ) : Type 0 where
  pub joined : (k : ℕ) → k < 182 → k < done → at_place values codes k ≡ joined_at old_values old_codes bytes marks k
  pub rest : (k : ℕ) → k < 182 → done ≤ k → at_place values codes k ≡ at_place old_values old_codes k

-- none at first
pub none-joined : (values codes bytes marks : List ℕ) → AreJoinedBelow values codes values codes bytes marks 0
none-joined values codes bytes marks = record { joined = λ k inside below. absurd (omega (arith, below)); rest = λ k inside above. refl }

-- and 32 more, of which some may be joined already
pub more-joined : (old_values old_codes values codes new_values new_codes bytes marks : List ℕ) (done at : ℕ)
    → at ≤ done → (at < done → 182 ≤ at + 32) → done ≤ at + 32
    → AreJoinedBelow old_values old_codes values codes bytes marks done → AreJoined values codes new_values new_codes bytes marks at
    → AreJoinedBelow old_values old_codes new_values new_codes bytes marks (done + 32)
more-joined old_values old_codes values codes new_values new_codes bytes marks done at from last reach before step = record {
  joined = λ k inside below. elim (cases_lt k at) [
    | inl low ↦ step.below k low ∙ before.joined k inside (omega (arith, low, from))
    | inr high ↦ here k inside high (within k inside below high (cases_lt at done)) (cases_lt k done)
  ];
  rest = λ k inside above. step.above k (omega (arith, above, from)) ∙ before.rest k inside (omega (arith, above));
}
  where
    within : (k : ℕ) → k < 182 → k < done + 32 → at ≤ k → (at < done) ⊎ (done ≤ at) → k < at + 32
    within k inside below high (inl less) = omega (arith, inside, last less)
    within k inside below high (inr same) = omega (arith, below, same)

    now : (k : ℕ) → at ≤ k → k < at + 32 → at_place new_values new_codes k ≡ joined_at values codes bytes marks k
    now k high low =
        let whole : at + (k - at) ≡ k = omega (arith, high) in
        subst (λ m. at_place new_values new_codes m ≡ joined_at values codes bytes marks m) whole (step.joined (k - at) (omega (arith, high, low)))

    here : (k : ℕ) → k < 182 → at ≤ k → k < at + 32 → (k < done) ⊎ (done ≤ k) → at_place new_values new_codes k ≡ joined_at old_values old_codes bytes marks k
    here k inside high low (inl twice) =
        now k high low ∙ ap (λ p. join p (seen (get_or bytes k 0) (is_set (get_or marks k 0)))) (before.joined k inside twice)
        ∙ joined-again (at_place old_values old_codes k) (seen (get_or bytes k 0) (is_set (get_or marks k 0)))
    here k inside high low (inr first) =
        now k high low ∙ ap (λ p. join p (seen (get_or bytes k 0) (is_set (get_or marks k 0)))) (before.rest k inside first)

-- a place of a row that is given by two planes
pub row-place : (values codes : List ℕ) (k : ℕ) → k < length values → k < length codes → get_or (row_of values codes) k Unseen ≡ at_place values codes k
row-place values codes k in_values in_codes = get_or-zip2 place_from values codes k 0 0 Unseen in_values in_codes

-- a row whose places are joined is the join of the rows
pub row-joined : (old_values old_codes values codes bytes spread : List ℕ) (marks : List Bool)
    → length old_values ≡ 182 → length old_codes ≡ 182 → length values ≡ 182 → length codes ≡ 182 → length bytes ≡ 182 → length marks ≡ 182
    → ((k : ℕ) → k < 182 → is_set (get_or spread k 0) ≡ get_or marks k false)
    → ((k : ℕ) → k < 182 → at_place values codes k ≡ joined_at old_values old_codes bytes spread k)
    → row_of values codes ≡ join_rows (row_of old_values old_codes) (seen_row bytes marks)
row-joined old_values old_codes values codes bytes spread marks ov oc nv nc nb nm same each =
    row_taken (row_of old_values old_codes) (row_of values codes) bytes marks
    (length-zip2 place_from old_values old_codes (ov ∙ sym oc) ∙ ov) nb nm (length-zip2 place_from values codes (nv ∙ sym nc) ∙ nv)
    (λ k below.
    row-place values codes k (omega (arith, below, nv)) (omega (arith, below, nc)) ∙ each k below
    ∙ (λ i. join (sym (row-place old_values old_codes k (omega (arith, below, ov)) (omega (arith, below, oc))) i) (seen (get_or bytes k 0) (same k below i))))
