-- What the counts of a unit's bytes say.
use Rattle.std.proofs.Common.{◌≡◌, ◌<◌, ◌≤◌, ◌==◌, ℕ, zero, suc, true, false, List, [], ◌∷◌, length, nat_lt, position, slice_index, subst, arith, None, Some}
use Rattle.std.proofs.lemmas.Grind.{common_steps}
use Rattle.std.specs.List.{list_all, position_or_len}
use Rattle.cap_interleave.specs.Inner.{BuffersState, GivesBlock}
use Rattle.dvd_ports.specs.Seen.{Seen}
use Rattle.std.proofs.lemmas.Bool.{eqb-true, ltb-false, ltb-true}
use Rattle.std.proofs.lemmas.List.Quantifiers.{position-Some}
use Rattle.std.proofs.lemmas.List.Sums.{AllPass-from_list_all, fails_before_first}

-- a byte came of some block
pub some_came : (held : List ℕ) → list_all (λ h. h == 0) held ≡ false → (c : ℕ) × (c < length held) × (0 < slice_index held c)
some_came [] is = let no : true ≡ false = is in absurd cc
some_came (zero ∷ rest) is = let more = some_came rest is in (suc more.0, omega (arith, more.1), more.2)
some_came (suc h ∷ rest) is = (0, omega arith, omega arith)

-- or of none
pub none_came : (held : List ℕ) → list_all (λ h. h == 0) held ≡ true → (c : ℕ) → c < length held → slice_index held c ≡ 0
none_came held is c inside = eqb-true (slice_index held c) 0 (AllPass-from_list_all (λ h. h == 0) held is c 0 inside)

-- the first block that isn't whole
pub first_short : (size : ℕ) (held : List ℕ) (c : ℕ) → position (λ h. nat_lt h size) held ≡ Some c
    → (c < length held) × (slice_index held c < size) × ((b : ℕ) → b < c → size ≤ slice_index held b)
first_short size held c is =
    let at = position-Some (λ h. nat_lt h size) held c 0 is in
    (at.0, ltb-true (slice_index held c) size at.1, λ b before. ltb-false (slice_index held b) size (at.2 b before))

-- or all are whole
pub all_whole : (size : ℕ) (held : List ℕ) → position (λ h. nat_lt h size) held ≡ None → (c : ℕ) → c < length held → size ≤ slice_index held c
all_whole size held is c inside =
    let none : length held ≤ position_or_len (λ h. nat_lt h size) held = grind (arith, common_steps) in
    ltb-false (slice_index held c) size (fails_before_first (λ h. nat_lt h size) held c 0 (omega arith))

-- the same block by other names
pub gives_by : (size size2 before before2 : ℕ) (own own2 : List ℕ) (old new : Seen) → size ≡ size2 → before ≡ before2 → own ≡ own2
    → GivesBlock size before own old new → GivesBlock size2 before2 own2 old new
gives_by size size2 before before2 own own2 old new sizes befores owns gives =
    subst (λ s. GivesBlock s before2 own2 old new) sizes (subst (λ b. GivesBlock size b own2 old new) befores (subst (λ o. GivesBlock size before o old new) owns gives))

-- buffers with the same fields
pub same_state : (a b : BuffersState) → a.size ≡ b.size → a.fill ≡ b.fill → a.held ≡ b.held → a.unit ≡ b.unit → a ≡ b
same_state a b sizes fills helds units = λ i. record { size = sizes i; fill = fills i; held = helds i; unit = units i }
