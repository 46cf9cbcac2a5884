-- A text that isn't empty is its first line, and the lines after it.
use Rattle.std.proofs.Common.{◌≡◌, ◌+◌, ◌<◌, ◌==◌, ℕ, suc, Bool, true, false, not, List, [], ◌∷◌, length, take, drop, refl, ap, arith, add-one, if◌then◌else◌}
use Rattle.cap_map.specs.Fields.{line_length, lines_of, onto_first}

-- a byte that ends no line is the first of its line
longer : (c d n : ℕ) (cs : List ℕ) → lines_of (d ∷ cs) ≡ take n (d ∷ cs) ∷ lines_of (drop (n + 1) (d ∷ cs))
    → onto_first c (lines_of (d ∷ cs)) ≡ take (1 + n) (c ∷ d ∷ cs) ∷ lines_of (drop (1 + n + 1) (c ∷ d ∷ cs))
longer c d n cs same = rw (one-add n, add-one (suc n)) (ap (onto_first c) (rw (add-one n) at same))
  where
    one-add : (m : ℕ) → 1 + m ≡ suc m
    one-add m = omega arith

-- by whether its first byte ends the line
by_first : (b : Bool) (c d n : ℕ) (cs : List ℕ) → lines_of (d ∷ cs) ≡ take n (d ∷ cs) ∷ lines_of (drop (n + 1) (d ∷ cs))
    → (if b then [] ∷ lines_of (d ∷ cs) else onto_first c (lines_of (d ∷ cs)))
    ≡ take (if not b then 1 + n else 0) (c ∷ d ∷ cs) ∷ lines_of (drop ((if not b then 1 + n else 0) + 1) (c ∷ d ∷ cs))
by_first true c d n cs same = refl
by_first false c d n cs same = longer c d n cs same

-- one byte alone
alone : (b : Bool) (c : ℕ) → (if b then [] ∷ [] else (c ∷ []) ∷ [])
    ≡ take (if not b then 1 else 0) (c ∷ []) ∷ lines_of (drop ((if not b then 1 else 0) + 1) (c ∷ []))
alone true c = refl
alone false c = refl

pub first_line : (text : List ℕ) → 0 < length text → lines_of text ≡ take (line_length text) text ∷ lines_of (drop (line_length text + 1) text)
first_line [] some = absurd (omega arith)
first_line (c ∷ []) some = alone (c == 10) c
first_line (c ∷ d ∷ cs) some = by_first (c == 10) c d (line_length (d ∷ cs)) cs (first_line (d ∷ cs) (omega arith))
