-- Lists of which some places are changed, one after the other.
use Rattle.std.proofs.Common.{◌≡◌, ◌≢◌, ◌∙◌, ℕ, ◌+◌, ◌<◌, List, [], length, get_or, set, bit_xor, length-set, get_or-set_other, get_or-set_same, refl, sym, ap, subst, arith, below_more}
use Rattle.std.proofs.lemmas.List.{ext_get_or, set-get_or, set-set}
use Rattle.coding.specs.Product.{line, place}
use Rattle.dvd_exercise.specs.Damage.{IsChanged}

-- nothing is changed yet
pub changed_none : {X : Type 0} (none : X) (place : ℕ → ℕ) (value : ℕ → X) (xs : List X) → IsChanged none 0 place value xs xs
changed_none none place value xs = record {
  size = refl;
  changed = λ t below. absurd (omega arith);
  others = λ k free. refl;
}

-- one place more, which is none of those before
module _ {X : Type 0} (none : X) (n : ℕ) (place : ℕ → ℕ) (value : ℕ → X) (before after : List X)
    (new : (t : ℕ) → t < n → place t ≢ place n) (is : IsChanged none n place value before after) where
  -- it is as it was
  pub place_untouched : get_or after (place n) none ≡ get_or before (place n) none
  place_untouched = is.others (place n) new

  -- it is set
  pub changed_more : (y : X) → place n < length before → y ≡ value n → IsChanged none (n + 1) place value before (set after (place n) y)
  changed_more y inside same = record {
    size = length-set after (place n) y ∙ is.size;
    changed = below_more (λ t. get_or (set after (place n) y) (place t) none ≡ value t) n
        (λ t below. get_or-set_other after (place n) (place t) y none (new t below) ∙ is.changed t below)
        (get_or-set_same after (place n) y none (omega (arith, is.size)) ∙ same);
    others = λ k free.
        get_or-set_other after (place n) k y none (λ here. free n (omega arith) (sym here))
        ∙ is.others k (λ t below. free t (omega arith));
  }

-- the same where the place and the new list have names of their own
pub changed_next : {X : Type 0} (none : X) (n : ℕ) (place : ℕ → ℕ) (value : ℕ → X) (before after next : List X) (i : ℕ) (y : X)
    → ((t : ℕ) → t < n → place t ≢ place n) → IsChanged none n place value before after → i ≡ place n → i < length before
    → next ≡ set after i y → (get_or after i none ≡ get_or before i none → y ≡ value n) → IsChanged none (n + 1) place value before next
changed_next none n place value before after next i y new is here inside changed same =
    subst (IsChanged none (n + 1) place value before) (sym (changed ∙ ap (λ (k : ℕ). set after k y) here))
    (changed_more none n place value before after new is y (omega (arith, here, inside))
    (same (ap (λ (k : ℕ). get_or after k none) here ∙ place_untouched none n place value before after new is ∙ ap (λ (k : ℕ). get_or before k none) (sym here))))

-- one list of several is changed at some places, and the others aren't changed
pub record IsLineChanged {X : Type 0} (none : X) (i n : ℕ) (place : ℕ → ℕ) (value : ℕ → X) (before after : List (List X)) : Type 0 where
  pub line : IsChanged none n place value (get_or before i []) (get_or after i [])
  pub lines : after ≡ set before i (get_or after i [])

-- no place of it yet
pub line_none : {X : Type 0} (none : X) (i : ℕ) (place : ℕ → ℕ) (value : ℕ → X) (xs : List (List X)) → IsLineChanged none i 0 place value xs xs
line_none none i place value xs = record {
  line = changed_none none place value (get_or xs i []);
  lines = sym (set-get_or xs i []);
}

-- a place of it that is none of those is as it was
pub line_untouched : {X : Type 0} (none : X) (i n : ℕ) (place : ℕ → ℕ) (value : ℕ → X) (before after : List (List X))
    → ((t : ℕ) → t < n → place t ≢ place n) → IsLineChanged none i n place value before after
    → get_or (get_or after i []) (place n) none ≡ get_or (get_or before i []) (place n) none
line_untouched none i n place value before after new is = place_untouched none n place value (get_or before i []) (get_or after i []) new is.line

-- one place of it more
pub line_more : {X : Type 0} (none : X) (i n : ℕ) (place : ℕ → ℕ) (value : ℕ → X) (before after next : List (List X)) (y : X)
    → i < length before → ((t : ℕ) → t < n → place t ≢ place n) → IsLineChanged none i n place value before after
    → next ≡ set after i (set (get_or after i []) (place n) y) → place n < length (get_or next i []) → y ≡ value n
    → IsLineChanged none i (n + 1) place value before next
line_more none i n place value before after next y inside new is changed within same =
    let line = set (get_or after i []) (place n) y in
    let here : get_or next i [] ≡ line =
    ap (λ (xs : List (List _)). get_or xs i []) changed
    ∙ get_or-set_same after i line [] (omega (arith, ap length is.lines, length-set before i (get_or after i []))) in
    let size : length (get_or next i []) ≡ length (get_or before i []) = ap length here ∙ length-set (get_or after i []) (place n) y ∙ is.line.size in record {
      line = subst (IsChanged none (n + 1) place value (get_or before i [])) (sym here)
          (changed_more none n place value (get_or before i []) (get_or after i []) new is.line y (omega (arith, size, within)) same);
      lines = changed ∙ ap (λ (xs : List (List _)). set xs i line) is.lines ∙ set-set before i (get_or after i []) line ∙ ap (set before i) (sym here);
    }

-- one byte of it more that becomes the exclusive or with another, at a place that is none of those
pub line_combined : (i n : ℕ) (at byte : ℕ → ℕ) (before after next : List (List ℕ)) (j b : ℕ) → i < length before → ((t : ℕ) → t < n → at t ≢ at n)
    → IsLineChanged 0 i n at (λ k. bit_xor (place before i (at k)) (byte k)) before after → j ≡ at n → b ≡ byte n
    → next ≡ set after i (set (line after i) j (bit_xor (place after i j) b)) → at n < length (line next i)
    → IsLineChanged 0 i (n + 1) at (λ k. bit_xor (place before i (at k)) (byte k)) before next
line_combined i n at byte before after next j b inside new is here same changed within =
    let value = λ (k : ℕ). bit_xor (place before i (at k)) (byte k) in
    line_more 0 i n at value before after next (bit_xor (place after i (at n)) (byte n)) inside new is
    (changed
    ∙ ap (λ (k : ℕ). set after i (set (line after i) k (bit_xor (place after i k) b))) here
    ∙ ap (λ (y : ℕ). set after i (set (line after i) (at n) (bit_xor (place after i (at n)) y))) same)
    within (ap (λ (x : ℕ). bit_xor x (byte n)) (line_untouched 0 i n at value before after new is))

-- all places of it, from the first
pub line_whole : {X : Type 0} (none : X) (i n : ℕ) (value : ℕ → X) (before after : List (List X)) (whole : List X)
    → IsLineChanged none i n (λ k. k) value before after → length (get_or after i []) ≡ n → length whole ≡ n
    → ((k : ℕ) → k < n → get_or whole k none ≡ value k) → after ≡ set before i whole
line_whole none i n value before after whole is size whole_size values =
    is.lines ∙ ap (set before i) (ext_get_or none (get_or after i []) whole (size ∙ sym whole_size)
    (λ k below. is.line.changed k (omega (arith, size)) ∙ sym (values k (omega (arith, size)))))
