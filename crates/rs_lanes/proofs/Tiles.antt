-- Tiles of sixteen vectors: alternating lanes of two vectors (in_turns) and of four (alternate_four), what their pairs of
-- rows hold (HasPairs, pairs_more, pairs_wide), and vectors by places: what holds below a place, and of sixteen vectors
-- from it on, holds of all of them (places_more).
use Rattle.std.proofs.Common.{◌≡◌, ℕ, ◌+◌, ◌-◌, ◌*◌, ◌/◌, ◌%◌, ◌<◌, List, [], ◌∷◌, ◌++◌, length, get_or, map, set, sym, ap, subst, ◌∙◌, inl, inr, arith, length-set, get_or-set_other}
use Rattle.std.proofs.lemmas.Bool.{cases_eq, cases_lt}
use Rattle.std.specs.List.{range_with_len}
use Rattle.std.proofs.lemmas.Grind.{get_or-set_at}
use Rattle.std.proofs.lemmas.List.FromFn.{get_or-map-range_with_len}
use Rattle.std.proofs.lemmas.List.{get_or_append_left, get_or-append-add}
use Rattle.coding.specs.Rows.{line, place}

-- lanes of two vectors alternating, lane n from lane f n
abbrev in_turns : (ℕ → ℕ) → List ℕ → List ℕ → List ℕ
in_turns f a b = map (λ n. get_or (a ++ b) (32 * (n % 2) + f n) 0) (range_with_len 0 32)

-- the even ones are those of the first vector
pub in_turns-even : (f : ℕ → ℕ) (a b : List ℕ) (n : ℕ) → length a ≡ 32 → n < 32 → f n < 32 → n % 2 ≡ 0 → get_or (in_turns f a b) n 0 ≡ get_or a (f n) 0
in_turns-even f a b n size below inside even =
    get_or-map-range_with_len (λ j. get_or (a ++ b) (32 * (j % 2) + f j) 0) 0 32 n n 0 below (omega arith)
    ∙ ap (λ m. get_or (a ++ b) m 0) (omega arith)
    ∙ get_or_append_left a b 0 (f n) (omega arith)

-- the odd ones are those of the second
pub in_turns-odd : (f : ℕ → ℕ) (a b : List ℕ) (n : ℕ) → length a ≡ 32 → n < 32 → n % 2 ≡ 1 → get_or (in_turns f a b) n 0 ≡ get_or b (f n) 0
in_turns-odd f a b n size below odd =
    get_or-map-range_with_len (λ j. get_or (a ++ b) (32 * (j % 2) + f j) 0) 0 32 n n 0 below (omega arith)
    ∙ ap (λ m. get_or (a ++ b) m 0) (omega arith)
    ∙ get_or-append-add a b (f n) 0

-- z has lanes of x and y alternating, from the first of each half on or from its ninth
abbrev pub Alternate : ℕ → List ℕ → List ℕ → List ℕ → Type 0
Alternate last x y z =
    ((n : ℕ) → n < 32 → n % 2 ≡ 0 → get_or z n 0 ≡ get_or x (16 * (n / 16) + (8 * last + n % 16 / 2)) 0)
    × ((n : ℕ) → n < 32 → n % 2 ≡ 1 → get_or z n 0 ≡ get_or y (16 * (n / 16) + (8 * last + n % 16 / 2)) 0)

-- of pairs that alternate, lanes of all four do
pub alternate_four : (one two : ℕ) (a b c d x y z : List ℕ) → one < 2 → two < 2 → Alternate one a c x → Alternate one b d y → Alternate two x y z
    → (n : ℕ) → n < 32 → get_or z n 0 ≡ place (a ∷ b ∷ c ∷ d ∷ []) (n % 4) (16 * (n / 16) + (4 * (2 * one + two) + n % 16 / 4))
alternate_four one two a b c d x y z few small first second both n below =
    let at : ℕ = 16 * (n / 16) + (8 * two + n % 16 / 2) in
    let k : ℕ = 16 * (n / 16) + (4 * (2 * one + two) + n % 16 / 4) in
    let lane : 16 * (at / 16) + (8 * one + at % 16 / 2) ≡ k = omega arith in
    let four : ℕ → ℕ = λ r. place (a ∷ b ∷ c ∷ d ∷ []) r k in
    elim (cases_eq (n % 2) 0) [
      | inl even ↦
          both.0 n below even
          ∙ elim (cases_eq (n % 4) 0) [
            | inl early ↦ first.0 at (omega arith) (omega arith) ∙ ap (λ m. get_or a m 0) lane ∙ ap four {x = 0} {y = n % 4} (omega arith)
            | inr late ↦ first.1 at (omega arith) (omega arith) ∙ ap (λ m. get_or c m 0) lane ∙ ap four {x = 2} {y = n % 4} (omega arith)
          ]
      | inr odd ↦
          both.1 n below (omega arith)
          ∙ elim (cases_eq (n % 4) 1) [
            | inl early ↦ second.0 at (omega arith) (omega arith) ∙ ap (λ m. get_or b m 0) lane ∙ ap four {x = 1} {y = n % 4} (omega arith)
            | inr late ↦ second.1 at (omega arith) (omega arith) ∙ ap (λ m. get_or d m 0) lane ∙ ap four {x = 3} {y = n % 4} (omega arith)
          ]
    ]

-- what holds of four numbers holds of each below four
pub by_four : (P : ℕ → Type 0) → P 0 → P 1 → P 2 → P 3 → (q : ℕ) → q < 4 → P q
by_four P first second third fourth q below =
    elim (cases_eq q 0) [
      | inl is ↦ subst P (sym is) first
      | inr not_first ↦
          elim (cases_eq q 1) [
            | inl is ↦ subst P (sym is) second
            | inr not_second ↦
                elim (cases_eq q 2) [
                  | inl is ↦ subst P (sym is) third
                  | inr not_third ↦
                      let last : 3 ≡ q = omega arith in
                      subst P last fourth
                ]
          ]
    ]

-- the vectors below `to` have the places of 32 rows from `top` on
pub record HasPlaces (rows : List (List ℕ)) (top to : ℕ) (transposed : List (List ℕ)) : Type 0 where
  pub lanes : (k : ℕ) → k < to → length (line transposed k) ≡ 32
  pub set : (k n : ℕ) → k < to → n < 32 → place transposed k n ≡ place rows (top + n) k

-- sixteen vectors more
pub places_more : (rows : List (List ℕ)) (top at : ℕ) (before after tile : List (List ℕ))
    → ((k : ℕ) → k < at → line after k ≡ line before k)
    → ((k : ℕ) → k < 16 → line after (at + k) ≡ line tile k)
    → HasPlaces rows top at before
    → ((k : ℕ) → k < 16 → length (line tile k) ≡ 32)
    → ((k n : ℕ) → k < 16 → n < 32 → place tile k n ≡ place rows (top + n) (at + k))
    → HasPlaces rows top (at + 16) after
places_more rows top at before after tile kept set has lanes transposed = record {
  lanes = λ k below.
      elim (cases_lt k at) [
        | inl under ↦ ap length (kept k under) ∙ has.lanes k under
        | inr over ↦
            let whole : at + (k - at) ≡ k = omega arith in
            ap (λ m. length (line after m)) (sym whole) ∙ ap length (set (k - at) (omega arith)) ∙ lanes (k - at) (omega arith)
      ];
  set = λ k n below lane.
      elim (cases_lt k at) [
        | inl under ↦ ap (λ row. get_or row n 0) (kept k under) ∙ has.set k n under lane
        | inr over ↦
            let whole : at + (k - at) ≡ k = omega arith in
            ap (λ m. place after m n) (sym whole)
            ∙ ap (λ row. get_or row n 0) (set (k - at) (omega arith))
            ∙ transposed (k - at) n (omega arith) lane
            ∙ ap (place rows (top + n)) whole
      ];
}

-- k vectors of a tile have sixteen places from `at` on of two rows each, the one sixteen below the other, and the rows
-- have 182
pub record HasPairs (rows : List (List ℕ)) (top at k : ℕ) (tile : List (List ℕ)) : Type 0 where
  pub size : length tile ≡ 16
  pub upper : (i : ℕ) → i < k → length (line rows (top + i)) ≡ 182
  pub lower : (i : ℕ) → i < k → length (line rows (top + 16 + i)) ≡ 182
  pub lanes : (i : ℕ) → i < k → length (line tile i) ≡ 32
  pub bytes : (i n : ℕ) → i < k → n < 32 → place tile i n ≡ place rows (top + (16 * (n / 16) + i)) (at + n % 16)

-- one vector more
pub pairs_more : (rows : List (List ℕ)) (top at k : ℕ) (tile : List (List ℕ)) (one other pair : List ℕ)
    → k < 16
    → HasPairs rows top at k tile
    → one ≡ line rows (top + k) → length one ≡ 182
    → other ≡ line rows (top + 16 + k) → length other ≡ 182
    → length pair ≡ 32
    → ((n : ℕ) → n < 16 → get_or pair n 0 ≡ get_or one (at + n) 0)
    → ((n : ℕ) → n < 16 → get_or pair (16 + n) 0 ≡ get_or other (at + n) 0)
    → HasPairs rows top at (k + 1) (set tile k pair)
pairs_more rows top at k tile one other pair below has upper upper_size lower lower_size size first second =
    let many = has.size in
    record {
      size = length-set tile k pair ∙ has.size;
      upper = λ i under.
          elim (cases_lt i k) [
            | inl before ↦ has.upper i before
            | inr last ↦
                let same : k ≡ i = omega arith in
                subst (λ m. length (line rows (top + m)) ≡ 182) same (ap length (sym upper) ∙ upper_size)
          ];
      lower = λ i under.
          elim (cases_lt i k) [
            | inl before ↦ has.lower i before
            | inr last ↦
                let same : k ≡ i = omega arith in
                subst (λ m. length (line rows (top + 16 + m)) ≡ 182) same (ap length (sym lower) ∙ lower_size)
          ];
      lanes = λ i under.
          elim (cases_eq i k) [
            | inl same ↦ ap length (get_or-set_at tile k i pair [] same (omega arith)) ∙ size
            | inr apart ↦ ap length (get_or-set_other tile k i pair [] apart) ∙ has.lanes i (omega arith)
          ];
      bytes = λ i n under lane.
          elim (cases_eq i k) [
            | inl same ↦
                ap (λ row. get_or row n 0) (get_or-set_at tile k i pair [] same (omega arith))
                ∙ elim (cases_lt n 16) [
                  | inl left ↦
                      let row : top + k ≡ top + (16 * (n / 16) + i) = omega arith in
                      let lane_is : at + n ≡ at + n % 16 = omega arith in
                      first n left ∙ ap (λ xs. get_or xs (at + n) 0) upper ∙ (λ q. place rows (row q) (lane_is q))
                  | inr right ↦
                      let row : top + 16 + k ≡ top + (16 * (n / 16) + i) = omega arith in
                      let lane_is : at + (n - 16) ≡ at + n % 16 = omega arith in
                      let whole : 16 + (n - 16) ≡ n = omega arith in
                      ap (λ m. get_or pair m 0) (sym whole)
                      ∙ second (n - 16) (omega arith)
                      ∙ ap (λ xs. get_or xs (at + (n - 16)) 0) lower
                      ∙ (λ q. place rows (row q) (lane_is q))
                ]
            | inr apart ↦ ap (λ row. get_or row n 0) (get_or-set_other tile k i pair [] apart) ∙ has.bytes i n (omega arith) lane
          ];
    }

-- all 32 rows have 182 places
pub pairs_wide : (rows : List (List ℕ)) (top at : ℕ) (tile : List (List ℕ)) → HasPairs rows top at 16 tile → (n : ℕ) → n < 32 → length (line rows (top + n)) ≡ 182
pairs_wide rows top at tile has n below =
    elim (cases_lt n 16) [
      | inl left ↦ has.upper n left
      | inr right ↦
          let whole : top + 16 + (n - 16) ≡ top + n = omega arith in
          subst (λ m. length (line rows m) ≡ 182) whole (has.lower (n - 16) (omega arith))
    ]
