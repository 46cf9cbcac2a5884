-- The totals of a list of blocks with one more at its end.
use Rattle.std.proofs.Common.{◌≡◌, ◌∙◌, ℕ, zero, suc, ◌+◌, ◌-◌, ◌<◌, ◌≤◌, max, Bool, true, false, cond, eqb, nat_lt, ◌==◌, List, [], ◌∷◌, ◌++◌, length, map, drop, get_or, sum, sum_by, count_by, slice_get, refl, sym, ap, subst, arith, zero-add, Some, take_all, drop-drop, length-append, length-drop, is_some}
use Rattle.std.specs.List.{position_or_len, range_with_len}
use Rattle.std.proofs.lemmas.Bool.Decides.{nat_tests}
use Rattle.std.proofs.lemmas.Bool.{eq-eqb}
use Rattle.std.proofs.lemmas.Grind.{same_number_lists}
use Rattle.std.proofs.lemmas.List.{drop-map, drop-append-le, take-append-le, length-map, map-append}
use Rattle.std.proofs.lemmas.List.Folds.{position_or_len_push}
use Rattle.std.proofs.lemmas.List.FromFn.{get_or-map-range_with_len, length-map-range_with_len, map-range_with_len_more}
use Rattle.std.proofs.lemmas.List.Sums.{fails_before_first, position_or_len_is, sum-map, sum_by-append}
use Rattle.std.proofs.lemmas.Option.{get_or_from_slice_get}
use Rattle.std.proofs.Math.ListN.{get_or-append}
use Rattle.std.proofs.Math.Seq.{get_or-append_seam}
use Rattle.dvd_layout.specs.declared.entry.BlockPlan.{BlockPlan}
use Rattle.dvd_report.specs.Survey.{clean, greatest, last_eight, pi_of, sum8, sums8, survey_line, surveyed_line, totals_of}
use Rattle.dvd_report.specs.declared.counts.Surveyed.{Surveyed}
use Rattle.dvd_report.specs.declared.counts.Totals.{Totals}

-- the last block's sum is that of the last eight
sum8-last : (blocks : List Surveyed) (k : ℕ) → k + 1 ≡ length blocks → sum8 blocks k ≡ sum_by pi_of (last_eight blocks)
unfolding sum8
sum8-last blocks k last =
    ap (λ taken. sum_by pi_of (drop (k - 7) taken)) (take_all (k + 1) blocks (omega arith))
    ∙ ap (λ n. sum_by pi_of (drop n blocks)) (omega arith)

-- one more block leaves the sums of those before it
sum8-before : (blocks : List Surveyed) (block : Surveyed) (k : ℕ) → k < length blocks → sum8 (blocks ++ block ∷ []) k ≡ sum8 blocks k
unfolding sum8
sum8-before blocks block k before =
    ap (λ taken. sum_by pi_of (drop (k - 7) taken)) (take-append-le (k + 1) blocks (block ∷ []) (omega arith))

-- it adds one sum at the end
sums8-next : (blocks : List Surveyed) (block : Surveyed)
    → sums8 (blocks ++ block ∷ []) ≡ sums8 blocks ++ sum8 (blocks ++ block ∷ []) (length blocks) ∷ []
sums8-next blocks block =
    let n = length blocks in
    let more = blocks ++ block ∷ [] in
    let before : map (sum8 more) (range_with_len 0 n) ≡ sums8 blocks =
    same_number_lists (map (sum8 more) (range_with_len 0 n)) (sums8 blocks)
    (length-map-range_with_len (sum8 more) 0 n ∙ sym (length-map-range_with_len (sum8 blocks) 0 n))
    (λ k within.
    let below : k < n = subst (λ (m : ℕ). k < m) (length-map-range_with_len (sum8 more) 0 n) within in
    get_or-map-range_with_len (sum8 more) 0 n k k 0 below (zero-add k)
    ∙ sum8-before blocks block k below
    ∙ sym (get_or-map-range_with_len (sum8 blocks) 0 n k k 0 below (zero-add k))) in
    ap (λ m. map (sum8 more) (range_with_len 0 m)) (length-append blocks (block ∷ []))
    ∙ map-range_with_len_more (sum8 more) 0 n n (zero-add n)
    ∙ ap (λ sums. sums ++ sum8 more n ∷ []) before

-- the greatest of numbers with one more at their end
greatest-next : (xs : List ℕ) (x : ℕ) → greatest (xs ++ x ∷ []) ≡ max (greatest xs) x
greatest-next [] x = omega arith
greatest-next (y ∷ ys) x = omega (arith, greatest-next ys x)

-- no number is above the greatest
greatest-above : (xs : List ℕ) (k : ℕ) → k < length xs → get_or xs k 0 ≤ greatest xs
greatest-above [] k within = absurd (omega arith)
greatest-above (x ∷ xs) zero within = omega arith
greatest-above (x ∷ xs) (suc k) within = omega (arith, greatest-above xs k (omega arith))

-- and one of them is it
greatest-among : (xs : List ℕ) → 0 < length xs → (k : ℕ) × (k < length xs) × (get_or xs k 0 ≡ greatest xs)
greatest-among [] some = absurd (omega arith)
greatest-among (x ∷ []) some = (0, omega arith, omega arith)
greatest-among (x ∷ y ∷ ys) some =
    let rest = greatest-among (y ∷ ys) (omega arith) in
    by_test (nat_lt x (greatest (y ∷ ys))) refl rest
  where
    -- by whether the first number is less than the greatest of the others
    by_test : (test : Bool) → nat_lt x (greatest (y ∷ ys)) ≡ test
        → (k : ℕ) × (k < length (y ∷ ys)) × (get_or (y ∷ ys) k 0 ≡ greatest (y ∷ ys))
        → (k : ℕ) × (k < length (x ∷ y ∷ ys)) × (get_or (x ∷ y ∷ ys) k 0 ≡ greatest (x ∷ y ∷ ys))
    by_test true is rest = (suc rest.0, omega (arith, rest.1), grind (arith, nat_tests, rest.2))
    by_test false is rest = (0, omega arith, grind (arith, nat_tests))

-- the first place that has the greatest
abbrev first_greatest : List ℕ → ℕ
first_greatest xs = position_or_len (λ s. s == greatest xs) xs

-- a greater number at the end is the first
first_greatest-new : (xs : List ℕ) (x : ℕ) → greatest xs < x → first_greatest (xs ++ x ∷ []) ≡ length xs
first_greatest-new xs x above =
    let more = xs ++ x ∷ [] in
    let most : greatest more ≡ x = omega (arith, greatest-next xs x) in
    position_or_len_is (λ s. s == greatest more) more (length xs) 0 (omega (arith, length-append xs (x ∷ [])))
    (λ k below.
    let here : get_or more k 0 ≡ get_or xs k 0 = get_or-append xs (x ∷ []) 0 k below in
    let less : get_or more k 0 < greatest more = omega (arith, greatest-above xs k below) in
    grind (arith, nat_tests))
    (λ inside. eq-eqb (get_or more (length xs) 0) (greatest more) (get_or-append_seam xs x [] 0 ∙ sym most))

-- the first place is one of theirs
first_greatest-within : (xs : List ℕ) → 0 < length xs → first_greatest xs < length xs
first_greatest-within xs some = by_test (nat_lt (first_greatest xs) (length xs)) refl where
  -- by whether it is
  by_test : (test : Bool) → nat_lt (first_greatest xs) (length xs) ≡ test → first_greatest xs < length xs
  by_test true is = grind (arith, nat_tests)
  by_test false is =
      let among = greatest-among xs some in
      let past : length xs ≤ first_greatest xs = grind (arith, nat_tests) in
      let fails : (get_or xs among.0 0 == greatest xs) ≡ false = fails_before_first (λ s. s == greatest xs) xs among.0 0 (omega (arith, among.1)) in
      let passes : (get_or xs among.0 0 == greatest xs) ≡ true = eq-eqb (get_or xs among.0 0) (greatest xs) among.2 in
      cc

-- and one that isn't greater leaves it
first_greatest-old : (xs : List ℕ) (x : ℕ) → x ≤ greatest xs → first_greatest (xs ++ x ∷ []) ≡ first_greatest xs
first_greatest-old [] x below = let none : x ≡ 0 = omega arith in rw none refl
first_greatest-old (y ∷ ys) x below =
    let xs = y ∷ ys in
    let most : greatest (xs ++ x ∷ []) ≡ greatest xs = omega (arith, greatest-next xs x) in
    let within : first_greatest xs < length xs = first_greatest-within xs (omega arith) in
    let inner : eqb (first_greatest xs) (length xs) ≡ false = grind (arith, nat_tests) in
    ap (λ g. position_or_len (λ s. s == g) (xs ++ x ∷ [])) most
    ∙ position_or_len_push (λ s. s == greatest xs) xs x
    ∙ ap (λ test. cond test (length xs + cond (x == greatest xs) 0 1) (first_greatest xs)) inner

-- both together
first_greatest-next : (xs : List ℕ) (x : ℕ) → first_greatest (xs ++ x ∷ []) ≡ cond (nat_lt (greatest xs) x) (length xs) (first_greatest xs)
first_greatest-next xs x = by_test (nat_lt (greatest xs) x) refl where
  -- by whether the number is greater
  by_test : (test : Bool) → nat_lt (greatest xs) x ≡ test → first_greatest (xs ++ x ∷ []) ≡ cond test (length xs) (first_greatest xs)
  by_test true is = first_greatest-new xs x (grind (arith, nat_tests))
  by_test false is = first_greatest-old xs x (grind (arith, nat_tests))

-- the last eight of the last eight and one more are the last eight of all and one more
eight-next : (blocks : List Surveyed) (block : Surveyed)
    → drop (length (last_eight blocks ++ block ∷ []) - 8) (last_eight blocks ++ block ∷ []) ≡ last_eight (blocks ++ block ∷ [])
eight-next blocks block =
    let more = blocks ++ block ∷ [] in
    let from = length blocks - 8 in
    let size : length more ≡ length blocks + 1 = length-append blocks (block ∷ []) in
    ap (λ (part : List Surveyed). drop (length part - 8) part) (sym (drop-append-le from blocks (block ∷ []) (omega arith)))
    ∙ drop-drop (length (drop from more) - 8) from more
    ∙ ap (λ n. drop n more) (omega (arith, length-drop from more))

-- the window of eight moves on by one
window-next : (blocks : List Surveyed) (block : Surveyed) (window : List ℕ) → window ≡ map pi_of (last_eight blocks)
    → drop (length (window ++ block.pi ∷ []) - 8) (window ++ block.pi ∷ []) ≡ map pi_of (last_eight (blocks ++ block ∷ []))
window-next blocks block window is =
    let part = last_eight blocks ++ block ∷ [] in
    let joined : window ++ block.pi ∷ [] ≡ map pi_of part =
    ap (λ w. w ++ block.pi ∷ []) is ∙ sym (map-append pi_of (last_eight blocks) (block ∷ [])) in
    ap (λ (w : List ℕ). drop (length w - 8) w) joined
    ∙ ap (λ n. drop (n - 8) (map pi_of part)) (length-map part pi_of)
    ∙ drop-map pi_of (length part - 8) part
    ∙ ap (map pi_of) (eight-next blocks block)

-- a window of eight after one more block
pub window-moved : (blocks : List Surveyed) (block : Surveyed) (window items : List ℕ) (capacity : ℕ) → capacity ≡ 8
    → window ≡ map pi_of (last_eight blocks) → items ≡ drop (length (window ++ block.pi ∷ []) - capacity) (window ++ block.pi ∷ [])
    → items ≡ map pi_of (last_eight (blocks ++ block ∷ []))
window-moved blocks block window items capacity eight is items_are =
    let more = window ++ block.pi ∷ [] in
    items_are ∙ ap (λ n. drop (length more - n) more) eight ∙ window-next blocks block window is

-- the sum of the window is that of the last block and the seven before it
pub window-summed : (blocks : List Surveyed) (items : List ℕ) (k : ℕ) → k + 1 ≡ length blocks → items ≡ map pi_of (last_eight blocks)
    → sum items ≡ sum8 blocks k
window-summed blocks items k last is = ap sum is ∙ sum-map pi_of (last_eight blocks) ∙ sym (sum8-last blocks k last)

-- the block at the end is the last
slice_get-end : (blocks : List Surveyed) (block : Surveyed) → slice_get (blocks ++ block ∷ []) (length blocks) ≡ Some block
slice_get-end [] block = refl
slice_get-end (other ∷ blocks) block = slice_get-end blocks block

-- as a survey names it
pub last-is : (blocks : List Surveyed) (block : Surveyed) → slice_get (blocks ++ block ∷ []) (length (blocks ++ block ∷ []) - 1) ≡ Some block
last-is blocks block =
    let size : length (blocks ++ block ∷ []) ≡ length blocks + 1 = length-append blocks (block ∷ []) in
    ap (slice_get (blocks ++ block ∷ [])) (omega arith) ∙ slice_get-end blocks block

-- a sum of one more
sum_by-next : {X : Type 0} (f : X → ℕ) (xs : List X) (x : X) → sum_by f xs + f x ≡ sum_by f (xs ++ x ∷ [])
sum_by-next f xs x = ap (λ n. sum_by f xs + n) (sym (zero-add (f x))) ∙ sym (sum_by-append f xs (x ∷ []))

-- all the totals of one block more
pub totals-next : (totals : Totals) (blocks : List Surveyed) (block : Surveyed) (eight peak_at : ℕ) → totals ≡ totals_of blocks
    → eight ≡ sum8 (blocks ++ block ∷ []) (length blocks)
    → peak_at ≡ cond (nat_lt totals.peak eight) totals.blocks totals.peak_at
    → record {
      blocks = totals.blocks + 1;
      pi = totals.pi + block.pi;
      failed = totals.failed + block.failed;
      damaged = totals.damaged + cond (is_some block.cause) 1 0;
      peak = max totals.peak eight;
      peak_at = peak_at;
      over = totals.over + cond (nat_lt 280 eight) 1 0;
    } ≡ totals_of (blocks ++ block ∷ [])
unfolding totals_of
totals-next totals blocks block eight peak_at is eight_is at_is =
    let more = blocks ++ block ∷ [] in
    let sums = sums8 blocks in
    let sums_are : sums8 more ≡ sums ++ eight ∷ [] = sums8-next blocks block ∙ ap (λ s. sums ++ s ∷ []) (sym eight_is) in
    let size : length sums ≡ length blocks = length-map-range_with_len (sum8 blocks) 0 (length blocks) in
    let blocks_are : totals.blocks + 1 ≡ length more = ap (λ (t : Totals). t.blocks + 1) is ∙ sym (length-append blocks (block ∷ [])) in
    let pi_is : totals.pi + block.pi ≡ sum_by pi_of more =
    ap (λ (t : Totals). t.pi + block.pi) is ∙ sum_by-next pi_of blocks block in
    let failed_is : totals.failed + block.failed ≡ sum_by (λ (b : Surveyed). b.failed) more =
    ap (λ (t : Totals). t.failed + block.failed) is ∙ sum_by-next (λ (b : Surveyed). b.failed) blocks block in
    let damaged_is : totals.damaged + cond (is_some block.cause) 1 0 ≡ count_by (λ (b : Surveyed). is_some b.cause) more =
    ap (λ (t : Totals). t.damaged + cond (is_some block.cause) 1 0) is
    ∙ sum_by-next (λ (b : Surveyed). cond (is_some b.cause) 1 0) blocks block in
    let peak_is : max totals.peak eight ≡ greatest (sums8 more) =
    ap (λ (t : Totals). max t.peak eight) is ∙ sym (greatest-next sums eight) ∙ ap greatest (sym sums_are) in
    let peak_at_is : peak_at ≡ first_greatest (sums8 more) =
    at_is ∙ ap (λ (t : Totals). cond (nat_lt t.peak eight) t.blocks t.peak_at) is
    ∙ ap (λ n. cond (nat_lt (greatest sums) eight) n (first_greatest sums)) (sym size)
    ∙ sym (first_greatest-next sums eight) ∙ ap first_greatest (sym sums_are) in
    let over_is : totals.over + cond (nat_lt 280 eight) 1 0 ≡ count_by (nat_lt 280) (sums8 more) =
    ap (λ (t : Totals). t.over + cond (nat_lt 280 eight) 1 0) is
    ∙ sum_by-next (λ s. cond (nat_lt 280 s) 1 0) sums eight ∙ ap (count_by (nat_lt 280)) (sym sums_are) in
    rw (blocks_are, pi_is, failed_is, damaged_is, peak_is, peak_at_is, over_is) refl

-- the number of blocks among them
pub totals-blocks : (blocks : List Surveyed) → (totals_of blocks).blocks ≡ length blocks
unfolding totals_of
totals-blocks blocks = refl

-- the line of the last block
pub last_line-is : (entry : BlockPlan) (blocks : List Surveyed) (block : Surveyed) (n eight : ℕ) → n ≡ length blocks
    → slice_get blocks (length blocks - 1) ≡ Some block → eight ≡ sum8 blocks (length blocks - 1)
    → surveyed_line (n - 1) entry block eight ≡ survey_line (length blocks - 1) entry blocks
unfolding survey_line
last_line-is entry blocks block n eight count last eight_is =
    let k = length blocks - 1 in
    ap (λ m. surveyed_line (m - 1) entry block eight) count
    ∙ ap (λ b. surveyed_line k entry b eight) (sym (get_or_from_slice_get blocks k block clean last))
    ∙ ap (surveyed_line k entry (get_or blocks k clean)) eight_is
