-- What is near a received word, and what fills its marked places: one codeword at most.
use Rattle.std.proofs.Common.{◌≡◌, ℕ, suc, ◌+◌, ◌*◌, ◌≤◌, List, [], ◌∷◌, Bool, true, false, ◌==◌, length, if◌then◌else◌, refl, sym, ap, ◌∙◌, arith}
use Rattle.std.proofs.lemmas.Bool.Decides.{nat_tests}
use Rattle.coding.specs.Words.{cost}
use Rattle.coding.specs.Distance.{distance}
use Rattle.rs_code.proofs.Distance.{IsCodeword-close}
use Rattle.coding.specs.Filling.{AgreeUnmarked, marked}
use Rattle.rs_decode.specs.Laws.{NearCodewordIsOnlyOne, FillingIsOnlyOne, FillingIsNear}

-- at a marked place two words cost one each, whether or not they differ there
marked_costs : (x y d first second : ℕ) → 2 * d ≤ first + second → 2 * ((if x == y then 0 else 1) + d) ≤ 1 + first + (1 + second)
marked_costs x y d first second rest = grind (arith, nat_tests)

-- two words that differ at an unmarked place can't both be free of cost there
unmarked_costs : (x y got d first second : ℕ) → 2 * d ≤ first + second
    → 2 * ((if x == y then 0 else 1) + d) ≤ (if x == got then 0 else 2) + first + ((if y == got then 0 else 2) + second)
unmarked_costs x y got d first second rest = grind (arith, nat_tests)

-- where two words differ, they cost at least two together
distance-cost : (a b received : List ℕ) (marks : List Bool)
    → length a ≡ length received
    → length b ≡ length received
    → length marks ≡ length received
    → 2 * distance a b ≤ cost a received marks + cost b received marks
unfolding distance cost
distance-cost [] b received marks a_size b_size marks_size = omega arith
distance-cost (x ∷ a) [] received marks a_size b_size marks_size = omega arith
distance-cost (x ∷ a) (y ∷ b) [] marks a_size b_size marks_size = absurd (omega arith)
distance-cost (x ∷ a) (y ∷ b) (got ∷ received) [] a_size b_size marks_size = absurd (omega arith)
distance-cost (x ∷ a) (y ∷ b) (got ∷ received) (true ∷ marks) a_size b_size marks_size =
    marked_costs x y _ _ _ (distance-cost a b received marks (omega arith) (omega arith) (omega arith))
distance-cost (x ∷ a) (y ∷ b) (got ∷ received) (false ∷ marks) a_size b_size marks_size =
    unmarked_costs x y got _ _ _ (distance-cost a b received marks (omega arith) (omega arith) (omega arith))

-- at most one codeword is near a received word
pub near_once : NearCodewordIsOnlyOne
near_once n r received marks a b short near_a near_b =
    let apart = distance-cost a b received marks (near_a.codeword.size ∙ sym near_a.received_size) (near_b.codeword.size ∙ sym near_b.received_size) (near_a.marks_size ∙ sym near_a.received_size) in
    IsCodeword-close n r a b short near_a.codeword near_b.codeword (omega (arith, near_a.within, near_b.within))

-- words that agree at all unmarked places agree after the first place too
agree-rest : (mark : Bool) (marks : List Bool) (x y : ℕ) (a b : List ℕ) → AgreeUnmarked (mark ∷ marks) (x ∷ a) (y ∷ b) → AgreeUnmarked marks a b
agree-rest mark marks x y a b agree k below clear = agree (suc k) (omega arith) clear

-- a place where two words agree adds nothing
same_cost : (x y more d : ℕ) → x ≡ y → (if x == y then 0 else more) + d ≡ d
same_cost x y more d same = grind (arith, nat_tests)

-- words that agree at all unmarked places differ in no more places than are marked
pub distance-unmarked : (a b : List ℕ) (marks : List Bool) → length a ≡ length marks → length b ≡ length marks → AgreeUnmarked marks a b → distance a b ≤ marked marks
unfolding distance marked
distance-unmarked [] b marks a_size b_size agree = omega arith
distance-unmarked (x ∷ a) [] marks a_size b_size agree = omega arith
distance-unmarked (x ∷ a) (y ∷ b) [] a_size b_size agree = absurd (omega arith)
distance-unmarked (x ∷ a) (y ∷ b) (true ∷ marks) a_size b_size agree =
    let rest : distance a b ≤ marked marks = distance-unmarked a b marks (omega arith) (omega arith) (agree-rest true marks x y a b agree) in
    grind (arith, nat_tests, rest)
distance-unmarked (x ∷ a) (y ∷ b) (false ∷ marks) a_size b_size agree =
    let rest : distance a b ≤ marked marks = distance-unmarked a b marks (omega arith) (omega arith) (agree-rest false marks x y a b agree) in
    omega (arith, same_cost x y 1 (distance a b) (sym (agree 0 (omega arith) refl)))

-- at most one codeword agrees with a received word at all unmarked places
pub filling_once : FillingIsOnlyOne
filling_once n r received marks a b short marks_size filling_a filling_b =
    let agree : AgreeUnmarked marks a b = λ k below clear. filling_b.agrees k below clear ∙ sym (filling_a.agrees k below clear) in
    let few = distance-unmarked a b marks (filling_a.codeword.size ∙ sym marks_size) (filling_b.codeword.size ∙ sym marks_size) agree in
    IsCodeword-close n r a b short filling_a.codeword filling_b.codeword (omega (arith, filling_a.within))

-- a word that agrees at all unmarked places costs one for each marked place
cost-unmarked : (word received : List ℕ) (marks : List Bool) → length word ≡ length marks → length received ≡ length marks
    → AgreeUnmarked marks received word → cost word received marks ≡ marked marks
unfolding cost marked
cost-unmarked [] received [] size received_size agree = refl
cost-unmarked [] received (mark ∷ marks) size received_size agree = absurd (omega arith)
cost-unmarked (x ∷ word) [] marks size received_size agree = absurd (omega arith)
cost-unmarked (x ∷ word) (got ∷ received) [] size received_size agree = absurd (omega arith)
cost-unmarked (x ∷ word) (got ∷ received) (true ∷ marks) size received_size agree =
    ap (λ n. 1 + n) (cost-unmarked word received marks (omega arith) (omega arith) (agree-rest true marks got x received word agree))
cost-unmarked (x ∷ word) (got ∷ received) (false ∷ marks) size received_size agree =
    let rest : cost word received marks ≡ marked marks = cost-unmarked word received marks (omega arith) (omega arith) (agree-rest false marks got x received word agree) in
    omega (arith, same_cost x got 2 (cost word received marks) (agree 0 (omega arith) refl))

-- a word costs the same against words that agree at all unmarked places
pub cost-alike : (word received other : List ℕ) (marks : List Bool) → length received ≡ length other → AgreeUnmarked marks received other
    → cost word received marks ≡ cost word other marks
unfolding cost
cost-alike [] received other marks size agree = refl
cost-alike (byte ∷ word) [] [] marks size agree = refl
cost-alike (byte ∷ word) [] (new ∷ other) marks size agree = absurd (omega arith)
cost-alike (byte ∷ word) (got ∷ received) [] marks size agree = absurd (omega arith)
cost-alike (byte ∷ word) (got ∷ received) (new ∷ other) [] size agree = refl
cost-alike (byte ∷ word) (got ∷ received) (new ∷ other) (true ∷ marks) size agree =
    ap (λ n. 1 + n) (cost-alike word received other marks (omega arith) (agree-rest true marks got new received other agree))
cost-alike (byte ∷ word) (got ∷ received) (new ∷ other) (false ∷ marks) size agree =
    ap (λ x. (if byte == x then 0 else 2) + cost word received marks) (sym (agree 0 (omega arith) refl))
    ∙ ap (λ n. (if byte == new then 0 else 2) + n) (cost-alike word received other marks (omega arith) (agree-rest false marks got new received other agree))

-- a codeword that agrees at all unmarked places, where at most r are marked, is near
pub filling_near : FillingIsNear
filling_near n r received marks word received_size marks_size filling = record {
  codeword = filling.codeword;
  received_size = received_size;
  marks_size = marks_size;
  within = omega (arith, filling.within, cost-unmarked word received marks (filling.codeword.size ∙ sym marks_size) (received_size ∙ sym marks_size) filling.agrees);
}

-- what the laws of decoding rest on
pub ruleset laws = (near_once, filling_once, filling_near)
