-- The errors counted place by place, and what a near codeword costs.
use Rattle.std.proofs.Common.{◌≡◌, ℕ, ◌+◌, ◌*◌, ◌<◌, ◌≤◌, Bool, true, false, not, ◌&&◌, ◌==◌, inl, inr, List, [], ◌∷◌, length, get_or, drop, if◌then◌else◌, refl, sym, ap, ◌∙◌, arith}
use Rattle.std.proofs.lemmas.List.{drop_all, drop_more}
use Rattle.std.proofs.lemmas.Bool.{cases_eq}
use mir.Val.{bool_byte}
use Rattle.std.proofs.lemmas.Bool.Decides.{nat_tests}
use Rattle.coding.specs.Words.{IsCodeword, IsNear}
use Rattle.rs_decode.specs.Errors.{error_count}
use Rattle.coding.specs.Filling.{marked}
use Rattle.rs_decode.proofs.ErrorsFound.{cost-parts}

-- one place's share
pub error_at : Bool → ℕ → ℕ → ℕ
error_at mark byte got = if mark then 0 else if byte == got then 0 else 1

-- the errors from a place on are that place's share and the errors after it
pub error_count-next : (received word : List ℕ) (marks : List Bool) (i : ℕ)
    → i < length marks
    → length received ≡ length marks
    → length word ≡ length marks
    → error_count (drop i received) (drop i word) (drop i marks) ≡ error_at (get_or marks i false) (get_or word i 0) (get_or received i 0) + error_count (drop (i + 1) received) (drop (i + 1) word) (drop (i + 1) marks)
unfolding error_count error_at
error_count-next received word marks i inside size_r size_w =
    rw (drop_more received i 0 (omega arith), drop_more word i 0 (omega arith), drop_more marks i false inside) refl

-- no places have no errors
error_count-no_marks : (received word : List ℕ) → error_count received word [] ≡ 0
unfolding error_count
error_count-no_marks [] word = refl
error_count-no_marks (got ∷ received) [] = refl
error_count-no_marks (got ∷ received) (byte ∷ word) = refl

-- past the last place there are no errors
pub error_count-end : (received word : List ℕ) (marks : List Bool) (n : ℕ) → length marks ≤ n → error_count (drop n received) (drop n word) (drop n marks) ≡ 0
error_count-end received word marks n past = rw (drop_all n marks past) (error_count-no_marks (drop n received) (drop n word))

-- a place's share is the number that the code adds
pub error_at-number : (mark : Bool) (byte got : ℕ) → bool_byte (not mark && not (byte == got)) ≡ error_at mark byte got
unfolding error_at
error_at-number true byte got = refl
error_at-number false byte got = elim (cases_eq byte got) [
  | inl same ↦ grind (arith, nat_tests)
  | inr differ ↦ grind (arith, nat_tests)
]

-- one place has one error at most
pub error_at-one : (mark : Bool) (byte got : ℕ) → error_at mark byte got ≤ 1
unfolding error_at
error_at-one true byte got = omega arith
error_at-one false byte got = grind (arith, nat_tests)

-- a byte that stayed is no error
error_same : (mark : Bool) (byte : ℕ) → error_at mark byte byte ≡ 0
unfolding error_at
error_same true byte = refl
error_same false byte = grind (arith, nat_tests)

-- against itself a word has no errors
pub error_count-self : (word : List ℕ) (marks : List Bool) → error_count word word marks ≡ 0
unfolding error_count error_at
error_count-self [] marks = refl
error_count-self (byte ∷ word) [] = refl
error_count-self (byte ∷ word) (mark ∷ marks) = ap (λ n. n + error_count word word marks) (error_same mark byte) ∙ omega (arith, error_count-self word marks)

-- a codeword is near that costs little enough
pub IsNear-from_counts : (n r : ℕ) (received word : List ℕ) (marks : List Bool)
    → IsCodeword n r word
    → length received ≡ n
    → length marks ≡ n
    → 2 * error_count received word marks + marked marks ≤ r
    → IsNear n r received marks word
IsNear-from_counts n r received word marks codeword size_r size_m few =
    let parts = cost-parts received word marks (size_r ∙ sym codeword.size) (size_m ∙ sym codeword.size) in
    record {
      codeword = codeword;
      received_size = size_r;
      marks_size = size_m;
      within = omega arith;
    }

-- and one that is near costs little enough
pub counts-from_near : (n r : ℕ) (received word : List ℕ) (marks : List Bool) → IsNear n r received marks word → 2 * error_count received word marks + marked marks ≤ r
counts-from_near n r received word marks near =
    let parts = cost-parts received word marks (near.received_size ∙ sym near.codeword.size) (near.marks_size ∙ sym near.codeword.size) in
    omega (arith, near.within)
