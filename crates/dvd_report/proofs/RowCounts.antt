-- The rows of a received block that have a PI error, by the answers to them.
use Rattle.std.proofs.Common.{◌≡◌, ◌≢◌, ◌∙◌, ℕ, ◌⊎◌, ◌↔◌, ◌+◌, ◌<◌, ◌≤◌, Bool, true, false, cond, not, ◌||◌, nat_lt, List, [], ◌∷◌, length, All, count_by, inl, inr, refl, sym, ap, subst, arith, Some, None, IfSome}
use mir.Val.{bool_byte}
use Rattle.std.specs.List.{list_any, range_with_len}
use Rattle.std.specs.declared.option.Option.{Option}
use Rattle.std.proofs.lemmas.Bool.{cases_lt, lt-ltb}
use Rattle.std.proofs.lemmas.Bool.Decides.{nat_tests}
use Rattle.coding.specs.Words.{IsByte}
use Rattle.rs_decode.specs.Errors.{error_count}
use Rattle.coding.specs.Filling.{marked}
use Rattle.coding.specs.Nearest.{near_of, vanishes_at_all}
use Rattle.rs_decode.specs.declared.errors.Fix.{Fix}
use Rattle.rs_decode.proofs.Counting.{error_count-self}
use Rattle.rs_decode.proofs.NearSearch.{codeword-vanishes, near_of-is_near, vanishing-codeword}
use Rattle.coding.specs.Product.{line}
use Rattle.dvd_capture.specs.Answers.{IsFix, marks_line}
use Rattle.dvd_read.proofs.MarkedColumns.{own-marked}
use Rattle.dvd_read.proofs.RowAnswers.{as_number}
use Rattle.dvd_read.proofs.SavedFrames.{count-next}
use Rattle.dvd_report.specs.Survey.{has_pi_error, pi_rows}

-- some place is marked where their number isn't 0
any_marked : (marks : List Bool) → list_any (λ mark. mark) marks ≡ nat_lt 0 (marked marks)
unfolding marked
any_marked [] = refl
any_marked (true ∷ marks) = grind (arith, nat_tests)
any_marked (false ∷ marks) = any_marked marks ∙ ap (nat_lt 0) (omega arith)

-- a codeword that is received without a mark is near itself
near-itself : (row : List ℕ) (marks : List Bool) → length row ≡ 182 → length marks ≡ 182 → All IsByte row → marked marks ≡ 0
    → vanishes_at_all 10 row ≡ true → near_of 182 10 row marks ≡ Some row
near-itself row marks size marks_size bytes none vanishes =
    own-marked 182 10 row marks (omega arith) marks_size (omega (arith, none)) (vanishing-codeword 182 10 row size bytes vanishes)

-- a row that has no near codeword has a PI error
pub failed-pi_error : (row : List ℕ) (marks : List Bool) → length row ≡ 182 → length marks ≡ 182 → All IsByte row
    → near_of 182 10 row marks ≡ None → true ≡ has_pi_error row marks
failed-pi_error row marks size marks_size bytes none =
    by_tests (nat_lt 0 (marked marks)) (vanishes_at_all 10 row) refl refl ∙ ap (λ some. some || not (vanishes_at_all 10 row)) (sym (any_marked marks))
  where
    -- by whether a place is marked, and whether the row passes the test
    by_tests : (some vanishes : Bool) → nat_lt 0 (marked marks) ≡ some → vanishes_at_all 10 row ≡ vanishes → true ≡ (nat_lt 0 (marked marks) || not (vanishes_at_all 10 row))
    by_tests true vanishes is vanishes_is = rw is refl
    by_tests false false is vanishes_is = rw (is, vanishes_is) refl
    by_tests false true is vanishes_is =
        let found : near_of 182 10 row marks ≡ Some row = near-itself row marks size marks_size bytes (grind (arith, nat_tests)) vanishes_is in
        cc

-- so has a row with a marked place
pub marked-pi_error : (row : List ℕ) (marks : List Bool) → 0 < marked marks → true ≡ has_pi_error row marks
marked-pi_error row marks some =
    let is : list_any (λ mark. mark) marks ≡ true = any_marked marks ∙ lt-ltb 0 (marked marks) some in
    rw is refl

-- a row without one has a PI error where the codeword near it is another word
pub unmarked-pi_error : (row word : List ℕ) (marks : List Bool) (same : Bool) → length row ≡ 182 → length marks ≡ 182 → All IsByte row → marked marks ≡ 0
    → near_of 182 10 row marks ≡ Some word → (true ≡ same → word ≡ row) → (false ≡ same → word ≢ row) → not same ≡ has_pi_error row marks
unmarked-pi_error row word marks same size marks_size bytes none found equal other =
    by_tests same (vanishes_at_all 10 row) refl refl ∙ ap (λ some. some || not (vanishes_at_all 10 row)) (sym unmarked)
  where
    -- no place is marked
    unmarked : list_any (λ mark. mark) marks ≡ false
    unmarked = any_marked marks ∙ ap (nat_lt 0) none

    -- by whether the word is the row, and whether the row passes the test
    by_tests : (test vanishes : Bool) → test ≡ same → vanishes_at_all 10 row ≡ vanishes → not same ≡ not (vanishes_at_all 10 row)
    by_tests true true is vanishes_is = ap not (sym is ∙ sym vanishes_is)
    by_tests false false is vanishes_is = ap not (sym is ∙ sym vanishes_is)
    by_tests true false is vanishes_is =
        let near = near_of-is_near 182 10 row word marks size marks_size found in
        let passes : vanishes_at_all 10 row ≡ true =
        subst (λ w. vanishes_at_all 10 w ≡ true) (equal is) (codeword-vanishes 182 10 word near.codeword) in
        cc
    by_tests false true is vanishes_is =
        let itself : near_of 182 10 row marks ≡ Some row = near-itself row marks size marks_size bytes none vanishes_is in
        let same_word : word ≡ row = cc in
        absurd (other is same_word)

-- without a mark and without an error the codeword is the row
no_errors : (row word : List ℕ) (marks : List Bool) → length row ≡ length marks → length word ≡ length marks → marked marks ≡ 0 → error_count row word marks ≡ 0 → word ≡ row
unfolding error_count marked
no_errors [] [] marks size word_size clear none = refl
no_errors [] (y ∷ word) marks size word_size clear none = absurd (omega (arith, size, word_size))
no_errors (x ∷ row) [] marks size word_size clear none = absurd (omega (arith, size, word_size))
no_errors (x ∷ row) (y ∷ word) [] size word_size clear none = absurd (omega (arith, size))
no_errors (x ∷ row) (y ∷ word) (true ∷ marks) size word_size clear none = absurd (omega (arith, clear))
no_errors (x ∷ row) (y ∷ word) (false ∷ marks) size word_size clear none =
    let same : y ≡ x = grind (arith, nat_tests, none) in
    ap (λ byte. byte ∷ word) same
    ∙ ap (λ rest. x ∷ rest) (no_errors row word marks (omega (arith, size)) (omega (arith, word_size)) (omega (arith, clear)) (grind (arith, nat_tests, none)))

-- an answered row has a PI error where a place is marked or corrected
fixed-pi_error : (row word : List ℕ) (marks : List Bool) (fix : Fix) → length row ≡ 182 → length marks ≡ 182 → All IsByte row → IsFix row marks word fix
    → nat_lt 0 (fix.errors + fix.erased) ≡ has_pi_error row marks
fixed-pi_error row word marks fix size marks_size bytes fixed = by_counts (cases_lt 0 fix.erased) (cases_lt 0 fix.errors) where
  by_counts : (0 < fix.erased) ⊎ (fix.erased ≤ 0) → (0 < fix.errors) ⊎ (fix.errors ≤ 0) → nat_lt 0 (fix.errors + fix.erased) ≡ has_pi_error row marks
  by_counts (inl erased) errors = lt-ltb 0 (fix.errors + fix.erased) (omega (arith, erased)) ∙ marked-pi_error row marks (omega (arith, erased, fixed.2))
  by_counts (inr clear) (inl errors) =
      lt-ltb 0 (fix.errors + fix.erased) (omega (arith, errors))
      ∙ unmarked-pi_error row word marks false size marks_size bytes (omega (arith, clear, fixed.2)) fixed.0 (λ no. cc)
      (λ _ same. absurd (
      let none : error_count row word marks ≡ 0 = ap (λ w. error_count row w marks) same ∙ error_count-self row marks in
      omega (arith, errors, fixed.1, none)))
  by_counts (inr clear) (inr right) =
      let unmarked : marked marks ≡ 0 = omega (arith, clear, fixed.2) in
      let near = near_of-is_near 182 10 row word marks size marks_size fixed.0 in
      grind (arith, nat_tests, clear, right)
      ∙ unmarked-pi_error row word marks true size marks_size bytes unmarked fixed.0
      (λ _. no_errors row word marks (size ∙ sym marks_size) (near.codeword.size ∙ sym marks_size) unmarked (omega (arith, right, fixed.1))) (λ no. cc)

-- what is found of a row by its answer is whether it has a PI error
pub flag-pi_error : (row : List ℕ) (marks : List Bool) (answer : Option Fix) (flag : Bool) → length row ≡ 182 → length marks ≡ 182 → All IsByte row
    → (answer ≡ None) ↔ (near_of 182 10 row marks ≡ None) → ((word : List ℕ) → near_of 182 10 row marks ≡ Some word → IfSome answer (IsFix row marks word))
    → (answer ≡ None → flag ≡ true) → IfSome answer (λ fix. flag ≡ nat_lt 0 (fix.errors + fix.erased)) → flag ≡ has_pi_error row marks
flag-pi_error row marks answer flag size marks_size bytes failed fixed of_none of_some = by_near (near_of 182 10 row marks) refl answer refl where
  by_near : (near : Option (List ℕ)) → near_of 182 10 row marks ≡ near → (found : Option Fix) → answer ≡ found → flag ≡ has_pi_error row marks
  by_near None near_is found found_is = of_none (failed.1 near_is) ∙ failed-pi_error row marks size marks_size bytes near_is
  by_near (Some word) near_is None found_is = absurd (let no : None ≡ Some word = sym (failed.0 found_is) ∙ near_is in cc)
  by_near (Some word) near_is (Some fix) found_is =
      subst (λ a. IfSome a (λ fix. flag ≡ nat_lt 0 (fix.errors + fix.erased))) found_is of_some
      ∙ fixed-pi_error row word marks fix size marks_size bytes (subst (λ a. IfSome a (IsFix row marks word)) found_is (fixed word near_is))

-- all 208 rows counted
pub pi_rows-counted : (rows : List (List ℕ)) (marks : List (List Bool)) (count n : ℕ) → n ≡ 208
    → count ≡ count_by (λ i. has_pi_error (line rows i) (marks_line marks i)) (range_with_len 0 n) → count ≡ pi_rows rows marks
unfolding pi_rows
pi_rows-counted rows marks count n all counted =
    counted ∙ ap (λ m. count_by (λ i. has_pi_error (line rows i) (marks_line marks i)) (range_with_len 0 m)) all

-- one more row counted
pub errors-next : (rows : List (List ℕ)) (marks : List (List Bool)) (i count one : ℕ) (flag : Bool)
    → count ≡ count_by (λ k. has_pi_error (line rows k) (marks_line marks k)) (range_with_len 0 i)
    → one ≡ bool_byte flag → flag ≡ has_pi_error (line rows i) (marks_line marks i)
    → count + one ≡ count_by (λ k. has_pi_error (line rows k) (marks_line marks k)) (range_with_len 0 (i + 1))
errors-next rows marks i count one flag counted one_is flag_is =
    let error : ℕ → Bool = λ k. has_pi_error (line rows k) (marks_line marks k) in
    ap (λ n. n + one) counted
    ∙ ap (λ n. count_by error (range_with_len 0 i) + n) (one_is ∙ as_number flag ∙ ap (λ b. cond b 1 0) flag_is)
    ∙ sym (count-next error i)
