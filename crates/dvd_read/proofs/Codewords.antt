-- What is found as near is a codeword, however long what was received is.
use Rattle.std.proofs.Common.{◌≡◌, ◌∙◌, ℕ, Bool, true, nat_lt, List, get_or, sym, Some}
use Rattle.std.proofs.lemmas.Bool.{and_parts, eqb-true, ltb-true}
use Rattle.std.proofs.lemmas.List.Sums.{AllPass-from_list_all}
use Rattle.coding.specs.Words.{IsCodeword}
use Rattle.coding.specs.Nearest.{all_words, is_near, near_of}
use Rattle.rs_decode.proofs.NearSearch.{find-some, vanishing-codeword}
use Rattle.dvd_capture.specs.Answers.{AreAnswers, marks_line}
use Rattle.dvd_capture.specs.declared.parts.AnswerRow.{AnswerRow}
use Rattle.coding.specs.Product.{line}
use Rattle.dvd_read.specs.Inner.Standing.{AreCodewords}
use Rattle.dvd_read.proofs.RowAnswers.{answer_word-is}

-- a word that passes the test of nearness is a codeword
codeword-passes : (n r : ℕ) (received word : List ℕ) (marks : List Bool) → is_near n r received marks word ≡ true → IsCodeword n r word
unfolding is_near
codeword-passes n r received word marks passes =
    let cheap = and_parts _ _ passes in
    let vanishing = and_parts _ _ cheap.0 in
    let sized = and_parts _ _ vanishing.0 in
    vanishing-codeword n r word (eqb-true _ _ sized.0)
    (λ k d within. ltb-true _ _ (AllPass-from_list_all (λ byte. nat_lt byte 256) word sized.1 k d within)) vanishing.1

-- the near codeword that is found is a codeword
pub near_of-codeword : (n r : ℕ) (received word : List ℕ) (marks : List Bool) → near_of n r received marks ≡ Some word → IsCodeword n r word
unfolding near_of
near_of-codeword n r received word marks found =
    codeword-passes n r received word marks (find-some (is_near n r received marks) (all_words n) word found)

-- so the answers of the first pass are codewords
pub answers-codewords : (received : List (List ℕ)) (marks : List (List Bool)) (answers : List AnswerRow) → AreAnswers received marks answers → AreCodewords answers
answers-codewords received marks answers are i default word below is =
    near_of-codeword 182 10 (line received i) word (marks_line marks i)
    (sym (answer_word-is (line received i) (marks_line marks i) (get_or answers i default) (are i default below)) ∙ is)
