-- The answer to one row, and the answers to all of them as words.
use Rattle.std.proofs.Common.{◌≡◌, ◌∙◌, ℕ, zero, suc, ◌+◌, ◌<◌, ◌≤◌, Bool, true, false, cond, List, [], ◌∷◌, length, map, get_or, refl, sym, ap, subst, arith, Some, None, is_none, MatchOption}
use mir.Val.{bool_byte}
use Rattle.std.specs.declared.option.Option.{Option}
use Rattle.std.proofs.lemmas.List.{get_or-map, ext_get_or, length-map}
use Rattle.coding.specs.Words.{IsNear}
use Rattle.rs_decode.specs.Errors.{error_count}
use Rattle.coding.specs.Filling.{marked}
use Rattle.coding.specs.Nearest.{near_of}
use Rattle.rs_decode.specs.declared.errors.Fix.{Fix}
use Rattle.rs_decode.proofs.Counting.{counts-from_near}
use Rattle.rs_decode.proofs.NearSearch.{near_of-some, none-near_of}
use Rattle.coding.specs.Product.{line}
use Rattle.dvd_capture.proofs.Columns.{length-answers_of}
use Rattle.dvd_capture.proofs.WorkParts.{marks-height, rows-height}
use Rattle.dvd_capture.specs.Answers.{AreAnswers, IsAnswer, IsFix, marks_line}
use Rattle.dvd_capture.specs.Parts.{marks_rows, received_rows}
use Rattle.dvd_capture.specs.declared.parts.Marks.{Marks}
use Rattle.dvd_capture.specs.declared.parts.Received.{Received}
use Rattle.coding.specs.TwoPass.{answers_of, failed_of}
use Rattle.dvd_capture.specs.declared.parts.AnswerRow.{AnswerRow}
use Rattle.dvd_read.specs.Parts.{AreAnswersFrom, answer_by, answer_word}

-- what is said of a row's answer by its fix
abbrev AnswerBy : List ℕ → List Bool → List ℕ → Option Fix → Type 0
AnswerBy row marks bytes fix = MatchOption fix (near_of 182 10 row marks ≡ None) (IsFix row marks bytes)

-- the near codeword and the counts of what it corrects are an answer to the row
pub row_fixed : (row word : List ℕ) (marks : List Bool) (fix : Fix) (answer : AnswerRow) → IsNear 182 10 row marks word
    → fix.errors ≡ error_count row word marks → fix.erased ≡ marked marks → answer.bytes ≡ word → answer.fix ≡ Some fix → IsAnswer row marks answer
row_fixed row word marks fix answer near errors erased bytes_are fix_is =
    let said : AnswerBy row marks word (Some fix) = (near_of-some 182 10 row word marks (omega arith) near, errors, erased) in
    subst (AnswerBy row marks answer.bytes) (sym fix_is) (subst (λ bytes. AnswerBy row marks bytes (Some fix)) (sym bytes_are) said)

-- with more than ten marks no codeword is near a row, whatever its bytes are
pub lost-none : (row : List ℕ) (marks : List Bool) → length row ≡ 182 → length marks ≡ 182 → 10 < marked marks → near_of 182 10 row marks ≡ None
lost-none row marks size marks_size many =
    none-near_of 182 10 row marks size marks_size (λ word near. absurd (omega (arith, many, counts-from_near 182 10 row word marks near)))

-- the word of an answer is what the first pass answers
word_by : (row bytes : List ℕ) (marks : List Bool) (fix : Option Fix) → AnswerBy row marks bytes fix → answer_by fix bytes ≡ near_of 182 10 row marks
word_by row bytes marks None is = sym is
word_by row bytes marks (Some fix) is = sym is.0

-- the word of an answer to a row is the codeword near it, or none
pub answer_word-is : (row : List ℕ) (marks : List Bool) (answer : AnswerRow) → IsAnswer row marks answer → answer_word answer ≡ near_of 182 10 row marks
answer_word-is row marks answer is = word_by row answer.bytes marks answer.fix is

-- answer i of the first pass is the codeword near row i, or none
pub get_or-answers_of : (received : List (List ℕ)) (marks : List (List Bool)) (i : ℕ) (d : Option (List ℕ)) → i < length received → i < length marks
    → get_or (answers_of received marks) i d ≡ near_of 182 10 (get_or received i []) (get_or marks i [])
unfolding answers_of
get_or-answers_of [] marks i d within marks_within = absurd (omega arith)
get_or-answers_of (row ∷ received) [] i d within marks_within = absurd (omega arith)
get_or-answers_of (row ∷ received) (mark ∷ marks) zero d within marks_within = refl
get_or-answers_of (row ∷ received) (mark ∷ marks) (suc i) d within marks_within = get_or-answers_of received marks i d (omega arith) (omega arith)

-- the answers to the first n rows from `start` on
abbrev pub AreAnswersBefore : List (List ℕ) → List (List Bool) → ℕ → List AnswerRow → ℕ → Type 0
AreAnswersBefore received marks start piece n =
    (k : ℕ) (d : AnswerRow) → k < n → IsAnswer (line received (start + k)) (marks_line marks (start + k)) (get_or piece k d)

-- the answers to all rows from the first on
pub answers-whole : (received : List (List ℕ)) (marks : List (List Bool)) (answers : List AnswerRow) → length answers ≡ 208
    → AreAnswersFrom received marks 0 answers → AreAnswers received marks answers
answers-whole received marks answers size from i d below =
    subst (λ (n : ℕ). IsAnswer (line received n) (marks_line marks n) (get_or answers i d)) {x = 0 + i} (omega arith) (from.are i d (omega (arith, below, size)))

-- the flags of the rows before row i
abbrev pub AreFlagsBefore : List AnswerRow → List Bool → ℕ → Type 0
AreFlagsBefore answers failed i = (k : ℕ) (d : AnswerRow) → k < i → get_or failed k false ≡ is_none (answer_word (get_or answers k d))

-- an answer without a fix has no word
pub flag-by : (bytes : List ℕ) (fix : Option Fix) → is_none fix ≡ is_none (answer_by fix bytes)
flag-by bytes None = refl
flag-by bytes (Some fix) = refl

-- an answer's word is missing where its fix is
pub flag-is : (answer : AnswerRow) → is_none answer.fix ≡ is_none (answer_word answer)
flag-is answer = flag-by answer.bytes answer.fix

-- an answer that isn't there
pub blank_answer : AnswerRow
blank_answer = record { bytes = []; fix = None }

-- once all rows are done, the flags are those of the rows that failed
pub flags-all : (answers : List AnswerRow) (failed : List Bool) → length answers ≡ 208 → length failed ≡ 208 → AreFlagsBefore answers failed 208
    → failed ≡ failed_of (map answer_word answers)
flags-all answers failed size failed_size flags =
    ext_get_or false failed (failed_of (map answer_word answers))
    (failed_size ∙ sym (length-map (map answer_word answers) is_none ∙ length-map answers answer_word ∙ size))
    (λ k within.
    let below : k < 208 = omega arith in
    let inside : k < length answers = omega arith in
    let inside_words : k < length (map answer_word answers) = rw length-map inside in
    flags k blank_answer below
    ∙ ap is_none (sym (get_or-map answer_word answers k blank_answer None inside))
    ∙ sym (get_or-map is_none (map answer_word answers) k None false inside_words))

-- the answers of all rows are those of the first pass
pub answers-are : (received : List (List ℕ)) (marks : List (List Bool)) (answers : List AnswerRow) → length received ≡ 208 → length marks ≡ 208 → length answers ≡ 208
    → AreAnswers received marks answers → map answer_word answers ≡ answers_of received marks
answers-are received marks answers size marks_size answers_size are =
    ext_get_or None (map answer_word answers) (answers_of received marks)
    (length-map answers answer_word ∙ answers_size ∙ sym (length-answers_of received marks 208 size marks_size))
    (λ k within.
    let inside : k < length answers = subst (λ n. k < n) (length-map answers answer_word) within in
    let below : k < 208 = omega arith in
    get_or-map answer_word answers k blank_answer None inside
    ∙ answer_word-is (line received k) (marks_line marks k) (get_or answers k blank_answer) (are k blank_answer below)
    ∙ sym (get_or-answers_of received marks k None (omega arith) (omega arith)))

-- a flag as a number is 1 where it is set and 0 elsewhere
pub as_number : (flag : Bool) → bool_byte flag ≡ cond flag 1 0
as_number true = refl
as_number false = refl

-- a flag counts at most one
pub flag_small : (flag : Bool) → cond flag 1 0 ≤ 1
flag_small true = omega arith
flag_small false = omega arith

-- the answers to the rows of a captured block are those of the first pass
pub block_answers : (received : Received) (marks : Marks) (answers : List AnswerRow) → length answers ≡ 208
    → AreAnswers (received_rows received) (marks_rows marks) answers → map answer_word answers ≡ answers_of (received_rows received) (marks_rows marks)
block_answers received marks answers size are =
    answers-are (received_rows received) (marks_rows marks) answers (rows-height received) (marks-height marks) size are

-- a captured block has 208 answers
pub length-block_answers : (received : Received) (marks : Marks) → length (answers_of (received_rows received) (marks_rows marks)) ≡ 208
length-block_answers received marks =
    length-answers_of (received_rows received) (marks_rows marks) 208 (rows-height received) (marks-height marks)
