-- Rows and columns that are their own answers, and blocks whose columns correct no row that was answered.
use Rattle.std.proofs.Common.{◌≡◌, ◌∙◌, ℕ, zero, suc, ◌+◌, ◌<◌, ◌≤◌, ◌==◌, Bool, true, false, if◌then◌else◌, MatchOption, List, [], ◌∷◌, length, map, get_or, replicate, slice_index, refl, sym, ap, subst, arith, Some, None, is_none, is_some}
use Rattle.std.specs.declared.option.Option.{Option}
use Rattle.std.proofs.lemmas.Bool.Decides.{nat_tests}
use Rattle.std.proofs.lemmas.List.{get_or-map, length-map, length-replicate}
use Rattle.std.proofs.lemmas.Grind.{same_number_lists}
use Rattle.coding.specs.Words.{IsCodeword, IsNear}
use Rattle.coding.specs.Distance.{distance}
use Rattle.rs_decode.specs.Errors.{error_count}
use Rattle.coding.specs.Filling.{marked}
use Rattle.coding.specs.Nearest.{near_of, vanishes_at_all}
use Rattle.rs_decode.specs.declared.errors.Fix.{Fix}
use Rattle.rs_decode.proofs.Counting.{IsNear-from_counts, error_count-self}
use Rattle.rs_decode.proofs.NearSearch.{codeword-vanishes}
use Rattle.coding.specs.Product.{column, line}
use Rattle.dvd_capture.specs.Answers.{IsAnswer, IsFix, marks_line}
use Rattle.dvd_capture.specs.Rule.{HasAnswers}
use Rattle.dvd_capture.specs.Works.{answers_of_work, marks_of_work, rows_of, stage_of}
use Rattle.dvd_capture.specs.declared.work.Work.{Work}
use Rattle.dvd_capture.proofs.WorkParts.{marks-width}
use Rattle.coding.specs.TwoPass.{failed_of, from_columns}
use Rattle.dvd_capture.specs.declared.parts.AnswerRow.{AnswerRow}
use Rattle.dvd_capture.specs.declared.parts.ColumnAnswer.{ColumnAnswer}
use Rattle.dvd_capture.proofs.Columns.{from_columns-line}
use Rattle.dvd_read.specs.Parts.{AreKeptFrom, answer_by, answer_word, answer_bytes}
use Rattle.dvd_read.specs.Inner.Found.{words_of_columns}
use Rattle.dvd_read.specs.Inner.Standing.{AreCodewords, AreRowsKept}
use Rattle.dvd_read.proofs.ColumnAnswers.{blank_column}
use Rattle.dvd_read.proofs.RowAnswers.{blank_answer, row_fixed}

-- ---- a codeword

-- a row of clear marks has none that is set
pub marked-clear : (n : ℕ) → marked (replicate n false) ≡ 0
unfolding marked
marked-clear zero = refl
marked-clear (suc n) = let rest = marked-clear n in omega (arith, rest)

-- a codeword is near itself, as long as no more places are marked than it has parity bytes
pub near-itself : (n r : ℕ) (word : List ℕ) (marks : List Bool) → length marks ≡ n → marked marks ≤ r → IsCodeword n r word → IsNear n r word marks word
near-itself n r word marks size few codeword =
    IsNear-from_counts n r word word marks codeword codeword.size size (omega (arith, few, error_count-self word marks))

-- so without marks it is its own answer
pub own-row : (row : List ℕ) (answer : AnswerRow) → IsCodeword 182 10 row → answer.bytes ≡ row → answer.fix ≡ Some (record { errors = 0; erased = 0 })
    → IsAnswer row (replicate 182 false) answer
own-row row answer codeword bytes_are fix_is =
    row_fixed row row (replicate 182 false) (record { errors = 0; erased = 0 }) answer (near-itself 182 10 row (replicate 182 false) (length-replicate 182 false) (omega (arith, marked-clear 182)) codeword)
    (sym (error_count-self row (replicate 182 false))) (sym (marked-clear 182)) bytes_are fix_is

-- ---- a row where nothing is marked

-- a fix that was found says what was corrected
pub fix-told : (row word : List ℕ) (marks : List Bool) (found : Option Fix) (fix : Fix) → found ≡ Some fix
    → MatchOption found (near_of 182 10 row marks ≡ None) (IsFix row marks word) → IsFix row marks word fix
fix-told row word marks found fix is said =
    subst (λ (f : Option Fix). MatchOption f (near_of 182 10 row marks ≡ None) (IsFix row marks word)) is said

-- a first place is an error exactly where it differs
counted-step : (x y rest more : ℕ) → rest ≡ more → (if y == x then 0 else 1) + rest ≡ (if x == y then 0 else 1) + more
counted-step x y rest more same = grind (arith, nat_tests)

-- a word without marks has an error at each place where it differs from what was received
errors-differ : (row word : List ℕ) (marks : List Bool) → length row ≤ length marks → marked marks ≡ 0
    → error_count row word marks ≡ distance row word
unfolding distance error_count marked
errors-differ [] word marks within clear = refl
errors-differ (x ∷ row) [] marks within clear = refl
errors-differ (x ∷ row) (y ∷ word) [] within clear = absurd (omega arith)
errors-differ (x ∷ row) (y ∷ word) (true ∷ marks) within clear = absurd (omega (arith, clear))
errors-differ (x ∷ row) (y ∷ word) (false ∷ marks) within clear =
    counted-step x y (error_count row word marks) (distance row word) (errors-differ row word marks (omega arith) (omega (arith, clear)))

-- a row of which no place is marked differs from its answer where an error was corrected
pub errors-counted : (row : List ℕ) (marks : List Bool) (answer : AnswerRow) (fix : Fix) → length row ≡ length marks
    → answer.fix ≡ Some fix → fix.erased ≡ 0 → IsAnswer row marks answer → fix.errors ≡ distance row answer.bytes
errors-counted row marks answer fix size is erased said =
    let fixed : IsFix row marks answer.bytes fix = fix-told row answer.bytes marks answer.fix fix is said in
    fixed.1 ∙ errors-differ row answer.bytes marks (omega (arith, size)) (sym fixed.2 ∙ erased)

-- ---- rows that were answered

-- an answer that isn't missing is its bytes
pub answered-by : (fix : Option Fix) (bytes : List ℕ) → is_some fix ≡ true → answer_by fix bytes ≡ Some bytes
answered-by None bytes answered = cc
answered-by (Some fix) bytes answered = refl

-- where no answer is missing there is a fix
fix-by : (fix : Option Fix) (bytes : List ℕ) → is_none (answer_by fix bytes) ≡ false → is_some fix ≡ true
fix-by None bytes answered = cc
fix-by (Some fix) bytes answered = refl

-- the mark of row i says whether it has an answer
pub failed-at : (answers : List AnswerRow) (i : ℕ) (d : AnswerRow) → i < length answers
    → get_or (failed_of (map answer_word answers)) i false ≡ is_none (answer_word (get_or answers i d))
failed-at answers i d within =
    get_or-map is_none (map answer_word answers) i None false (rw length-map within)
    ∙ ap is_none (get_or-map answer_word answers i d None within)

-- a row that was answered isn't marked
pub unmarked-at : (answers : List AnswerRow) (i : ℕ) (d : AnswerRow) → i < length answers → is_some (get_or answers i d).fix ≡ true
    → get_or (failed_of (map answer_word answers)) i false ≡ false
unmarked-at answers i d within answered =
    failed-at answers i d within ∙ ap is_none (answered-by (get_or answers i d).fix (get_or answers i d).bytes answered)

-- and one that isn't marked was answered
answered-at : (answers : List AnswerRow) (i : ℕ) (d : AnswerRow) → i < length answers → get_or (failed_of (map answer_word answers)) i false ≡ false
    → is_some (get_or answers i d).fix ≡ true
answered-at answers i d within clear = fix-by (get_or answers i d).fix (get_or answers i d).bytes (sym (failed-at answers i d within) ∙ clear)

-- its bytes are a codeword
answered-codeword : (answers : List AnswerRow) (i : ℕ) (d : AnswerRow) → i < 208 → AreCodewords answers → is_some (get_or answers i d).fix ≡ true
    → IsCodeword 182 10 (get_or answers i d).bytes
answered-codeword answers i d below codewords answered =
    codewords i d (get_or answers i d).bytes below (answered-by (get_or answers i d).fix (get_or answers i d).bytes answered)

-- the bytes of an answer
abbrev bytes : AnswerRow → List ℕ
bytes answer = answer.bytes

-- row i of the answers' bytes is those of answer i
pub get_or-answer_bytes : (answers : List AnswerRow) (i : ℕ) → i < length answers → line (answer_bytes answers) i ≡ (get_or answers i blank_answer).bytes
get_or-answer_bytes answers i within = get_or-map bytes answers i blank_answer [] within

-- the answers' bytes are as many rows as there are answers
pub length-answer_bytes : (answers : List AnswerRow) → length (answer_bytes answers) ≡ length answers
length-answer_bytes answers = length-map answers bytes

-- once the bytes of all rows are copied, they are the column
pub column-copied : (answers : List AnswerRow) (j : ℕ) (word : List ℕ) → length answers ≡ 208 → length word ≡ 208
    → ((k : ℕ) → k < 208 → get_or word k 0 ≡ get_or (line (answer_bytes answers) k) j 0)
    → word ≡ column (answer_bytes answers) j
column-copied answers j word size word_size copied =
    same_number_lists word (map (λ row. slice_index row j) (answer_bytes answers))
    (word_size ∙ sym (length-map (answer_bytes answers) (λ row. slice_index row j) ∙ length-answer_bytes answers ∙ size))
    (λ k within.
    let inside : k < length (answer_bytes answers) = omega (arith, length-answer_bytes answers) in
    copied k (omega arith) ∙ sym (get_or-map (λ (row : List ℕ). slice_index row j) (answer_bytes answers) k [] 0 inside))

-- ---- blocks whose columns correct no row that was answered

-- such a block has these rows' answers
pub rows-kept : (answers : List AnswerRow) (columns : List ColumnAnswer) → length answers ≡ 208 → length columns ≡ 182 → AreCodewords answers
    → AreKeptFrom answers 0 columns → AreRowsKept answers (from_columns (words_of_columns columns))
rows-kept answers columns size columns_size codewords kept i d below answered =
    let word : ColumnAnswer → List ℕ = λ column. column.bytes in
    let words : List (List ℕ) = words_of_columns columns in
    let rows : List (List ℕ) = answer_bytes answers in
    let inside : i < length answers = omega arith in
    let inside_rows : i < length rows = omega (arith, length-answer_bytes answers) in
    let width : length (get_or answers i d).bytes ≡ 182 = (answered-codeword answers i d below codewords answered).size in
    let height : length (failed_of (map answer_word answers)) ≡ 208 = length-map (map answer_word answers) is_none ∙ length-map answers answer_word ∙ size in
    from_columns-line words i below
    ∙ same_number_lists (map (λ w. slice_index w i) words) (get_or answers i d).bytes
    (length-map words (λ w. slice_index w i) ∙ length-map columns word ∙ columns_size ∙ sym width)
    (λ j within_row.
    let inside_words : j < length words = subst (λ n. j < n) (length-map words (λ w. slice_index w i)) within_row in
    let inside_columns : j < length columns = subst (λ n. j < n) (length-map columns word) inside_words in
    get_or-map (λ w. slice_index w i) words j [] 0 inside_words
    ∙ ap (λ (w : List ℕ). slice_index w i) (get_or-map word columns j blank_column [] inside_columns)
    ∙ kept.are j blank_column inside_columns i (omega (arith, height)) (unmarked-at answers i d inside answered)
    ∙ get_or-map (λ row. slice_index row (0 + j)) rows i [] 0 inside_rows
    ∙ ap (λ (row : List ℕ). slice_index row (0 + j)) (get_or-map bytes answers i d [] inside)
    ∙ ap (λ n. slice_index (get_or answers i d).bytes n) {x = 0 + j} (omega arith))

-- and they vanish
pub kept-vanish : (answers : List AnswerRow) (block : List (List ℕ)) (i : ℕ) → length answers ≡ 208 → AreCodewords answers → AreRowsKept answers block → i < 208
    → get_or (failed_of (map answer_word answers)) i false ≡ false → vanishes_at_all 10 (line block i) ≡ true
kept-vanish answers block i size codewords kept below clear =
    let answered = answered-at answers i blank_answer (omega arith) clear in
    ap (vanishes_at_all 10) (kept i blank_answer below answered)
    ∙ codeword-vanishes 182 10 (get_or answers i blank_answer).bytes (answered-codeword answers i blank_answer below codewords answered)

-- ---- what is counted

-- what is counted of row i of a captured block
pub row-counted : (work : Work) (i : ℕ) (row : List ℕ) (default : AnswerRow) (block : List (List ℕ)) (count : ℕ) → i < 208 → HasAnswers (stage_of work)
    → row ≡ line (rows_of work) i
    → ((marks : List Bool) → length marks ≡ 182 → IsAnswer row marks (get_or (answers_of_work work) i default) → count ≡ distance row (line block i))
    → count ≡ distance (line (rows_of work) i) (line block i)
row-counted work i row default block count below stage is counted =
    let answers : List AnswerRow = answers_of_work work in
    let marks : List Bool = marks_line (marks_of_work work) i in
    let width : length marks ≡ 182 = marks-width work.marks i below in
    let said : IsAnswer row marks (get_or answers i default) = subst (λ (r : List ℕ). IsAnswer r marks (get_or answers i default)) (sym is) (work.answered stage i default below) in
    counted marks width said ∙ ap (λ (r : List ℕ). distance r (line block i)) is
