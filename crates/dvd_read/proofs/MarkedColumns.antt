-- Columns of the rows' answers whose failed rows are marked: the bytes that are at marked places don't count.
use Rattle.std.proofs.Common.{◌≡◌, ◌∙◌, ℕ, ◌<◌, ◌≤◌, Bool, false, if◌then◌else◌, List, [], length, map, get_or, slice_index, All, refl, sym, ap, subst, arith, Some, None, is_none}
use Rattle.std.specs.declared.option.Option.{Option}
use Rattle.std.proofs.lemmas.List.{get_or-map, length-map}
use Rattle.coding.specs.Field.{alpha, power}
use Rattle.coding.specs.Words.{IsByte, IsCodeword, value}
use Rattle.coding.specs.Filling.{AgreeUnmarked, marked}
use Rattle.rs_decode.specs.declared.errors.Fix.{Fix}
use Rattle.coding.specs.Nearest.{near_of}
use Rattle.rs_decode.proofs.Counting.{counts-from_near}
use Rattle.rs_decode.proofs.NearSearch.{near_of-alike, near_of-some, none-near_of}
use Rattle.coding.specs.Product.{column}
use Rattle.coding.specs.TwoPass.{answer_column, byte_or_zero, column_answer, failed_of}
use Rattle.dvd_capture.specs.declared.parts.AnswerRow.{AnswerRow}
use Rattle.dvd_capture.specs.declared.parts.ColumnAnswer.{ColumnAnswer}
use Rattle.dvd_read.specs.Parts.{answer_by, answer_word, answer_bytes, column_word}
use Rattle.dvd_read.proofs.RowAnswers.{blank_answer}
use Rattle.dvd_read.proofs.Standing.{get_or-answer_bytes, length-answer_bytes, near-itself}

-- a codeword is the near codeword of itself, as long as no more places are marked than it has parity bytes
pub own-marked : (n r : ℕ) (word : List ℕ) (marks : List Bool) → n ≤ 255 → length marks ≡ n → marked marks ≤ r → IsCodeword n r word
    → near_of n r word marks ≡ Some word
own-marked n r word marks short size few codeword = near_of-some n r word word marks short (near-itself n r word marks size few codeword)

-- a column of bytes whose values vanish is a codeword
pub column_vanishes : (answers : List AnswerRow) (j : ℕ) → length answers ≡ 208 → All IsByte (column (answer_bytes answers) j)
    → ((k : ℕ) → k < 16 → value (column (answer_bytes answers) j) (power alpha k) ≡ 0) → IsCodeword 208 16 (column (answer_bytes answers) j)
column_vanishes answers j size bytes vanishes = record {
  size = length-map (answer_bytes answers) (λ row. slice_index row j) ∙ length-answer_bytes answers ∙ size;
  bytes = bytes;
  vanishes = vanishes;
}

-- an answer that isn't missing has the byte that is in its place
byte_answered : (fix : Option Fix) (bytes : List ℕ) (j : ℕ) → is_none (answer_by fix bytes) ≡ false → slice_index bytes j ≡ byte_or_zero j (answer_by fix bytes)
byte_answered None bytes j answered = cc
byte_answered (Some fix) bytes j answered = refl

-- the bytes that are in the rows' places are those of the answers but where a row failed
bytes-agree : (answers : List AnswerRow) (j : ℕ) → AgreeUnmarked (failed_of (map answer_word answers)) (answer_column (map answer_word answers) j) (column (answer_bytes answers) j)
unfolding answer_column
bytes-agree answers j k within clear =
    let words : List (Option (List ℕ)) = map answer_word answers in
    let inside_words : k < length words = subst (λ n. k < n) (length-map words is_none) within in
    let inside : k < length answers = subst (λ n. k < n) (length-map answers answer_word) inside_words in
    let inside_bytes : k < length (answer_bytes answers) = subst (λ n. k < n) (sym (length-answer_bytes answers)) inside in
    let answer : AnswerRow = get_or answers k blank_answer in
    let word : get_or words k None ≡ answer_word answer = get_or-map answer_word answers k blank_answer None inside in
    get_or-map (λ (row : List ℕ). slice_index row j) (answer_bytes answers) k [] 0 inside_bytes
    ∙ ap (λ (row : List ℕ). slice_index row j) (get_or-answer_bytes answers k inside)
    ∙ byte_answered answer.fix answer.bytes j (ap is_none (sym word) ∙ sym (get_or-map is_none words k None false inside_words) ∙ clear)
    ∙ ap (byte_or_zero j) (sym word)
    ∙ sym (get_or-map (byte_or_zero j) words k None 0 inside_words)

-- so the column of these bytes, with the failed rows marked, has the answer of the second pass
pub marked-answer : (answers : List AnswerRow) (j : ℕ) → length answers ≡ 208
    → near_of 208 16 (column (answer_bytes answers) j) (failed_of (map answer_word answers)) ≡ column_answer (map answer_word answers) j
unfolding answer_column
marked-answer answers j size =
    let words : List (Option (List ℕ)) = map answer_word answers in
    sym (near_of-alike 208 16 (answer_column words j) (column (answer_bytes answers) j) (failed_of words)
    (length-map words (byte_or_zero j) ∙ length-map answers answer_word ∙ sym (length-map (answer_bytes answers) (λ row. slice_index row j) ∙ length-answer_bytes answers))
    (bytes-agree answers j))

-- where more than sixteen rows failed, no column has an answer
pub many-unanswered : (answers : List AnswerRow) (j : ℕ) → length answers ≡ 208 → 16 < marked (failed_of (map answer_word answers))
    → column_answer (map answer_word answers) j ≡ None
unfolding answer_column
many-unanswered answers j size many =
    let words : List (Option (List ℕ)) = map answer_word answers in
    let words_size : length words ≡ 208 = length-map answers answer_word ∙ size in
    none-near_of 208 16 (answer_column words j) (failed_of words) (length-map words (byte_or_zero j) ∙ words_size) (length-map words is_none ∙ words_size)
    (λ word near. let counts = counts-from_near 208 16 (answer_column words j) word (failed_of words) near in absurd (omega arith))

-- a column whose flag isn't set has no answer
pub unanswered_word : (column : ColumnAnswer) → column.answered ≡ false → column_word column ≡ None
unanswered_word column clear = ap (λ (flag : Bool). if flag then Some column.bytes else None) clear
