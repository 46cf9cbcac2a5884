-- Rows' answers that have the bytes of columns, and answers of failed rows whose bytes are set.
use Rattle.std.proofs.Common.{◌≡◌, ◌∙◌, ℕ, ◌+◌, ◌<◌, Bool, true, false, MatchOption, List, [], length, map, get_or, slice_index, refl, sym, ap, subst, arith, Some, None, is_none, is_some}
use Rattle.std.specs.declared.option.Option.{Option}
use Rattle.std.proofs.lemmas.List.{get_or-map, ext_get_or, get_or_default, length-map}
use Rattle.std.proofs.lemmas.Grind.{same_number_lists}
use Rattle.coding.specs.Nearest.{near_of}
use Rattle.coding.specs.Product.{column, line}
use Rattle.coding.specs.TwoPass.{from_columns}
use Rattle.rs_decode.specs.declared.errors.Fix.{Fix}
use Rattle.dvd_capture.proofs.Columns.{from_columns-line}
use Rattle.dvd_capture.specs.Answers.{IsFix, marks_line}
use Rattle.dvd_capture.specs.Parts.{answer_rows, column_answers}
use Rattle.dvd_capture.specs.Works.{answers_of_work, block_of}
use Rattle.dvd_capture.specs.declared.parts.AnswerRow.{AnswerRow}
use Rattle.dvd_capture.specs.declared.parts.Answers.{Answers}
use Rattle.dvd_capture.specs.declared.parts.ColumnAnswer.{ColumnAnswer}
use Rattle.dvd_capture.specs.declared.parts.Columns.{Columns}
use Rattle.dvd_capture.specs.declared.work.Work.{Work}
use Rattle.dvd_read.specs.Inner.Found.{words_of_columns}
use Rattle.dvd_read.specs.Inner.Standing.{AreOwnFrom}
use Rattle.dvd_read.specs.Parts.{AreAnswersFrom, AreColumnsHeld, AreKeptFrom, AreRowsHeld, AreSameAnswers, answer_by, answer_bytes, answer_word}
use Rattle.dvd_read.proofs.ColumnAnswers.{blank_column}
use Rattle.dvd_read.proofs.RowAnswers.{blank_answer}
use Rattle.dvd_read.proofs.Standing.{get_or-answer_bytes, length-answer_bytes, unmarked-at}

-- ---- bytes of rows and of columns

-- byte i of a column of the answers' bytes is in row i
pub column-at : (answers : List AnswerRow) (i j : ℕ) → i < length answers → get_or (column (answer_bytes answers) j) i 0 ≡ slice_index (get_or answers i blank_answer).bytes j
column-at answers i j within =
    get_or-map (λ (row : List ℕ). slice_index row j) (answer_bytes answers) i [] 0 (omega (arith, within, length-answer_bytes answers))
    ∙ ap (λ (row : List ℕ). slice_index row j) (get_or-answer_bytes answers i within)

-- byte j of a row of the columns' words is in column j
pub row-at : (columns : List ColumnAnswer) (i j : ℕ) → i < 208 → j < length columns
    → get_or (line (from_columns (words_of_columns columns)) i) j 0 ≡ slice_index (get_or columns j blank_column).bytes i
row-at columns i j below within =
    let bytes : ColumnAnswer → List ℕ = λ column. column.bytes in
    ap (λ (row : List ℕ). get_or row j 0) (from_columns-line (words_of_columns columns) i below)
    ∙ get_or-map (λ (word : List ℕ). slice_index word i) (words_of_columns columns) j [] 0 (omega (arith, within, length-map columns bytes))
    ∙ ap (λ (word : List ℕ). slice_index word i) (get_or-map bytes columns j blank_column [] within)

-- ---- answers that hold columns

-- columns of the answers' bytes are held
pub own-held : (answers : List AnswerRow) (columns : List ColumnAnswer) → length answers ≡ 208 → length columns ≡ 182 → AreOwnFrom answers 0 columns → AreColumnsHeld answers columns
own-held answers columns size columns_size own = record {
  are = λ i j row d below under.
      let here : 0 + j ≡ j = omega arith in
      ap (λ (word : List ℕ). slice_index word i) (own.are j d (omega arith))
      ∙ ap (λ (n : ℕ). get_or (column (answer_bytes answers) n) i 0) here
      ∙ column-at answers i j (omega arith)
      ∙ ap (λ (answer : AnswerRow). slice_index answer.bytes j) (get_or_default answers i blank_answer row (omega arith));
}

-- columns that are held keep the rows that were answered
pub held-kept : (answers : List AnswerRow) (columns : List ColumnAnswer) → length answers ≡ 208 → length columns ≡ 182 → AreColumnsHeld answers columns → AreKeptFrom answers 0 columns
held-kept answers columns size columns_size held = record {
  are = λ j d within i inside clear.
      let below : i < 208 = omega (arith, inside, length-map (map answer_word answers) is_none, length-map answers answer_word) in
      let here : j ≡ 0 + j = omega arith in
      held.are i j blank_answer d below (omega arith) ∙ sym (column-at answers i j (omega arith)) ∙ ap (λ (n : ℕ). get_or (column (answer_bytes answers) n) i 0) here;
}

-- and the answers hold the block of these columns
pub held-rows : (answers : List AnswerRow) (columns : List ColumnAnswer) → length columns ≡ 182 → AreColumnsHeld answers columns → AreRowsHeld answers (from_columns (words_of_columns columns))
held-rows answers columns size held i j d below under = row-at columns i j below (omega arith) ∙ held.are i j d blank_column below under

-- row i of the answers' bytes, where these hold the block
pub held-line : (answers : List AnswerRow) (block : List (List ℕ)) (i : ℕ) → length answers ≡ 208 → i < 208 → length (line (answer_bytes answers) i) ≡ 182 → length (line block i) ≡ 182
    → AreRowsHeld answers block → line (answer_bytes answers) i ≡ line block i
held-line answers block i size below width block_width held =
    same_number_lists (line (answer_bytes answers) i) (line block i) (width ∙ sym block_width)
    (λ j within. ap (λ (row : List ℕ). get_or row j 0) (get_or-answer_bytes answers i (omega arith)) ∙ sym (held i j blank_answer below (omega arith)))

-- ---- the same answers, but for bytes of failed rows

-- answers are the same as themselves
pub same-self : (answers : List AnswerRow) → AreSameAnswers answers answers
same-self answers = record { size = refl; fixes = λ i d. refl; bytes = λ i d answered. refl }

-- answers that are the same as others have their sameness
pub same-then : (first second third : List AnswerRow) → AreSameAnswers first second → AreSameAnswers second third → AreSameAnswers first third
same-then first second third one other = record {
  size = other.size ∙ one.size;
  fixes = λ i d. other.fixes i d ∙ one.fixes i d;
  bytes = λ i d answered. other.bytes i d (ap is_some (one.fixes i d) ∙ answered) ∙ one.bytes i d answered;
}

-- a word by the same fix, and the same bytes where there is one
word-same : (fix : Option Fix) (old new : List ℕ) → (is_some fix ≡ true → new ≡ old) → answer_by fix new ≡ answer_by fix old
word-same None old new same = refl
word-same (Some fix) old new same = ap Some (same refl)

-- so the words are the same
pub same-words : (old new : List AnswerRow) → AreSameAnswers old new → map answer_word new ≡ map answer_word old
same-words old new same =
    ext_get_or None (map answer_word new) (map answer_word old) (length-map new answer_word ∙ same.size ∙ sym (length-map old answer_word))
    (λ i within.
    let inside : i < length new = omega (arith, within, length-map new answer_word) in
    let before : AnswerRow = get_or old i blank_answer in
    let after : AnswerRow = get_or new i blank_answer in
    get_or-map answer_word new i blank_answer None inside
    ∙ ap (λ (fix : Option Fix). answer_by fix after.bytes) (same.fixes i blank_answer)
    ∙ word-same before.fix before.bytes after.bytes (same.bytes i blank_answer)
    ∙ sym (get_or-map answer_word old i blank_answer None (omega (arith, inside, same.size))))

-- the bytes of a failed row's answer don't count
filled-answer : (row word other : List ℕ) (marks : List Bool) (fix : Option Fix) → (is_some fix ≡ true → other ≡ word)
    → MatchOption fix (near_of 182 10 row marks ≡ None) (IsFix row marks word) → MatchOption fix (near_of 182 10 row marks ≡ None) (IsFix row marks other)
filled-answer row word other marks None same said = said
filled-answer row word other marks (Some fix) same said = subst (λ (w : List ℕ). IsFix row marks w fix) (sym (same refl)) said

-- so they are those of the first pass still
pub same-answers : (received : List (List ℕ)) (marks : List (List Bool)) (old new : List AnswerRow) → AreSameAnswers old new → AreAnswersFrom received marks 0 old → AreAnswersFrom received marks 0 new
same-answers received marks old new same from = record {
  are = λ i d within.
      let row = line received (0 + i) in
      let flags = marks_line marks (0 + i) in
      subst (λ (f : Option Fix). MatchOption f (near_of 182 10 row flags ≡ None) (IsFix row flags (get_or new i d).bytes)) (sym (same.fixes i d))
      (filled-answer row (get_or old i d).bytes (get_or new i d).bytes flags (get_or old i d).fix (same.bytes i d) (from.are i d (omega (arith, within, same.size))));
}

-- where columns keep the rows that were answered, and failed rows have the columns' bytes, the answers hold the columns
pub filled-held : (old new : List AnswerRow) (columns : List ColumnAnswer) → length old ≡ 208 → length columns ≡ 182 → AreSameAnswers old new → AreKeptFrom old 0 columns
    → ((i : ℕ) (default : AnswerRow) → i < length old → i < 208 → is_some (get_or old i default).fix ≡ false
    → (get_or new i default).bytes ≡ line (from_columns (words_of_columns columns)) i)
    → AreColumnsHeld new columns
filled-held old new columns size columns_size same kept filled = record { are = λ i j row d below under. by i j row d below under (is_some (get_or old i row).fix) refl } where
  by : (i j : ℕ) (row : AnswerRow) (d : ColumnAnswer) → i < 208 → j < 182 → (is : Bool) → is_some (get_or old i row).fix ≡ is
      → slice_index (get_or columns j d).bytes i ≡ slice_index (get_or new i row).bytes j
  by i j row d below under true is =
      let here : 0 + j ≡ j = omega arith in
      kept.are j d (omega arith) i (omega (arith, below, size, length-map (map answer_word old) is_none, length-map old answer_word)) (unmarked-at old i row (omega arith) is)
      ∙ ap (λ (n : ℕ). get_or (column (answer_bytes old) n) i 0) here
      ∙ column-at old i j (omega arith)
      ∙ ap (λ (answer : AnswerRow). slice_index answer.bytes j) (get_or_default old i blank_answer row (omega arith))
      ∙ ap (λ (bytes : List ℕ). slice_index bytes j) (sym (same.bytes i row is))
  by i j row d below under false is =
      ap (λ (column : ColumnAnswer). slice_index column.bytes i) (get_or_default columns j d blank_column (omega arith))
      ∙ sym (row-at columns i j below (omega arith)) ∙ ap (λ (bytes : List ℕ). get_or bytes j 0) (sym (filled i row (omega arith) below is))

-- a captured block whose answers hold the columns holds them while both stay
pub held-in : (old new : Work) → new.answers ≡ old.answers → new.columns ≡ old.columns → AreColumnsHeld (answers_of_work old) (column_answers old.columns)
    → AreRowsHeld (answers_of_work new) (block_of new)
held-in old new answers columns held =
    subst (λ (a : Answers). AreRowsHeld (answer_rows a) (block_of new)) (sym answers)
    (subst (λ (c : Columns). AreRowsHeld (answers_of_work old) (from_columns (words_of_columns (column_answers c)))) (sym columns)
    (held-rows (answers_of_work old) (column_answers old.columns) (omega (arith, old.columns.size, old.columns.all.ok.0)) held))
