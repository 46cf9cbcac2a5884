-- Rows of outer parity that are taken as they were received: they are codewords where all other rows are, and all
-- columns.
use Rattle.std.proofs.Common.{◌≡◌, ◌∙◌, ℕ, ◌+◌, ◌-◌, ◌<◌, ◌≤◌, ◌⊎◌, inl, inr, Bool, true, false, List, length, map, get_or, replicate, sym, ap, subst, arith, is_none, is_some, ◌++◌, take}
use Rattle.std.proofs.lemmas.Bool.{cases_lt}
use Rattle.std.proofs.lemmas.List.{length-map, length-replicate, get_or-replicate, get_or_default, same_lists, get_or-take, get_or_append_left, get_or-append_right, length-take-le}
use Rattle.coding.specs.Field.{alpha, power}
use Rattle.coding.specs.Words.{IsCodeword, value}
use Rattle.coding.specs.Product.{column, line}
use Rattle.coding.specs.TwoPass.{failed_of}
use Rattle.dvd_block.proofs.Linear.{rows_vanish}
use Rattle.dvd_capture.specs.Answers.{IsAnswer, marks_line}
use Rattle.dvd_capture.specs.declared.parts.AnswerRow.{AnswerRow}
use Rattle.dvd_capture.specs.declared.parts.ColumnAnswer.{ColumnAnswer}
use Rattle.dvd_read.specs.Inner.Standing.{AreAnswersBefore, AreColumnsOf, AreOwnFrom, AreAsReceivedBefore}
use Rattle.dvd_read.specs.Parts.{AreAnswersFrom, answer_word, answer_bytes}
use Rattle.dvd_read.proofs.Codewords.{near_of-codeword}
use Rattle.dvd_read.proofs.RowAnswers.{answer_word-is, blank_answer}
use Rattle.dvd_read.proofs.Standing.{answered-by, column-copied, get_or-answer_bytes, length-answer_bytes, unmarked-at}

-- where all rows are answered none is marked
pub none-failed : (answers : List AnswerRow) → length answers ≡ 208 → ((i : ℕ) (default : AnswerRow) → i < 208 → is_some (get_or answers i default).fix ≡ true)
    → failed_of (map answer_word answers) ≡ replicate 208 false
none-failed answers size answered =
    let height : length (failed_of (map answer_word answers)) ≡ 208 = length-map (map answer_word answers) is_none ∙ length-map answers answer_word ∙ size in
    same_lists (failed_of (map answer_word answers)) (replicate 208 false) (height ∙ sym (length-replicate 208 false))
    (λ i d within.
    let below : i < 208 = omega (arith, within, height) in
    get_or_default (failed_of (map answer_word answers)) i d false within
    ∙ unmarked-at answers i blank_answer (omega arith) (answered i blank_answer below) ∙ sym (get_or-replicate 208 i false d below))

-- So the rows of outer parity that were taken are answered by what they are.
pub taken-answered : (received : List (List ℕ)) (marks : List (List Bool)) (answers : List AnswerRow) → length answers ≡ 208
    → AreAnswersBefore received marks answers 192 → AreAsReceivedBefore received marks answers 208
    → ((j : ℕ) → j < 182 → IsCodeword 208 16 (column (answer_bytes answers) j))
    → AreAnswersFrom received marks 0 answers
taken-answered received marks answers size rows taken codewords = record { are = λ i d within. moved i d (each i d (omega arith) (cases_lt i 192)) } where
  block : List (List ℕ)
  block = answer_bytes answers

  answered : (i : ℕ) (default : AnswerRow) → i < 208 → is_some (get_or answers i default).fix ≡ true
  answered i default below = (taken i default below).answered

  -- row i of the answers' bytes
  line-is : (i : ℕ) → i < 208 → line block i ≡ (get_or answers i blank_answer).bytes
  line-is i below = get_or-answer_bytes answers i (omega arith)

  data-row : (i : ℕ) → i < 192 → IsCodeword 182 10 (line block i)
  data-row i before =
      let answer : AnswerRow = get_or answers i blank_answer in
      subst (IsCodeword 182 10) (sym (line-is i (omega arith)))
      (near_of-codeword 182 10 (line received i) answer.bytes (marks_line marks i)
      (sym (answer_word-is (line received i) (marks_line marks i) answer (rows i blank_answer before)) ∙ answered-by answer.fix answer.bytes (answered i blank_answer (omega arith))))

  wide : (i : ℕ) → i < 208 → length (line block i) ≡ 182
  wide i below = (let is = taken i blank_answer below in ap length (line-is i below ∙ is.bytes) ∙ is.width)

  vanish : (k : ℕ) → k < 10 → (i : ℕ) → i < 208 → value (line block i) (power alpha k) ≡ 0
  vanish k under =
      rows_vanish 182 208 16 (power alpha k) block (omega arith) (omega arith) (length-answer_bytes answers ∙ size) wide
      codewords (λ i before. (data-row i before).vanishes k under)

  each : (i : ℕ) (d : AnswerRow) → i < 208 → (i < 192) ⊎ (192 ≤ i) → IsAnswer (line received i) (marks_line marks i) (get_or answers i d)
  each i d below (inl before) = rows i d before
  each i d below (inr past) =
      let is = taken i blank_answer below in
      (taken i d below).right (λ k under. ap (λ (row : List ℕ). value row (power alpha k)) (sym (line-is i below ∙ is.bytes)) ∙ vanish k under i below)

  moved : (i : ℕ) (d : AnswerRow) → IsAnswer (line received i) (marks_line marks i) (get_or answers i d) → IsAnswer (line received (0 + i)) (marks_line marks (0 + i)) (get_or answers i d)
  moved i d is = subst (λ (n : ℕ). IsAnswer (line received n) (marks_line marks n) (get_or answers i d)) {y = 0 + i} (omega arith) is

-- where all rows are taken as they were received, columns of what was received are those of the answers
pub received-own : (received : List (List ℕ)) (marks : List (List Bool)) (answers : List AnswerRow) (columns : List ColumnAnswer) → length answers ≡ 208 → length columns ≡ 182
    → AreAsReceivedBefore received marks answers 208 → ((j : ℕ) (default : ColumnAnswer) → j < 182 → length (get_or columns j default).bytes ≡ 208) → AreColumnsOf received columns 208
    → AreOwnFrom answers 0 columns
received-own received marks answers columns size columns_size taken wide copied = record {
  are = λ j d within.
      let below : j < 182 = omega arith in
      let here : j ≡ 0 + j = omega arith in
      column-copied answers j (get_or columns j d).bytes size (wide j d below)
      (λ i under.
      let row : line (answer_bytes answers) i ≡ line received i =
      get_or-answer_bytes answers i (omega arith) ∙ (taken i blank_answer under).bytes in
      copied j i d below under ∙ ap (λ (l : List ℕ). get_or l j 0) (sym row))
      ∙ ap (column (answer_bytes answers)) here;
}

-- What is so of the first answers of a list and of those that are written after them is so of all of these.
pub written-after : (P : ℕ → AnswerRow → Type 0) (a : ℕ) (old piece new : List AnswerRow) → a ≤ length old → take (a + length piece) new ≡ take a old ++ piece
    → ((i : ℕ) (d : AnswerRow) → i < a → P i (get_or old i d)) → ((k : ℕ) (d : AnswerRow) → k < length piece → P (a + k) (get_or piece k d))
    → (i : ℕ) (d : AnswerRow) → i < a + length piece → P i (get_or new i d)
written-after P a old piece new within is before after i d below = by (cases_lt i a) where
  read : get_or new i d ≡ get_or (take a old ++ piece) i d
  read = sym (get_or-take (a + length piece) new i d below) ∙ ap (λ (l : List AnswerRow). get_or l i d) is

  by : (i < a) ⊎ (a ≤ i) → P i (get_or new i d)
  by (inl under) =
      subst (P i) (sym (read ∙ get_or_append_left (take a old) piece d i (omega (arith, length-take-le a old within)) ∙ get_or-take a old i d under)) (before i d under)
  by (inr past) =
      let here : a + (i - a) ≡ i = omega arith in
      subst (P i) (sym (read ∙ get_or-append_right (take a old) piece a i d (length-take-le a old within) past))
      (subst (λ (n : ℕ). P n (get_or piece (i - a) d)) here (after (i - a) d (omega arith)))

-- answers written after those of the rows before are, with these, the answers of all rows
pub all-answered : (received : List (List ℕ)) (marks : List (List Bool)) (a : ℕ) (old piece new : List AnswerRow) → a ≤ length old → take (a + length piece) new ≡ take a old ++ piece
    → length new ≡ a + length piece → AreAnswersBefore received marks old a → AreAnswersFrom received marks a piece → AreAnswersFrom received marks 0 new
all-answered received marks a old piece new within is size before after = record {
  are = λ i d below.
      let here : i ≡ 0 + i = omega arith in
      subst (λ (n : ℕ). IsAnswer (line received n) (marks_line marks n) (get_or new i d)) here
      (written-after (λ n answer. IsAnswer (line received n) (marks_line marks n) answer) a old piece new within is before after.are i d (omega (arith, below, size)));
}
