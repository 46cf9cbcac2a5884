-- Failed rows to whose answers bytes are added, so that columns of the answers' bytes are codewords.
use Rattle.std.proofs.Common.{◌≡◌, ◌∙◌, ◌≢◌, ℕ, zero, suc, ◌+◌, ◌<◌, ◌≤◌, ◌⊎◌, inl, inr, Bool, true, false, List, [], ◌∷◌, All, length, length-set, map, get_or, set, slice_index, refl, sym, ap, subst, arith, Some, None, is_none, is_some}
use Rattle.std.specs.declared.option.Option.{Option}
use Rattle.std.proofs.lemmas.Bool.{cases_eq}
use Rattle.std.proofs.lemmas.List.{get_or_default, get_or-set_same, get_or-set_other, length-map, map-set, set-get_or}
use Rattle.coding.specs.Field.{alpha, power}
use Rattle.coding.specs.Filling.{marked}
use Rattle.coding.specs.Nearest.{near_of}
use Rattle.coding.specs.Product.{column}
use Rattle.coding.specs.TwoPass.{column_answer, failed_of}
use Rattle.coding.specs.Words.{IsByte, IsCodeword, value}
use Rattle.rs_decode.specs.declared.errors.Fix.{Fix}
use Rattle.rs_decode.specs.Patches.{patched, place_of_mark}
use Rattle.rs_decode.proofs.Fillings.{AgreeUnmarked-patched}
use Rattle.rs_decode.proofs.NearSearch.{near_of-some}
use Rattle.rs_decode.proofs.OneNear.{filling_near}
use Rattle.dvd_capture.specs.declared.parts.AnswerRow.{AnswerRow}
use Rattle.dvd_capture.specs.declared.parts.ColumnAnswer.{ColumnAnswer}
use Rattle.dvd_read.specs.Inner.Standing.{AreOwnFrom}
use Rattle.dvd_read.specs.Parts.{AreColumnsFrom, AreSameAnswers, answer_by, answer_bytes, answer_word, column_word}
use Rattle.dvd_read.proofs.Holding.{column-at, same-words}
use Rattle.dvd_read.proofs.MarkedColumns.{marked-answer, own-marked}
use Rattle.dvd_read.proofs.RowAnswers.{blank_answer}
use Rattle.dvd_read.proofs.Standing.{failed-at, length-answer_bytes}

-- ---- a failed row's answer with other bytes

-- the mark at the place of a mark is set
marked-there : (marks : List Bool) (i : ℕ) → i < marked marks → get_or marks (place_of_mark marks i) false ≡ true
unfolding place_of_mark marked
marked-there [] i below = absurd (omega arith)
marked-there (true ∷ marks) zero below = refl
marked-there (true ∷ marks) (suc i) below = marked-there marks i (omega arith)
marked-there (false ∷ marks) i below = marked-there marks i (omega arith)

-- an answer without a word has no fix
unfixed : (fix : Option Fix) (bytes : List ℕ) → is_none (answer_by fix bytes) ≡ true → is_some fix ≡ false
unfixed None bytes none = refl
unfixed (Some fix) bytes none = cc

-- so the row at the place of a mark has failed
pub failed-there : (answers : List AnswerRow) (marks : List Bool) (i r : ℕ) → length answers ≡ 208 → length marks ≡ 208 → marks ≡ failed_of (map answer_word answers) → i < marked marks
    → r ≡ place_of_mark marks i → r < 208 → is_some (get_or answers r blank_answer).fix ≡ false
failed-there answers marks i r size marks_size are below here inside =
    let answer : AnswerRow = get_or answers r blank_answer in
    unfixed answer.fix answer.bytes
    (sym (failed-at answers r blank_answer (omega arith)) ∙ ap (λ (flags : List Bool). get_or flags r false) (sym are)
    ∙ ap (λ (n : ℕ). get_or marks n false) here ∙ marked-there marks i below)

-- an answer with other bytes
abbrev pub with_bytes : AnswerRow → List ℕ → AnswerRow
with_bytes answer bytes = record { bytes = bytes; fix = answer.fix }

-- answers are the same where a failed row has other bytes
pub same-with : (first answers : List AnswerRow) (r : ℕ) (blank : AnswerRow) (bytes : List ℕ) → AreSameAnswers first answers → r < length answers → is_some (get_or first r blank_answer).fix ≡ false
    → AreSameAnswers first (set answers r (with_bytes (get_or answers r blank) bytes))
same-with first answers r blank bytes same inside failed = record {
  size = length-set answers r (with_bytes (get_or answers r blank) bytes) ∙ same.size;
  fixes = λ k d. fixes k d (cases_eq k r);
  bytes = λ k d answered. kept k d answered (cases_eq k r);
} where
  new : List AnswerRow
  new = set answers r (with_bytes (get_or answers r blank) bytes)

  fixes : (k : ℕ) (d : AnswerRow) → (k ≡ r) ⊎ (k ≢ r) → (get_or new k d).fix ≡ (get_or first k d).fix
  fixes k d (inl is) =
      ap (λ (n : ℕ). (get_or new n d).fix) is
      ∙ ap (λ (answer : AnswerRow). answer.fix) (get_or-set_same answers r (with_bytes (get_or answers r blank) bytes) d inside)
      ∙ ap (λ (answer : AnswerRow). answer.fix) (get_or_default answers r blank d inside)
      ∙ same.fixes r d ∙ ap (λ (n : ℕ). (get_or first n d).fix) (sym is)
  fixes k d (inr other) = ap (λ (answer : AnswerRow). answer.fix) (get_or-set_other answers r k (with_bytes (get_or answers r blank) bytes) d other) ∙ same.fixes k d

  kept : (k : ℕ) (d : AnswerRow) → is_some (get_or first k d).fix ≡ true → (k ≡ r) ⊎ (k ≢ r) → (get_or new k d).bytes ≡ (get_or first k d).bytes
  kept k d answered (inl is) =
      let none : is_some (get_or first k d).fix ≡ false =
      ap (λ (n : ℕ). is_some (get_or first n d).fix) is
      ∙ ap (λ (answer : AnswerRow). is_some answer.fix) (get_or_default first r d blank_answer (omega (arith, inside, same.size))) ∙ failed in
      absurd (cc)
  kept k d answered (inr other) =
      ap (λ (answer : AnswerRow). answer.bytes) (get_or-set_other answers r k (with_bytes (get_or answers r blank) bytes) d other) ∙ same.bytes k d answered

-- byte r of a column is in row r, whatever would be read of a row that isn't there
pub column-byte : (answers : List AnswerRow) (r j : ℕ) (blank : AnswerRow) → r < length answers → get_or (column (answer_bytes answers) j) r 0 ≡ slice_index (get_or answers r blank).bytes j
column-byte answers r j blank inside =
    column-at answers r j inside ∙ ap (λ (answer : AnswerRow). slice_index answer.bytes j) (get_or_default answers r blank_answer blank inside)

-- a column then has the byte of this row
pub column-with : (answers : List AnswerRow) (r j : ℕ) (blank : AnswerRow) (bytes : List ℕ)
    → column (answer_bytes (set answers r (with_bytes (get_or answers r blank) bytes))) j ≡ set (column (answer_bytes answers) j) r (slice_index bytes j)
column-with answers r j blank bytes =
    ap (map (λ (row : List ℕ). slice_index row j)) (map-set (λ (answer : AnswerRow). answer.bytes) answers r (with_bytes (get_or answers r blank) bytes))
    ∙ map-set (λ (row : List ℕ). slice_index row j) (answer_bytes answers) r bytes

-- and is as it was where this byte is
pub column-same : (answers : List AnswerRow) (r j : ℕ) (blank : AnswerRow) (bytes : List ℕ) → r < length answers → slice_index bytes j ≡ slice_index (get_or answers r blank).bytes j
    → column (answer_bytes (set answers r (with_bytes (get_or answers r blank) bytes))) j ≡ column (answer_bytes answers) j
column-same answers r j blank bytes inside same =
    column-with answers r j blank bytes
    ∙ ap (set (column (answer_bytes answers) j) r) (same ∙ sym (column-byte answers r j blank inside))
    ∙ set-get_or (column (answer_bytes answers) j) r 0

-- ---- columns that are completed

-- a column of 208 answers' bytes has 208
pub column-long : (answers : List AnswerRow) (j : ℕ) → length answers ≡ 208 → length (column (answer_bytes answers) j) ≡ 208
column-long answers j size = length-map (answer_bytes answers) (λ row. slice_index row j) ∙ length-answer_bytes answers ∙ size

-- a column that is a codeword is what the second pass answers to it
pub codeword-completed : (answers : List AnswerRow) (j : ℕ) → length answers ≡ 208 → marked (failed_of (map answer_word answers)) ≤ 16
    → IsCodeword 208 16 (column (answer_bytes answers) j) → column_answer (map answer_word answers) j ≡ Some (column (answer_bytes answers) j)
codeword-completed answers j size few codeword =
    sym (marked-answer answers j size)
    ∙ own-marked 208 16 (column (answer_bytes answers) j) (failed_of (map answer_word answers)) (omega arith)
    (length-map (map answer_word answers) is_none ∙ length-map answers answer_word ∙ size) few codeword

-- and so is one that bytes of failed rows complete
pub patched-completed : (old new : List AnswerRow) (j : ℕ) (marks : List Bool) (bytes : List ℕ) → length old ≡ 208 → length new ≡ 208 → AreSameAnswers old new
    → marks ≡ failed_of (map answer_word old) → length marks ≡ 208 → marked marks ≤ 16 → All IsByte (column (answer_bytes new) j)
    → column (answer_bytes new) j ≡ patched (column (answer_bytes old) j) marks bytes
    → ((k : ℕ) → k < 16 → value (patched (column (answer_bytes old) j) marks bytes) (power alpha k) ≡ 0)
    → column_answer (map answer_word new) j ≡ Some (column (answer_bytes new) j)
patched-completed old new j marks bytes size new_size same are marks_size few all is vanishes =
    let before : List ℕ = column (answer_bytes old) j in
    let after : List ℕ = column (answer_bytes new) j in
    ap (λ (words : List (Option (List ℕ))). column_answer words j) (same-words old new same)
    ∙ sym (marked-answer old j size)
    ∙ ap (near_of 208 16 before) (sym are)
    ∙ near_of-some 208 16 before after marks (omega arith)
    (filling_near 208 16 before marks after (column-long old j size) marks_size record {
      codeword = record {
        size = column-long new j new_size;
        bytes = all;
        vanishes = λ k below. ap (λ (word : List ℕ). value word (power alpha k)) is ∙ vanishes k below;
      };
      agrees = subst (λ (word : List ℕ). (k : ℕ) → k < length marks → get_or marks k false ≡ false → slice_index word k ≡ slice_index before k) (sym is)
          (AgreeUnmarked-patched before marks bytes (column-long old j size ∙ sym marks_size));
      within = few;
    })

-- columns that have the bytes of completed ones, and are noted as answered, are answered
pub completed-answered : (answers : List AnswerRow) (columns : List ColumnAnswer) → length columns ≡ 182
    → ((j : ℕ) → j < 182 → column_answer (map answer_word answers) j ≡ Some (column (answer_bytes answers) j))
    → AreOwnFrom answers 0 columns → ((j : ℕ) (default : ColumnAnswer) → j < length columns → (get_or columns j default).answered ≡ true)
    → AreColumnsFrom (map answer_word answers) 0 columns
completed-answered answers columns size completed own answered = record {
  are = λ j d within.
      let found : ColumnAnswer = get_or columns j d in
      word-by found.answered found.bytes (answered j d within)
      ∙ ap Some (own.are j d within)
      ∙ sym (completed (0 + j) (omega (arith, within)));
} where
  word-by : (flag : Bool) (bytes : List ℕ) → flag ≡ true → column_word (record { bytes = bytes; answered = flag }) ≡ Some bytes
  word-by true bytes is = refl
  word-by false bytes is = cc
