-- The marks of answered columns, cleared row by row.
use Rattle.std.proofs.Common.{◌≡◌, ◌≢◌, ◌∙◌, ℕ, ◌+◌, ◌<◌, ◌≤◌, Bool, true, false, if◌then◌else◌, List, [], length, get_or, set, replicate, slice_index_or, inl, inr, refl, sym, ap, arith}
use Rattle.std.proofs.lemmas.Bool.{cases_eq}
use Rattle.std.proofs.lemmas.List.{get_or-replicate, get_or-set_same, get_or-set_other, length-set}
use Rattle.dvd_capture.specs.Answers.{marks_line}
use Rattle.dvd_deep.specs.Inner.Steps.{MarksListed, mark_left}
use Rattle.dvd_deep.specs.Rounds.{mark_in}

-- a row that isn't noted as marked has no mark
pub unmarked : (marks : List (List Bool)) (marked : List Bool) (i j : ℕ) → MarksListed marks marked → i < 208 → j < 182 → slice_index_or marked i false ≡ false
    → mark_in marks i j ≡ false
unmarked marks marked i j says below inside is = ap (λ row. get_or row j false) (says i below is) ∙ get_or-replicate 182 j false false inside

-- nothing is taken from a row without marks
pub none-taken : (answered row : List Bool) (j : ℕ) → row ≡ replicate 182 false → j < 182 → get_or row j false ≡ mark_left answered row j
none-taken answered row j clear inside = by_answered (slice_index_or answered j false)
  where
    none : get_or row j false ≡ false
    none = ap (λ l. get_or l j false) clear ∙ get_or-replicate 182 j false false inside

    by_answered : (b : Bool) → get_or row j false ≡ (if b then false else get_or row j false)
    by_answered true = none
    by_answered false = refl

-- the marks of the rows so far are taken, and the others are as they were
pub record AreTakenTo (answered : List Bool) (old now : List (List Bool)) (i : ℕ) : Type 0 where
  pub height : length now ≡ 208
  pub taken : (k j : ℕ) → k < i → j < 182 → mark_in now k j ≡ mark_left answered (marks_line old k) j
  pub left : (k : ℕ) → i ≤ k → marks_line now k ≡ marks_line old k

pub take-next : (answered : List Bool) (old now new : List (List Bool)) (row : List Bool) (i : ℕ) → i < 208 → new ≡ set now i row
    → ((j : ℕ) → j < 182 → get_or row j false ≡ mark_left answered (marks_line now i) j) → AreTakenTo answered old now i → AreTakenTo answered old new (i + 1)
take-next answered old now new row i below is own part =
    let within : i < length now = omega (arith, part.height) in
    record {
      height = ap length is ∙ length-set now i row ∙ part.height;
      taken = λ k j k_below inside. elim (cases_eq k i) [
        | inl same ↦
            ap (λ n. mark_in new n j) same ∙ ap (λ l. mark_in l i j) is ∙ ap (λ l. get_or l j false) (get_or-set_same now i row [] within)
            ∙ own j inside ∙ ap (λ l. mark_left answered l j) (part.left i (omega arith)) ∙ ap (λ n. mark_left answered (marks_line old n) j) (sym same)
        | inr apart ↦
            ap (λ l. mark_in l k j) is ∙ ap (λ l. get_or l j false) (get_or-set_other now i k row [] apart) ∙ part.taken k j (omega arith) inside
      ];
      left = λ k from.
          let apart : k ≢ i = λ equal. omega (arith, equal, from) in
          ap (λ l. marks_line l k) is ∙ get_or-set_other now i k row [] apart ∙ part.left k (omega (arith, from));
    }
