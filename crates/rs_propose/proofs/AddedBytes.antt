-- Rows without marks to which bytes are added: their values, and the places where they differ from the received row.
use Rattle.std.proofs.Common.{◌≡◌, ℕ, zero, suc, ◌+◌, ◌-◌, ◌<◌, ◌≤◌, Bool, false, not, ◌==◌, if◌then◌else◌, inl, inr, List, [], ◌∷◌, length, length-set, get_or, get_or-take, set, take, replicate, All, refl, sym, ap, ◌∙◌, arith}
use Rattle.std.proofs.lemmas.Bool.{cases_eq}
use Rattle.std.proofs.lemmas.Bool.Decides.{nat_tests}
use mir.Val.{bool_byte}
use Rattle.coding.specs.Field.{alpha, plus, product, power}
use Rattle.coding.specs.Words.{IsByte, IsNear, value}
use Rattle.coding.specs.Filling.{marked}
use Rattle.gf_field.proofs.FieldLaws.{plus-assoc, plus-comm, plus-product, plus-self}
use Rattle.rs_code.specs.Syndromes.{syndromes_of}
use Rattle.rs_code.proofs.Syndromes.{get_or-syndromes_of}
use Rattle.rs_code.proofs.Values.{value-cons}
use Rattle.rs_decode.specs.Errors.{error_count}
use Rattle.rs_decode.proofs.Counting.{IsNear-from_counts}

-- a byte that is added at a place adds to a value what it counts there
pub value-added : (row : List ℕ) (place byte x : ℕ) → place < length row
    → value (set row place (plus (get_or row place 0) byte)) x ≡ plus (value row x) (product byte (power x (length row - 1 - place)))
value-added [] place byte x inside = absurd (omega arith)
value-added (old ∷ row) zero byte x inside =
    let p = power x (length row) in
    let here : length row ≡ length (old ∷ row) - 1 - 0 = omega arith in
    value-cons (plus old byte) row x
    ∙ ap (λ c. plus c (value row x)) (plus-product old byte p)
    ∙ plus-assoc (product old p) (product byte p) (value row x)
    ∙ ap (plus (product old p)) (plus-comm (product byte p) (value row x))
    ∙ sym (plus-assoc (product old p) (value row x) (product byte p))
    ∙ ap (λ v. plus v (product byte p)) (sym (value-cons old row x))
    ∙ ap (λ n. plus (value (old ∷ row) x) (product byte (power x n))) here
value-added (old ∷ row) (suc place) byte x inside =
    let after = set row place (plus (get_or row place 0) byte) in
    let counted = product old (power x (length row)) in
    let more = product byte (power x (length row - 1 - place)) in
    let here : length row - 1 - place ≡ length (old ∷ row) - 1 - suc place = omega arith in
    value-cons old after x
    ∙ ap (λ n. plus (product old (power x n)) (value after x)) (length-set row place (plus (get_or row place 0) byte))
    ∙ ap (plus counted) (value-added row place byte x (omega arith))
    ∙ sym (plus-assoc counted (value row x) more)
    ∙ ap (λ v. plus v more) (sym (value-cons old row x))
    ∙ ap (λ n. plus (value (old ∷ row) x) (product byte (power x n))) here

-- The same of a row's values that are those of the received row plus sums: what the byte counts is added to the sums.
pub values-next : (received row after sums next : List ℕ) (place byte k : ℕ) → length row ≡ 182 → place < 182
    → after ≡ set row place (plus (get_or row place 0) byte)
    → value row (power alpha k) ≡ plus (value received (power alpha k)) (get_or sums k 0)
    → get_or next k 0 ≡ plus (get_or sums k 0) (product byte (power (power alpha k) (181 - place)))
    → value after (power alpha k) ≡ plus (value received (power alpha k)) (get_or next k 0)
values-next received row after sums next place byte k size inside after_is before next_is =
    let x = power alpha k in
    let here : length row - 1 - place ≡ 181 - place = omega (arith, size) in
    let more = product byte (power x (181 - place)) in
    ap (λ w. value w x) after_is
    ∙ value-added row place byte x (omega (arith, size))
    ∙ ap (λ n. plus (value row x) (product byte (power x n))) here
    ∙ ap (λ v. plus v more) before
    ∙ plus-assoc (value received x) (get_or sums k 0) more
    ∙ ap (plus (value received x)) (sym next_is)

-- the marks of a row that has none
abbrev pub clear : ℕ → List Bool
clear n = replicate n false

-- none of them is marked
pub marked-clear : (n : ℕ) → marked (clear n) ≡ 0
unfolding marked
marked-clear zero = refl
marked-clear (suc n) = omega (arith, marked-clear n)

-- whether two bytes differ, as a number
pub unlike : ℕ → ℕ → ℕ
unlike byte got = if byte == got then 0 else 1

-- it is the number that the code adds
pub unlike-number : (byte got : ℕ) → bool_byte (not (byte == got)) ≡ unlike byte got
unfolding unlike
unlike-number byte got = elim (cases_eq byte got) [
  | inl same ↦ grind (arith, nat_tests)
  | inr differ ↦ grind (arith, nat_tests)
]

-- where one place is set, the places that differ are the same but for that one
pub differ-set : (n : ℕ) (received row : List ℕ) (place byte : ℕ) → length received ≡ n → length row ≡ n → place < n
    → error_count received (set row place byte) (clear n) + unlike (get_or row place 0) (get_or received place 0)
    ≡ error_count received row (clear n) + unlike byte (get_or received place 0)
unfolding error_count unlike
differ-set zero received row place byte size_r size inside = absurd (omega arith)
differ-set (suc n) [] row place byte size_r size inside = absurd (omega arith)
differ-set (suc n) (got ∷ received) [] place byte size_r size inside = absurd (omega arith)
differ-set (suc n) (got ∷ received) (old ∷ row) zero byte size_r size inside = omega arith
differ-set (suc n) (got ∷ received) (old ∷ row) (suc place) byte size_r size inside =
    let rest = differ-set n received row place byte (omega arith) (omega arith) (omega arith) in omega (arith, rest)

-- a place that differs is among those that do
pub differ-some : (n : ℕ) (received row : List ℕ) (place : ℕ) → length received ≡ n → length row ≡ n → place < n
    → unlike (get_or row place 0) (get_or received place 0) ≤ error_count received row (clear n)
unfolding error_count unlike
differ-some zero received row place size_r size inside = absurd (omega arith)
differ-some (suc n) [] row place size_r size inside = absurd (omega arith)
differ-some (suc n) (got ∷ received) [] place size_r size inside = absurd (omega arith)
differ-some (suc n) (got ∷ received) (old ∷ row) zero size_r size inside = omega arith
differ-some (suc n) (got ∷ received) (old ∷ row) (suc place) size_r size inside =
    let rest = differ-some n received row place (omega arith) (omega arith) (omega arith) in omega (arith, rest)

-- A row of bytes that differs from the received one in at most five places is the codeword near it, if its values are
-- those of the received row plus sums that are the syndromes.
pub believed : (received row sums syndromes : List ℕ) (errors : ℕ) → length received ≡ 182 → length row ≡ 182 → All IsByte row
    → ((k : ℕ) → k < 16 → value row (power alpha k) ≡ plus (value received (power alpha k)) (get_or sums k 0))
    → syndromes ≡ syndromes_of 10 received → take 10 sums ≡ syndromes
    → errors ≡ error_count received row (clear 182) → errors ≤ 5 → IsNear 182 10 received (clear 182) row
believed received row sums syndromes errors size_r size bytes values are same counted few =
    IsNear-from_counts 182 10 received row (clear 182)
    (record {
      size = size;
      bytes = bytes;
      vanishes = λ k below.
          let v = value received (power alpha k) in
          let sum : get_or sums k 0 ≡ v = sym (get_or-take 10 sums k 0 below) ∙ ap (λ xs. get_or xs k 0) (same ∙ are) ∙ get_or-syndromes_of 10 received k below in
          values k (omega arith) ∙ ap (plus v) sum ∙ plus-self v;
    })
    size_r refl (omega (arith, marked-clear 182))
