-- Where a line ends in the bytes of a text.
use Rattle.std.proofs.Common.{◌≡◌, ◌∙◌, ◌+◌, ◌<◌, ◌≤◌, ◌==◌, ℕ, suc, Bool, true, false, not, List, [], ◌∷◌, ◌++◌, length, take, drop, refl, ap, sym, arith, if◌then◌else◌, length-append}
use Rattle.std.proofs.lemmas.List.{drop_all, length-take-le, take_all}
use Rattle.std.proofs.lemmas.List.Folds.{prefix_len-append}
use Rattle.std.proofs.lemmas.List.Sums.{prefix_len-le-length}
use Rattle.cap_map.specs.Fields.{line_length, lines_of, onto_first}
use Rattle.cap_map.proofs.FirstLine.{first_line}

-- bytes in which no line ends, before others
pub longer : (p q : List ℕ) → line_length p ≡ length p → line_length (p ++ q) ≡ length p + line_length q
longer p q within = grind (arith, prefix_len-append (λ c. not (c == 10)) p q, within)

-- bytes in which no line ends, and then a line feed, are a line
by_end : (b : Bool) (c : ℕ) (p rest : List ℕ) → (if not b then 1 + line_length p else 0) ≡ suc (length p)
    → (line_length p ≡ length p → lines_of (p ++ 10 ∷ rest) ≡ p ∷ lines_of rest)
    → (if b then [] ∷ lines_of (p ++ 10 ∷ rest) else onto_first c (lines_of (p ++ 10 ∷ rest))) ≡ (c ∷ p) ∷ lines_of rest
by_end true c p rest within more = absurd (omega (arith, within))
by_end false c p rest within more = ap (onto_first c) (more (omega (arith, within)))

pub line_ended : (p rest : List ℕ) → line_length p ≡ length p → lines_of (p ++ 10 ∷ rest) ≡ p ∷ lines_of rest
line_ended [] rest within = refl
line_ended (c ∷ p) rest within = by_end (c == 10) c p rest within (line_ended p rest)

-- and at the end of the text they are one too, if there are any
pub line_alone : (p : List ℕ) → 0 < length p → line_length p ≡ length p → lines_of p ≡ p ∷ []
line_alone p some within =
    first_line p some
    ∙ ap (λ l. l ∷ lines_of (drop (line_length p + 1) p)) (take_all (line_length p) p (omega (arith, within)))
    ∙ ap (λ l. p ∷ lines_of l) (drop_all (line_length p + 1) p (omega (arith, within)))

-- a byte more that ends no line
pub pushed : (p : List ℕ) (c : ℕ) → line_length p ≡ length p → (c == 10) ≡ false → line_length (p ++ c ∷ []) ≡ length (p ++ c ∷ [])
pushed p c within other = longer p (c ∷ []) within ∙ ap (λ n. length p + n) (rw other refl) ∙ sym (length-append p (c ∷ []))

-- the first line of such bytes, which goes on with that byte
pub overlong : (p : List ℕ) (c : ℕ) (rest : List ℕ) → line_length p ≡ length p → (c == 10) ≡ false
    → (first : List ℕ) × (later : List (List ℕ)) × (lines_of (p ++ c ∷ rest) ≡ first ∷ later) × (length p < length first)
overlong p c rest within other =
    let text = p ++ c ∷ rest in
    let size : length text ≡ length p + suc (length rest) = length-append p (c ∷ rest) in
    let more : line_length text ≡ length p + line_length (c ∷ rest) = longer p (c ∷ rest) within in
    let one : line_length (c ∷ rest) ≡ 1 + line_length rest = rw other refl in
    let fits : line_length text ≤ length text = prefix_len-le-length (λ c. not (c == 10)) text in
    (take (line_length text) text, lines_of (drop (line_length text + 1) text), first_line text (omega (arith, size)), omega (arith, length-take-le (line_length text) text fits, more, one))
