-- Texts that are put one after the other.
use Rattle.std.proofs.Common.{◌≡◌, ◌∙◌, ℕ, ◌+◌, ◌++◌, List, refl, ap, sym, add-one, append-nil, append_assoc}
use Rattle.cap_draw.specs.Bars.{texts}

-- two texts that are put at the end are a text
pub pair : (page a b : List ℕ) {new : List ℕ} → new ≡ page ++ a ++ b → new ≡ page ++ (a ++ b)
pair page a b put = put ∙ append_assoc page a b

-- what was put, and a text more
pub more : (page a b : List ℕ) {mid new : List ℕ} → mid ≡ page ++ a → new ≡ mid ++ b → new ≡ page ++ (a ++ b)
more page a b first put = put ∙ ap (λ p. p ++ b) first ∙ append_assoc page a b

-- what was put, and two texts more
pub more_pair : (page a b c : List ℕ) {mid new : List ℕ} → mid ≡ page ++ a → new ≡ mid ++ b ++ c → new ≡ page ++ (a ++ b ++ c)
more_pair page a b c first put = put ∙ ap (λ p. p ++ b ++ c) first ∙ ap (λ p. p ++ c) (append_assoc page a b) ∙ append_assoc page (a ++ b) c

-- no text of many
pub texts_none : (page : List ℕ) (text : ℕ → List ℕ) → page ≡ page ++ texts text 0
unfolding texts
texts_none page text = sym (append-nil page)

texts_more : (text : ℕ → List ℕ) (n : ℕ) → texts text (n + 1) ≡ texts text n ++ text n
unfolding texts
texts_more text n = rw (add-one n) refl

-- one text more
pub texts_step : (page : List ℕ) (text : ℕ → List ℕ) (n : ℕ) {mid new : List ℕ} → mid ≡ page ++ texts text n → new ≡ mid ++ text n → new ≡ page ++ texts text (n + 1)
texts_step page text n first put = more page (texts text n) (text n) first put ∙ ap (λ t. page ++ t) (sym (texts_more text n))
