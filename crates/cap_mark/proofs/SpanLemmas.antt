-- Spans of which those before a place are left out.
use Rattle.std.proofs.Common.{◌≡◌, ◌∙◌, ◌≤◌, ℕ, List, ◌∷◌, refl, ap, sym, arith}
use Rattle.std.proofs.lemmas.Bool.{le-ltb}
use Rattle.cap_map.specs.Spans.{is_rescued}
use Rattle.cap_map.specs.declared.span.Span.{Span}
use Rattle.cap_mark.specs.Walk.{AgreeFrom}

-- agreement from a place on holds from each later one, and of three
pub agree_later : (a b : ℕ) (left mid spans : List Span) → AgreeFrom b left mid → AgreeFrom a mid spans → a ≤ b → AgreeFrom b left spans
agree_later a b left mid spans p q later k above = p k above ∙ q k (omega arith)

-- the first span may be left out from its end on
pub agree_without : (place : ℕ) (left spans : List Span) (first : Span) (rest : List Span) → left ≡ first ∷ rest → first.end ≤ place → AgreeFrom place left spans → AgreeFrom place rest spans
agree_without place left spans first rest is ended same k above =
    let skips : is_rescued (first ∷ rest) k ≡ is_rescued rest k = rw (le-ltb k first.end (omega arith)) refl in
    sym skips ∙ ap (λ l. is_rescued l k) (sym is) ∙ same k above
