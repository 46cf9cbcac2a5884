-- Spans without those before a byte.
use Rattle.std.specs.Prelude.{◌≡◌, ◌≤◌, ℕ, List}
use Rattle.cap_map.specs.Spans.{is_rescued}
use Rattle.cap_map.specs.declared.span.Span.{Span}

-- both say the same about each byte from this one on
abbrev pub AgreeFrom : ℕ → List Span → List Span → Type 0
AgreeFrom place left spans = (k : ℕ) → place ≤ k → is_rescued left k ≡ is_rescued spans k
