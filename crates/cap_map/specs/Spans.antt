-- Which bytes of a capture are rescued.
use Rattle.std.specs.Prelude.{ℕ, nat_lt, Bool, false, if◌then◌else◌, List, [], ◌∷◌}
use Rattle.cap_map.specs.declared.span.Span.{Span}

-- Whether the byte of this number is rescued: the first span that ends after it says so. After the last span none is.
abbrev pub is_rescued : List Span → ℕ → Bool
is_rescued [] k = false
is_rescued (span ∷ spans) k = if nat_lt k span.end then span.rescued else is_rescued spans k
