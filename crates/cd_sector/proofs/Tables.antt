-- The tables of what steps of the division leave of each byte, found right by computing them.
use Rattle.std.proofs.Common.{◌≡◌, List, ℕ, [], ◌+◌, ◌*◌, ◌<◌, get_or, map, refl, ap, ◌∙◌, zero-add}
use Rattle.std.specs.List.{range_with_len}
use Rattle.std.proofs.lemmas.List.FromFn.{get_or-map-range_with_len}
use Rattle.cd_sector.specs.declared.table.TheConstants.{TABLES}
use Rattle.cd_sector.specs.Inner.Register.{after_steps, stepped}

-- what is left of each byte where so many come after it
unfoldable table_before : ℕ → List ℕ
table_before later = map (after_steps (8 + 8 * later)) (range_with_len 0 256)

-- that of each byte of sixteen
TABLES-made : TABLES ≡ map table_before (range_with_len 0 16)
unfolding table_before after_steps stepped
TABLES-made = refl

-- so an entry is what is left of its byte
pub TABLES-entry : (later byte : ℕ) → later < 16 → byte < 256 → get_or (get_or TABLES later []) byte 0 ≡ after_steps (8 + 8 * later) byte
unfolding table_before
TABLES-entry later byte inside is_byte =
    ap (λ (table : List ℕ). get_or table byte 0)
    (ap (λ (tables : List (List ℕ)). get_or tables later []) TABLES-made ∙ get_or-map-range_with_len table_before 0 16 later later [] inside (zero-add later))
    ∙ get_or-map-range_with_len (after_steps (8 + 8 * later)) 0 256 byte byte 0 is_byte (zero-add byte)
