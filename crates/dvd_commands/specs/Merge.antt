-- The command `merge` (ours): unit k is captured block k of each capture, one after the other. Their join is written in
-- the marked form. A byte of it is that of the captures that have one there, if these have the same; else it is marked.
use Rattle.std.specs.Prelude.{◌≡◌, ℕ, ◌*◌, List, [], ◌∷◌, length, map, take, drop}
use Rattle.std.specs.List.{range_with_len}
use Rattle.dvd_capture.specs.Captured.{block_size, captured_rows, captured_marks}
use Rattle.dvd_capture.specs.declared.form.Form.{Form}
use Rattle.dvd_layout.specs.Plan.{plan_of}
use Rattle.dvd_layout.specs.declared.layout.Layout.{Layout}
use Rattle.dvd_layout.specs.declared.layout.Zones.{Zones}
use Rattle.dvd_loop.specs.Machine.{Units, plain_units}
use Rattle.dvd_loop.specs.Machine.Step.{Write}
use Rattle.dvd_loop.specs.declared.ends.UnitKind.TheVariants.{Good}
use Rattle.dvd_merge.specs.Join.{Table, joined, seen_table}
use Rattle.dvd_merge.specs.MarkedText.{marked_text}
use Rattle.dvd_commands.specs.Meaning.{Meaning, by_layout}

-- capture c of a unit, whose captures come one after the other
abbrev pub capture_in : Form → List ℕ → ℕ → List ℕ
capture_in form own c = take (block_size form) (drop (block_size form * c) own)

-- what a capture of these bytes knows of its block
abbrev pub table_in : Form → List ℕ → Table
table_in form bytes = seen_table (captured_rows form bytes) (captured_marks form bytes)

-- what each of the captures of a unit knows
unfoldable pub tables_in : ℕ → Form → List ℕ → List Table
tables_in captures form own = map (λ c. table_in form (capture_in form own c)) (range_with_len 0 captures)

-- Unit k has one captured block of each capture, whatever the plan has there. Their join is written.
abbrev pub merge_units : Layout → Zones → Form → ℕ → Units
merge_units layout zones form captures =
    plain_units (length (plan_of layout zones)) (λ k. captures * block_size form)
    (λ k own steps kind. (steps ≡ Write (marked_text (joined (tables_in captures form own))) ∷ []) × (kind ≡ Good))

-- the meaning of `merge`: its layout has to break no rule
abbrev pub merge_meaning : Meaning
merge_meaning = by_layout (λ settings layout. merge_units layout settings.zones settings.form settings.captures)
