-- One block that `convert` writes.
use Rattle.std.proofs.Common.{◌≡◌, ◌∙◌, ℕ, ◌<◌, Bool, List, [], ◌∷◌, ◌++◌, None, refl, ap, sym, subst, arith, length}
use Rattle.std.specs.Int.{to_be_bytes, w32}
use Rattle.dvd_capture.specs.Captured.{HasSize, IsUnitOf, block_size, captured_marks, captured_rows}
use Rattle.dvd_capture.specs.Header.{header_bytes, initial_bytes}
use Rattle.dvd_capture.specs.declared.form.Form.{Form}
use Rattle.dvd_capture.specs.declared.form.Form.TheVariants.{Plain, Marked, Listed}
use Rattle.dvd_capture.specs.declared.header.Header.{Header}
use Rattle.dvd_capture.proofs.OneSpelling.{one_spelling}
use Rattle.dvd_layout.specs.declared.layout.Shape.{Shape}
use Rattle.dvd_layout.specs.declared.layout.Shape.TheVariants.{Single, Parallel, Opposite}
use Rattle.dvd_layout.specs.declared.layout.Zones.{Zones}
use Rattle.dvd_layout.specs.declared.layout.Zones.TheVariants.{DataOnly, All as AllZones}
use Rattle.dvd_loop.specs.Machine.{Step, sized}
use Rattle.dvd_loop.specs.Machine.Step.{Write}
use Rattle.dvd_loop.specs.declared.ends.UnitKind.{UnitKind}
use Rattle.dvd_loop.specs.declared.ends.UnitKind.TheVariants.{Good}
use Rattle.dvd_commands.specs.Captured.{captured_part}
use Rattle.dvd_commands.specs.Convert.{IsConverted}
use Rattle.dvd_commands.specs.Opening.{IsHeaderOf, shape_number, zones_number}
use Rattle.dvd_commands.proofs.Layouts.{layout_for}
use Rattle.dvd_words.specs.Settings.{broken_rule}
use Rattle.dvd_words.specs.declared.settings.Settings.{Settings}
use Rattle.dvd_loop.specs.Machine.Prefix.{Whole}
use Rattle.dvd_commands.proofs.BlocksWithinBound.{captured-received}
use Rattle.dvd_capture.proofs.ListedWritten.{some_spelling}
use Rattle.dvd_commands.proofs.SomeThing.{MaySome}

-- the unit of the rows and marks of captured bytes may be written for their block
pub converted : (form : Form) (own : List ℕ) (rows : List (List ℕ)) (marks : List (List Bool)) → rows ≡ captured_rows form own → marks ≡ captured_marks form own
    → (unit : List ℕ) → IsUnitOf rows marks unit → IsConverted form own (Write unit ∷ []) Good
converted form own rows marks rows_are marks_are unit is = record {
  unit = unit;
  is_unit = subst (λ m. IsUnitOf (captured_rows form own) m unit) marks_are (subst (λ r. IsUnitOf r marks unit) rows_are is);
  writes = refl;
  good = refl;
}

-- where all blocks have one size, bytes begin by it
pub sized_part : (form : Form) → HasSize form → (own : List ℕ) → captured_part form own ≡ sized (block_size form) own
sized_part Plain has own = refl
sized_part Marked has own = refl
sized_part Listed has own = absurd (has refl)

-- DETERMINED. Rows and marks have one unit.
pub converted_is_one : (form : Form) (own : List ℕ) (steps others : List Step) (kind other : UnitKind) → IsConverted form own steps kind → IsConverted form own others other
    → (steps ≡ others) × (kind ≡ other)
converted_is_one form own steps others kind other p q =
    let unit : p.unit ≡ q.unit = one_spelling (captured_rows form own) (captured_marks form own) p.unit q.unit p.is_unit q.is_unit in
    (p.writes ∙ ap (λ u. Write u ∷ []) unit ∙ sym q.writes, p.good ∙ sym q.good)

-- headers that state the same have the same bytes
bytes_same : (a b : Header) → a.shape ≡ b.shape → a.zones ≡ b.zones → a.sectors0 ≡ b.sectors0 → a.sectors1 ≡ b.sectors1 → a.initial ≡ b.initial → a.tail ≡ b.tail
    → header_bytes a ≡ header_bytes b
unfolding header_bytes
bytes_same a b shape zones sectors0 sectors1 initial tail =
    λ i. initial_bytes ++ shape i ∷ zones i ∷ 0 ∷ 0
    ∷ to_be_bytes w32 (sectors0 i) ++ to_be_bytes w32 (sectors1 i) ++ to_be_bytes w32 (initial i) ++ to_be_bytes w32 (tail i) ++ 0 ∷ 0 ∷ 0 ∷ 0 ∷ []

-- so the header that states settings is one
pub opening_once : (settings : Settings) (a b : List ℕ) → IsHeaderOf settings settings a → IsHeaderOf settings settings b → a ≡ b
opening_once settings a b p q =
    p.bytes
    ∙ bytes_same p.header q.header (sym p.states.shape ∙ q.states.shape) (sym p.states.zones ∙ q.states.zones)
    (sym (ap (λ (s : Settings). s.sectors) p.states.all) ∙ ap (λ (s : Settings). s.sectors) q.states.all)
    (sym (ap (λ (s : Settings). s.sectors1) p.states.all) ∙ ap (λ (s : Settings). s.sectors1) q.states.all)
    (sym (ap (λ (s : Settings). s.initial) p.states.all) ∙ ap (λ (s : Settings). s.initial) q.states.all)
    (sym (ap (λ (s : Settings). s.tail) p.states.all) ∙ ap (λ (s : Settings). s.tail) q.states.all)
    ∙ sym q.bytes

-- SOMETHING. There are three numbers of shapes.
shape_below : (shape : Shape) → shape_number shape < 3
shape_below Single = omega arith
shape_below Parallel = omega arith
shape_below Opposite = omega arith

-- there are two numbers of zones
zones_below : (zones : Zones) → zones_number zones < 2
zones_below DataOnly = omega arith
zones_below AllZones = omega arith

-- settings whose layout breaks no rule have the header that states them
pub some_opening : (settings : Settings) → broken_rule settings ≡ None → (opening : List ℕ) × IsHeaderOf settings settings opening
some_opening settings none =
    let (layout, is) = layout_for settings none in
    let header : Header = record {
      shape = shape_number settings.shape;
      zones = zones_number settings.zones;
      sectors0 = settings.sectors;
      sectors1 = settings.sectors1;
      initial = settings.initial;
      tail = settings.tail;
      known_shape = shape_below settings.shape;
      known_zones = zones_below settings.zones;
    } in (
      header_bytes header,
      record {
        header = header;
        numbers = (
          omega (arith, is.sectors0, layout.end0),
          omega (arith, is.sectors1, layout.end1),
          omega (arith, is.initial, layout.initial_fits),
          omega (arith, is.tail, layout.tail_fits),
        );
        bytes = refl;
        states = record { shape = refl; zones = refl; all = refl };
      },
    )

-- Whole blocks have a unit.
pub converted_some : (form : Form) (own : List ℕ) → captured_part form own ≡ Whole (length own) → MaySome (IsConverted form own)
converted_some form own whole =
    let received = captured-received form own whole in
    let unit = some_spelling (captured_rows form own) (captured_marks form own) received.height received.widths received.marks_height received.marks_widths in
    (Write unit.0 ∷ [], Good, record { unit = unit.0; is_unit = unit.1; writes = refl; good = refl })
