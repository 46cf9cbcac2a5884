-- Lengths that break no rule are those of a layout.
use Rattle.std.proofs.Common.{◌≡◌, ℕ, ◌%◌, ◌<◌, ◌≤◌, ◌==◌, ◌&&◌, not, nat_lt, Bool, true, false, cond, Option, Some, None, refl, ap, arith}
use Rattle.std.proofs.lemmas.Bool.{eqb-true}
use Rattle.std.proofs.lemmas.Bool.Decides.{nat_tests}
use Rattle.dvd_layout.specs.Lengths.{first_fault, has_two_layers, is_opposite, layer_end, padded}
use Rattle.dvd_layout.specs.declared.fault.LayoutFault.{LayoutFault}
use Rattle.dvd_layout.specs.declared.layout.Layout.{Layout}
use Rattle.dvd_words.specs.Settings.{IsLayoutOf, broken_rule}
use Rattle.dvd_words.specs.declared.settings.Settings.{Settings}

-- a rule that is kept, and the rules after it
kept : (test : Bool) (fault : LayoutFault) (rest : Option LayoutFault) → cond test (Some fault) rest ≡ None → (test ≡ false) × (rest ≡ None)
kept true fault rest is = absurd (let no : Some fault ≡ None = is in cc)
kept false fault rest is = (refl, is)

-- where two tests don't pass together and the first does, the second doesn't
second_false : (first second : Bool) → (first && second) ≡ false → first ≡ true → second ≡ false
second_false true second both is = both
second_false false second both is = absurd (let no : false ≡ true = is in cc)

-- a test whose opposite fails passes
not_false : (test : Bool) → not test ≡ false → test ≡ true
not_false true is = refl
not_false false is = absurd (let no : true ≡ false = is in cc)

-- a number that isn't 0 is above it
some-by : (n : ℕ) → (n == 0) ≡ false → 0 < n
some-by n is = grind (arith, nat_tests)

-- a number that isn't below another is at least that one
most-by : (m n : ℕ) → nat_lt m n ≡ false → n ≤ m
most-by m n is = grind (arith, nat_tests)

-- settings that break no rule have a layout
pub layout_for : (settings : Settings) → broken_rule settings ≡ None → (layout : Layout) × IsLayoutOf settings layout
unfolding first_fault
layout_for settings none =
    let shape = settings.shape in
    let a = kept _ _ _ none in
    let b = kept _ _ _ a.1 in
    let c = kept _ _ _ b.1 in
    let d = kept _ _ _ c.1 in
    let e = kept _ _ _ d.1 in
    let f = kept _ _ _ e.1 in
    let g = kept _ _ _ f.1 in
    let h = kept _ _ _ g.1 in
    let i = kept _ _ _ h.1 in (
      record {
        shape = shape;
        sectors0 = settings.sectors;
        sectors1 = settings.sectors1;
        initial = settings.initial;
        tail = settings.tail;
        first_layer = some-by settings.sectors a.0;
        second_layer = λ two. some-by settings.sectors1 (second_false (has_two_layers shape) _ b.0 two);
        whole_blocks = λ two. eqb-true (settings.sectors % 16) 0 (not_false _ (second_false (has_two_layers shape) _ c.0 two));
        one_layer = λ one. eqb-true settings.sectors1 0 (not_false _ (second_false (not (has_two_layers shape)) _ d.0 (ap not one)));
        no_longer = λ opposite. most-by (padded settings.sectors) (padded settings.sectors1) (second_false (is_opposite shape) _ e.0 opposite);
        initial_fits = most-by 12031 settings.initial f.0;
        tail_fits = most-by 12288 settings.tail g.0;
        end0 = most-by 0x800000 (layer_end settings.sectors settings.tail) h.0;
        end1 = most-by 0x800000 (layer_end settings.sectors1 settings.tail) i.0;
      },
      record { shape = refl; sectors0 = refl; sectors1 = refl; initial = refl; tail = refl },
    )
