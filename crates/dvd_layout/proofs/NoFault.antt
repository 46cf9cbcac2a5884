-- A layout breaks no rule.
use Rattle.std.proofs.Common.{◌≡◌, ℕ, ◌%◌, ◌<◌, ◌≤◌, true, false, arith, None, refl}
use Rattle.std.proofs.lemmas.Bool.Decides.{nat_tests}
use Rattle.dvd_layout.specs.declared.layout.Layout.{Layout}
use Rattle.dvd_layout.specs.declared.layout.Shape.{Shape}
use Rattle.dvd_layout.specs.declared.layout.Shape.TheVariants.{Single, Parallel, Opposite}
use Rattle.dvd_layout.specs.Lengths.{first_fault, has_two_layers, is_opposite, layer_end, padded}

-- lengths for which each rule holds have no fault
lengths-no_fault : (shape : Shape) (sectors0 sectors1 initial tail : ℕ) → 0 < sectors0 → (has_two_layers shape ≡ true → 0 < sectors1)
    → (has_two_layers shape ≡ true → sectors0 % 16 ≡ 0) → (has_two_layers shape ≡ false → sectors1 ≡ 0)
    → (is_opposite shape ≡ true → padded sectors1 ≤ padded sectors0) → initial ≤ 12031 → tail ≤ 12288
    → layer_end sectors0 tail ≤ 0x800000 → layer_end sectors1 tail ≤ 0x800000 → first_fault shape sectors0 sectors1 initial tail ≡ None
unfolding first_fault
lengths-no_fault Single sectors0 sectors1 initial tail some second whole one longer initial_fits tail_fits end0 end1 =
    let none = one refl in grind (arith, nat_tests)
lengths-no_fault Parallel sectors0 sectors1 initial tail some second whole one longer initial_fits tail_fits end0 end1 =
    let some1 = second refl in let blocks = whole refl in grind (arith, nat_tests)
lengths-no_fault Opposite sectors0 sectors1 initial tail some second whole one longer initial_fits tail_fits end0 end1 =
    let some1 = second refl in let blocks = whole refl in let no_longer = longer refl in grind (arith, nat_tests)

-- no layout breaks a rule
pub no_fault : (layout : Layout) → first_fault layout.shape layout.sectors0 layout.sectors1 layout.initial layout.tail ≡ None
no_fault layout =
    lengths-no_fault layout.shape layout.sectors0 layout.sectors1 layout.initial layout.tail layout.first_layer layout.second_layer
    layout.whole_blocks layout.one_layer layout.no_longer layout.initial_fits layout.tail_fits layout.end0 layout.end1
