-- A layout is determined by its lengths: the facts that it keeps are propositions.
use mathlib.Core.HLevel.{is_prop→PathP}
use Rattle.std.proofs.Common.{◌≡◌, ◌%◌, ◌<◌, ◌≤◌, true, false}
use Rattle.std.proofs.Props.{props}
use Rattle.dvd_layout.specs.declared.layout.Layout.{Layout}
use Rattle.dvd_layout.specs.Lengths.{has_two_layers, is_opposite, layer_end, padded}

-- two layouts of one shape and the same lengths are one
pub same_lengths-same : (a b : Layout) → a.shape ≡ b.shape → a.sectors0 ≡ b.sectors0 → a.sectors1 ≡ b.sectors1 → a.initial ≡ b.initial
    → a.tail ≡ b.tail → a ≡ b
same_lengths-same a b shape sectors0 sectors1 initial tail = λ i. record {
  shape = shape i;
  sectors0 = sectors0 i;
  sectors1 = sectors1 i;
  initial = initial i;
  tail = tail i;
  first_layer = is_prop→PathP (λ j. 0 < sectors0 j) (λ j. hlevel props) a.first_layer b.first_layer i;
  second_layer = is_prop→PathP (λ j. has_two_layers (shape j) ≡ true → 0 < sectors1 j) (λ j. hlevel props) a.second_layer b.second_layer i;
  whole_blocks = is_prop→PathP (λ j. has_two_layers (shape j) ≡ true → sectors0 j % 16 ≡ 0) (λ j. hlevel props) a.whole_blocks b.whole_blocks i;
  one_layer = is_prop→PathP (λ j. has_two_layers (shape j) ≡ false → sectors1 j ≡ 0) (λ j. hlevel props) a.one_layer b.one_layer i;
  no_longer = is_prop→PathP (λ j. is_opposite (shape j) ≡ true → padded (sectors1 j) ≤ padded (sectors0 j)) (λ j. hlevel props) a.no_longer b.no_longer i;
  initial_fits = is_prop→PathP (λ j. initial j ≤ 12031) (λ j. hlevel props) a.initial_fits b.initial_fits i;
  tail_fits = is_prop→PathP (λ j. tail j ≤ 12288) (λ j. hlevel props) a.tail_fits b.tail_fits i;
  end0 = is_prop→PathP (λ j. layer_end (sectors0 j) (tail j) ≤ 0x800000) (λ j. hlevel props) a.end0 b.end0 i;
  end1 = is_prop→PathP (λ j. layer_end (sectors1 j) (tail j) ≤ 0x800000) (λ j. hlevel props) a.end1 b.end1 i;
}
