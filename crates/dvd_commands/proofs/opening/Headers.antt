-- What a header states, and where it breaks a rule.
use Rattle.std.proofs.Common.{◌≡◌, inr, ℕ, zero, suc, ◌<◌, List, length, None, Some, refl, arith}
use Rattle.dvd_capture.specs.Header.{header_bytes}
use Rattle.dvd_capture.specs.Laws.{FitsHeader}
use Rattle.dvd_capture.specs.declared.header.Header.{Header}
use Rattle.dvd_layout.specs.Lengths.{first_fault}
use Rattle.dvd_layout.specs.declared.fault.LayoutFault.{LayoutFault}
use Rattle.dvd_layout.specs.declared.layout.Layout.{Layout}
use Rattle.dvd_layout.specs.declared.layout.Shape.{Shape}
use Rattle.dvd_layout.specs.declared.layout.Zones.{Zones}
use Rattle.dvd_layout.specs.declared.layout.Zones.TheVariants.{DataOnly, All}
use Rattle.dvd_ports.specs.Causes.{HasGoneOn}
use Rattle.dvd_ports.specs.Seen.{Seen}
use Rattle.dvd_commands.specs.HeaderEnds.{AnswersHeader, HeaderCounts, with_layout}
use Rattle.dvd_commands.specs.Opening.{BreaksHeader, IsHeaderOf, fault_byte, shape_number, zones_number}
use Rattle.dvd_commands.specs.declared.opening.HeaderEnd.{HeaderEnd}
use Rattle.dvd_commands.specs.declared.opening.HeaderEnd.TheVariants as found
use Rattle.dvd_words.specs.Settings.{broken_rule}
use Rattle.dvd_words.specs.declared.settings.Settings.{Settings}

-- some zones have each number
pub zones_for : (n : ℕ) → n < 2 → (zones : Zones) × (zones_number zones ≡ n)
zones_for zero below = (DataOnly, refl)
zones_for (suc zero) below = (All, refl)
zones_for (suc (suc n)) below = absurd (omega arith)

-- A layout and zones with the numbers of a header are those that it states.
module _ (header : Header) (numbers : FitsHeader header) (zones : Zones) (zones_are : zones_number zones ≡ header.zones) where
  -- a layout with the header's shape and four numbers is the one that it states, in the settings of the words
  pub stated_by : (layout : Layout) → shape_number layout.shape ≡ header.shape → layout.sectors0 ≡ header.sectors0 → layout.sectors1 ≡ header.sectors1
      → layout.initial ≡ header.initial → layout.tail ≡ header.tail
      → (settings : Settings) → IsHeaderOf settings (with_layout settings layout zones) (header_bytes header)
  stated_by layout shape sectors0 sectors1 initial tail settings = record {
    header = header;
    numbers = numbers;
    bytes = refl;
    states = record { shape = shape; zones = zones_are; all = rw (sectors0, sectors1, initial, tail) refl };
  }

  -- and where no layout has them, the header breaks a rule
  pub broken_by : (shape : Shape) (fault : LayoutFault) → shape_number shape ≡ header.shape
      → first_fault shape header.sectors0 header.sectors1 header.initial header.tail ≡ Some fault
      → (at : ℕ) → at ≡ fault_byte fault → (settings : Settings) → BreaksHeader settings (header_bytes header) at
  broken_by shape fault shape_is broken at place settings =
      let stated : Settings = record settings {
        shape = shape;
        zones = zones;
        sectors = header.sectors0;
        sectors1 = header.sectors1;
        initial = header.initial;
        tail = header.tail;
      } in
      inr (
        stated,
        fault,
        record { header = header; numbers = numbers; bytes = refl; states = record { shape = shape_is; zones = zones_are; all = refl } },
        broken,
        place,
      )

-- a layout that is found breaks no rule
pub valid_by : (layout : Layout) (zones : Zones) (shape : Shape) (sectors0 sectors1 initial tail : ℕ) → layout.shape ≡ shape → layout.sectors0 ≡ sectors0
    → layout.sectors1 ≡ sectors1 → layout.initial ≡ initial → layout.tail ≡ tail → first_fault shape sectors0 sectors1 initial tail ≡ None
    → (settings : Settings) → broken_rule (with_layout settings layout zones) ≡ None
valid_by layout zones shape sectors0 sectors1 initial tail shape_is sectors0_is sectors1_is initial_is tail_is valid settings =
    rw (shape_is, sectors0_is, sectors1_is, initial_is, tail_is) valid

-- Of all 32 bytes neither a fault of a read nor the end of the input is answered.
pub whole_counts : (end : HeaderEnd) (own left : List ℕ) → length own ≡ 32 → AnswersHeader end own left → (old new : Seen) → HasGoneOn old new
    → HeaderCounts end old new
whole_counts (found.Found layout zones) own left size answers old new on = on
whole_counts (found.BadHeader at) own left size answers old new on = on
whole_counts (found.Short bytes) own left size answers old new on = absurd (let few = answers.0 in omega (arith, few, size))
whole_counts found.ReadFault own left size answers old new on = absurd (omega (arith, answers, size))
