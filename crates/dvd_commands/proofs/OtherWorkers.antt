-- What settings say doesn't depend on their number of workers.
use Rattle.std.proofs.Common.{ℕ, List, ap}
use Rattle.dvd_layout.specs.declared.layout.Layout.{Layout}
use Rattle.dvd_commands.specs.Opening.{IsHeaderOf}
use Rattle.dvd_words.specs.Settings.{IsLayoutOf}
use Rattle.dvd_words.specs.declared.settings.Settings.{Settings}

-- the same settings with so many workers
abbrev pub set_workers : ℕ → Settings → Settings
set_workers workers settings = record settings { workers = workers }

-- they have the same layout
pub layout_with : (workers : ℕ) (settings : Settings) (layout : Layout) → IsLayoutOf settings layout → IsLayoutOf (set_workers workers settings) layout
layout_with workers settings layout is =
    record { shape = is.shape; sectors0 = is.sectors0; sectors1 = is.sectors1; initial = is.initial; tail = is.tail }

-- a header states the same for them
pub header_with : (workers : ℕ) (settings stated : Settings) (own : List ℕ) → IsHeaderOf settings stated own
    → IsHeaderOf (set_workers workers settings) (set_workers workers stated) own
header_with workers settings stated own is = record {
  header = is.header;
  numbers = is.numbers;
  bytes = is.bytes;
  states = record { shape = is.states.shape; zones = is.states.zones; all = ap (set_workers workers) is.states.all };
}
