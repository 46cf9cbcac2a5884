-- The lines of a report that name damaged CD-ROM sectors (ours). Each ends with one line feed.
use Rattle.std.specs.Prelude.{ℕ, List, ◌++◌, codes, decimal}
use Rattle.cd_sector.specs.declared.checking.CdCause.{CdCause}
use Rattle.cd_sector.specs.declared.checking.CdCause.TheVariants.{Parity, Mode, Address, Edc}
use Rattle.dvd_report.specs.Lines.{hexadecimal}

-- the first cause; an address has six hexadecimal digits: minute, second and frame as they were read
unfoldable pub cd_cause_text : CdCause → List ℕ
cd_cause_text (Parity word) = codes "parity " ++ decimal word
cd_cause_text (Mode byte) = codes "mode " ++ decimal byte
cd_cause_text (Address found) = codes "address found " ++ hexadecimal 6 found
cd_cause_text Edc = codes "edc"

-- sector k of the input, and its first cause
unfoldable pub damaged_sector_line : ℕ → CdCause → List ℕ
damaged_sector_line k cause = codes "sector " ++ decimal k ++ codes ": " ++ cd_cause_text cause ++ codes "\n"
