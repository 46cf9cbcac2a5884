-- The lines of the report of `mark`. Each ends with one line feed.
use Rattle.std.specs.Prelude.{ℕ, zero, suc, List, [], ◌++◌, codes, decimal}
use Rattle.cap_map.specs.declared.fault.MapFault.TheVariants as faults
use Rattle.cap_top.specs.Causes.{rule_line}
use Rattle.cap_top.specs.declared.mark.opening.MapRefusal.{MapRefusal}
use Rattle.cap_top.specs.declared.mark.opening.MapRefusal.TheVariants.{ReadFault, Text}
use Rattle.cap_top.specs.declared.causes.LineCause.TheVariants as causes
use Rattle.dvd_loop.specs.declared.ends.LoopEnd.{LoopEnd}
use Rattle.dvd_loop.specs.declared.ends.LoopEnd.TheVariants as ends

-- the line of an end within a frame: none of its bytes came where the capture is whole
abbrev pub short_line : ℕ → ℕ → List ℕ
short_line frame zero = codes "done\n"
short_line frame (suc bytes) = codes "short: frame " ++ decimal frame ++ codes ", " ++ decimal (suc bytes) ++ codes " bytes\n"

-- the closing line of each end that `mark` has; there is none after a fault of the report
abbrev pub closing_line : LoopEnd → List ℕ
closing_line ends.Done = codes "done\n"
closing_line ends.ReadFault = codes "read fault\n"
closing_line ends.WriteFault = codes "write fault\n"
closing_line (ends.Short frame bytes) = short_line frame bytes
closing_line ends.Long = codes "long\n"
closing_line other = []

-- the line of a run that doesn't begin
abbrev pub refusal_line : MapRefusal → List ℕ
refusal_line ReadFault = codes "map: read fault\n"
refusal_line (Text faults.NoMemory) = codes "no memory\n"
refusal_line (Text (faults.Rule line cause)) = rule_line (causes.Map cause) line
