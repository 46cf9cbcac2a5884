-- The map of a run, which is read whole before the capture is touched.
use Rattle.std.specs.Prelude.{◌≡◌, ℕ, List, Ok, Err}
use Rattle.dvd_ports.specs.Bytes.{Consumes, IsAtEnd}
use Rattle.cap_map.specs.Map.{map_of}
use Rattle.cap_map.specs.declared.fault.MapCause.{MapCause}
use Rattle.cap_map.specs.declared.fault.MapFault.TheVariants as faults
use Rattle.cap_map.specs.declared.span.Span.{Span}
use Rattle.cap_top.specs.declared.mark.opening.MapRefusal.{MapRefusal}
use Rattle.cap_top.specs.declared.mark.opening.MapRefusal.TheVariants.{ReadFault, Text}
use Rattle.dvd_ports.specs.Causes.{HasFailed, HasMetEnd}
use Rattle.dvd_ports.specs.Seen.{Seen}

-- these are all bytes of a source, where they are known; no read failed, and none came after the end
pub record TextIs (old new : Seen) (text : List ℕ) : Type 0 where
  pub reads : Consumes old.bytes new.bytes text
  pub at_end : IsAtEnd new.bytes
  pub met : HasMetEnd old new

-- the text of the map breaks no rule, and says these spans
pub record OpensMap (good : List ℕ) (old new : Seen) (spans : List Span) : Type 0 where
  pub text : List ℕ
  pub is_text : TextIs old new text
  pub says : map_of good text ≡ Ok spans

-- a line of it breaks a rule
pub record BreaksMap (good : List ℕ) (old new : Seen) (line : ℕ) (cause : MapCause) : Type 0 where
  pub text : List ℕ
  pub is_text : TextIs old new text
  pub says : map_of good text ≡ Err (faults.Rule line cause)

-- why the text of a map isn't read: one read failed, the last; or there is no memory, and a contract can say no more
abbrev pub IsTextFault : Seen → Seen → MapRefusal → Type 0
IsTextFault old new ReadFault = HasFailed old new
IsTextFault old new (Text faults.NoMemory) = Unit {0}
IsTextFault old new (Text (faults.Rule line cause)) = ⊥

-- why there are no spans
abbrev pub IsMapRefused : List ℕ → Seen → Seen → MapRefusal → Type 0
IsMapRefused good old new ReadFault = HasFailed old new
IsMapRefused good old new (Text faults.NoMemory) = Unit {0}
IsMapRefused good old new (Text (faults.Rule line cause)) = BreaksMap good old new line cause
