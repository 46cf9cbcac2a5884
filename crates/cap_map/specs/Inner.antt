-- What only the private functions of this crate promise. No public contract cites this page.
use Rattle.std.specs.Prelude.{◌≡◌, Result, Err}
use Rattle.cap_map.specs.Lines.{Fields4}
use Rattle.cap_map.specs.Map.{MapRead}
use Rattle.cap_map.specs.declared.draft.SpansDraft.{SpansDraft}
use Rattle.cap_map.specs.declared.draft.MapStop.{MapStop}
use Rattle.cap_map.specs.declared.draft.MapStop.TheVariants as stop
use Rattle.cap_map.specs.declared.fault.MapCause.{MapCause}
use Rattle.cap_map.specs.declared.fields.FieldsOf.{FieldsOf}

-- a draft, as what was read
abbrev pub read_of : SpansDraft → MapRead
read_of draft = record { opened = draft.opened; spans = draft.spans.items }

-- borrowed fields, as their bytes
abbrev pub field_bytes : FieldsOf → Fields4
field_bytes fields = record { first = fields.first.now; second = fields.second.now; third = fields.third.now; fourth = fields.fourth.now }

-- a line isn't accepted because it breaks this rule, or there is no memory
abbrev pub IsStopOf : {A : Type 0} → Result A MapCause → MapStop → Type 0
IsStopOf read stop.NoMemory = Unit {0}
IsStopOf read (stop.Rule cause) = read ≡ Err cause
