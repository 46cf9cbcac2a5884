-- The exit statuses of `mark`.
use Rattle.std.specs.Prelude.{ℕ, zero, suc}
use Rattle.cap_map.specs.declared.fault.MapFault.TheVariants as faults
use Rattle.cap_top.specs.declared.mark.opening.MapRefusal.{MapRefusal}
use Rattle.cap_top.specs.declared.mark.opening.MapRefusal.TheVariants as refusals
use Rattle.cap_top.specs.declared.status.Status.{Status}
use Rattle.cap_top.specs.declared.status.Status.TheVariants as status
use Rattle.dvd_loop.specs.declared.ends.LoopEnd.{LoopEnd}
use Rattle.dvd_loop.specs.declared.ends.LoopEnd.TheVariants as ends

-- a capture that ends before a frame is whole
abbrev pub short_status : ℕ → Status
short_status zero = status.Done
short_status (suc bytes) = status.Short

-- the status of each end that `mark` has
abbrev pub status_of : LoopEnd → Status
status_of ends.Done = status.Done
status_of ends.ReadFault = status.ReadFault
status_of ends.WriteFault = status.WriteFault
status_of (ends.Short frame bytes) = short_status bytes
status_of ends.Long = status.Long
status_of other = status.ReportFault

-- the status of a run that doesn't begin
abbrev pub refusal_status : MapRefusal → Status
refusal_status refusals.ReadFault = status.ReadFault
refusal_status (refusals.Text faults.NoMemory) = status.NoMemory
refusal_status (refusals.Text (faults.Rule line cause)) = status.BadInput
