-- The proof of `remainder_of` in src/remainders.rt.
use Rattle.std.proofs.Common.{refl, map}
use Rattle.std.specs.List.{range_with_len}
use Rattle.coding.specs.BitDivision.{plus_prefix, remainder_by}
use Rattle.coding.specs.Bits.{bits}
use Rattle.dvd_frame.specs.Inner.Registers.{byte_remainder}
use Rattle.std.proofs.lemmas.Slice.Eq.{bytes_eq-Decides}
use Rattle.dvd_frame.proofs.remainders.remainder_of.Goals as goal

-- computed over all 256 entries
pub returns : goal.returns
unfolding byte_remainder remainder_by plus_prefix bits
returns c = c.entry.ensures 0 ((bytes_eq-Decides _ (map (byte_remainder 0) (range_with_len 0 256))).0 refl)
