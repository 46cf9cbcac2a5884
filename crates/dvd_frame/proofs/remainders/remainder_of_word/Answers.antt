-- The proof of `remainder_of_word` in src/remainders.rt.
use Rattle.std.proofs.Common.{refl, map, arith}
use Rattle.std.specs.List.{range_with_len}
use Rattle.std.proofs.lemmas.Slice.Eq.{bytes_eq-Decides}
use Rattle.coding.specs.BitDivision.{plus_prefix, remainder_by}
use Rattle.coding.specs.Bits.{bits}
use Rattle.dvd_frame.specs.Inner.Registers.{byte_remainder}
use Rattle.dvd_frame.proofs.WordDivision.{word_remainder}
use Rattle.dvd_frame.proofs.remainders.remainder_of_word.Goals as goal

-- computed over all 256 entries of each table
pub returns : goal.returns
unfolding byte_remainder remainder_by plus_prefix bits
returns c =
    word_remainder c.args.word c.entry.result c.entry-2.result c.entry-3.result c.entry-4.result c.entry-5.result c.entry-6.result c.entry-7.result c.entry-8.result (omega arith)
    (c.entry.ensures 7 ((bytes_eq-Decides _ (map (byte_remainder 7) (range_with_len 0 256))).0 refl))
    (c.entry-2.ensures 6 ((bytes_eq-Decides _ (map (byte_remainder 6) (range_with_len 0 256))).0 refl))
    (c.entry-3.ensures 5 ((bytes_eq-Decides _ (map (byte_remainder 5) (range_with_len 0 256))).0 refl))
    (c.entry-4.ensures 4 ((bytes_eq-Decides _ (map (byte_remainder 4) (range_with_len 0 256))).0 refl))
    (c.entry-5.ensures 3 ((bytes_eq-Decides _ (map (byte_remainder 3) (range_with_len 0 256))).0 refl))
    (c.entry-6.ensures 2 ((bytes_eq-Decides _ (map (byte_remainder 2) (range_with_len 0 256))).0 refl))
    (c.entry-7.ensures 1 ((bytes_eq-Decides _ (map (byte_remainder 1) (range_with_len 0 256))).0 refl))
    (c.entry-8.ensures 0 ((bytes_eq-Decides _ (map (byte_remainder 0) (range_with_len 0 256))).0 refl))
