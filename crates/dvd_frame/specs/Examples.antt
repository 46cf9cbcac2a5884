-- Worked values from outside the program.
use Rattle.std.specs.Prelude.{◌≡◌, true, false, [], ◌∷◌, ◌++◌, refl}
use Rattle.coding.specs.BitDivision.{plus_prefix, remainder_by}
use Rattle.coding.specs.Field.{shift, shifted, partial_product, product, power}
use Rattle.coding.specs.Words.{value}
use Rattle.coding.specs.Bits.{bits, bits_of}
use Rattle.dvd_frame.specs.Edc.{edc_of}
use Rattle.dvd_frame.specs.Id.{id_word, word_bytes, has_check}
use Rattle.dvd_frame.specs.Scrambling.{preset_of, sequence, scrambling_byte}
use Rattle.dvd_frame.specs.declared.id.Area.TheVariants.{DataZone, LeadIn}

-- the ID word of the first data sector
word-data : id_word DataZone 0 false 0x030000 ≡ 0x00030000
word-data = refl

-- the ID word of the first sector of the reference code, in the lead-in of layer 0
word-reference : id_word LeadIn 0 false 0x02F000 ≡ 0x0402F000
word-reference = refl

-- the ID word of a data sector of layer 1, on a disk that reflects 40 % or less
word-layer_1 : id_word DataZone 1 true 0xFCFFE0 ≡ 0x21FCFFE0
word-layer_1 = refl

-- the ID of the first reference sector, followed by its IED, vanishes at both roots
check-reference : has_check (word_bytes 0x0402F000 ++ 0x88 ∷ 0x7E ∷ []) ≡ true
unfolding value power product partial_product shifted shift
check-reference = refl

-- and so does the ID of the data sector of layer 1 with its own IED
check-layer_1 : has_check (word_bytes 0x21FCFFE0 ++ 0x5F ∷ 0x9D ∷ []) ≡ true
unfolding value power product partial_product shifted shift
check-layer_1 = refl

-- with the two bytes of its IED exchanged, the first reference sector's ID has no check
check-swapped : has_check (word_bytes 0x0402F000 ++ 0x7E ∷ 0x88 ∷ []) ≡ false
unfolding value power product partial_product shifted shift
check-swapped = refl

-- the EDC of no bytes at all is zero
edc-none : edc_of [] ≡ 0x00 ∷ 0x00 ∷ 0x00 ∷ 0x00 ∷ []
unfolding edc_of remainder_by plus_prefix bits_of bits
edc-none = refl

-- the EDC of the single byte 0x01
edc-01 : edc_of (0x01 ∷ []) ≡ 0x80 ∷ 0x00 ∷ 0x00 ∷ 0x11 ∷ []
unfolding edc_of remainder_by plus_prefix bits_of bits
edc-01 = refl

-- the EDC of the single byte 0x02
edc-02 : edc_of (0x02 ∷ []) ≡ 0x80 ∷ 0x00 ∷ 0x00 ∷ 0x33 ∷ []
unfolding edc_of remainder_by plus_prefix bits_of bits
edc-02 = refl

-- the first data sector has the first preset, as bits b7 to b4 of its number are 0
preset-030000 : preset_of 0x030000 ≡ 0x0001
preset-030000 = refl

-- a sector with 15 in bits b7 to b4 of its number has the last preset
preset-0300F0 : preset_of 0x0300F0 ≡ 0x0005
preset-0300F0 = refl

-- scrambling bytes 0, 1, 2 and 6 of the preset 0001
bytes-0001 : scrambling_byte 0x0001 0 ∷ scrambling_byte 0x0001 1 ∷ scrambling_byte 0x0001 2 ∷ scrambling_byte 0x0001 6 ∷ [] ≡ 0x01 ∷ 0x00 ∷ 0x22 ∷ 0x98 ∷ []
unfolding scrambling_byte sequence bits
bytes-0001 = refl

-- scrambling bytes 0 to 2 of the preset 5500
bytes-5500 : scrambling_byte 0x5500 0 ∷ scrambling_byte 0x5500 1 ∷ scrambling_byte 0x5500 2 ∷ [] ≡ 0x00 ∷ 0x0A ∷ 0x01 ∷ []
unfolding scrambling_byte sequence bits
bytes-5500 = refl
