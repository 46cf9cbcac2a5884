-- Scrambled frames (ECMA-267, 17): which Main Data bytes are combined with which bytes.
-- The standard's circuit is a register of 15 bits; here its bits are one sequence.
use Rattle.std.specs.Prelude.{ℕ, zero, suc, ◌+◌, ◌*◌, ◌/◌, ◌%◌, bit_xor, nat_lt, if◌then◌else◌, List, [], ◌∷◌, ◌++◌, length, drop, map, slice_index}
use Rattle.std.specs.List.{range_with_len}
use Rattle.coding.specs.Bits.{bits, number_of}
use Rattle.dvd_frame.specs.declared.scrambling.Rule.{Rule}
use Rattle.dvd_frame.specs.declared.scrambling.Rule.TheVariants.{Whole, Off, First160}

-- the initial values by bits b7 to b4 of the ID
abbrev pub presets : List ℕ
presets = 0x0001 ∷ 0x5500 ∷ 0x0002 ∷ 0x2A00 ∷ 0x0004 ∷ 0x5400 ∷ 0x0008 ∷ 0x2800 ∷ 0x0010 ∷ 0x5000 ∷ 0x0020 ∷ 0x2001 ∷ 0x0040 ∷ 0x4002 ∷ 0x0080 ∷ 0x0005 ∷ []

-- the preset of a frame, which bits b7 to b4 of its ID word choose
abbrev pub preset_of : ℕ → ℕ
preset_of word = slice_index presets (word / 16 % 16)

-- The first 15 + n bits of a preset's sequence u: its own 15 bits, and then u(n+15) = u(n) + u(n+4).
unfoldable pub sequence : ℕ → ℕ → List ℕ
sequence preset zero = bits 15 preset
sequence preset (suc n) =
    sequence preset n ++ bit_xor (slice_index (sequence preset n) n) (slice_index (sequence preset n) (n + 4)) ∷ []

-- scrambling byte k: of the first 15 + 8k bits the last eight, u(8k+7) to u(8k+14)
unfoldable pub scrambling_byte : ℕ → ℕ → ℕ
scrambling_byte preset k = number_of (drop (8 * k + 7) (sequence preset (8 * k)))

-- how many Main Data bytes are scrambled
abbrev pub scrambled_count : Rule → ℕ
scrambled_count Whole = 2048
scrambled_count Off = 0
scrambled_count First160 = 160

-- what Main Data byte k of a frame with this ID word is combined with
unfoldable pub mask : ℕ → Rule → ℕ → ℕ
mask word rule k = if nat_lt k (scrambled_count rule) then scrambling_byte (preset_of word) k else 0

-- Main Data as they are in a scrambled frame: byte k combined with mask k. Masked twice they are as they were.
unfoldable pub masked : ℕ → Rule → List ℕ → List ℕ
masked word rule main = map (λ k. bit_xor (slice_index main k) (mask word rule k)) (range_with_len 0 (length main))

-- u(8k) to u(8k+14), the 15 bits that the register of a preset shows at byte k
unfoldable pub window : ℕ → ℕ → List ℕ
window preset k = drop (8 * k) (sequence preset (8 * k))
