-- The Main Data of a frame are 2,048 bytes, whatever its block holds.
use Rattle.std.proofs.Common.{◌≡◌, ℕ, ◌+◌, ◌-◌, ◌*◌, ◌/◌, ◌%◌, ◌^◌, ◌<◌, ◌≤◌, ◌==◌, Bool, true, false, cond, List, [], ◌∷◌, length, replicate, refl, ap, arith}
use Rattle.dvd_control.specs.Format.{fields_for, format_bytes, head_bytes, three_bytes}
use Rattle.dvd_control.specs.MainData.{main_bytes}
use Rattle.dvd_frame.specs.declared.id.Area.{Area}
use Rattle.dvd_frame.specs.declared.id.Area.TheVariants.{DataZone, LeadIn, LeadOut, Middle}
use Rattle.dvd_control.proofs.LastSectors.{last_by, opposite-first}
use Rattle.dvd_layout.specs.Lengths.{has_two_layers, is_opposite, padded}
use Rattle.dvd_layout.specs.Place.{image_sectors}
use Rattle.dvd_layout.specs.declared.entry.BlockPlan.{BlockPlan}
use Rattle.dvd_layout.specs.declared.entry.Content.{Content}
use Rattle.dvd_layout.specs.declared.entry.Content.TheVariants.{Zero, Reference, Control, Image}
use Rattle.dvd_layout.specs.declared.layout.Layout.{Layout}
use Rattle.dvd_layout.specs.declared.layout.Shape.{Shape}
use Rattle.dvd_layout.specs.declared.layout.Shape.TheVariants.{Single, Parallel, Opposite}
use Rattle.dvd_commands.specs.Master.{cpr_in, filled_block, main_for}
use Rattle.dvd_commands.proofs.FrameBytes.{HasBytes, bytes-append, bytes-part, bytes-replicate, two_bytes}
use Rattle.dvd_commands.proofs.ImageInBlocks.{few-sectors}

-- the last sector of the Data Zone has a number of 24 bits
layer_number : (layout : Layout) (first : Bool) → 0x30000 + padded (cond first layout.sectors0 layout.sectors1) - 1 < 2 ^ 24
layer_number layout true = omega (arith, layout.end0)
layer_number layout false = omega (arith, layout.end1)

-- the last sector that the lead-in of a layer names has 24 bits
last_number : (layout : Layout) (shape : Shape) (layer : ℕ) → layout.shape ≡ shape → last_by shape layout layer < 2 ^ 24
last_number layout Single layer is = layer_number layout (layer == 0)
last_number layout Parallel layer is = layer_number layout (layer == 0)
last_number layout Opposite layer is =
    let no_longer = layout.no_longer (ap is_opposite is) in
    omega (arith, layout.end0, opposite-first layout is)

-- a number or 0 is at most that number
cond-le : (b : Bool) (n : ℕ) → cond b n 0 ≤ n
cond-le true n = omega arith
cond-le false n = omega arith

-- a sector number is written in four bytes, the first of them 0
bytes-number : (number : ℕ) → number < 2 ^ 24 → HasBytes 4 (0 ∷ three_bytes number)
bytes-number number below =
    bytes-append 2 2 4 (0 ∷ number / 65536 ∷ []) (number / 256 % 256 ∷ number % 256 ∷ []) (omega arith)
    (two_bytes 0 (number / 65536) (omega arith) (omega arith)) (two_bytes (number / 256 % 256) (number % 256) (omega arith) (omega arith))

-- the head of a physical format is 17 bytes: version and rate, layers and density, three sector numbers, and the burst
-- cutting area, of which there is none
bytes-head : (layout : Layout) (layer : ℕ) → HasBytes 17 (head_bytes (fields_for layout layer))
unfolding fields_for
bytes-head layout layer =
    let two = cond-le (has_two_layers layout.shape) 32 in
    let opposite = cond-le (is_opposite layout.shape) 16 in
    let density = cond-le (has_two_layers layout.shape) 1 in
    let layer0 = cond-le (is_opposite layout.shape) (0x30000 + padded layout.sectors0 - 1) in
    bytes-append 16 1 17 _ (replicate 1 0) (omega arith)
    (bytes-append 12 4 16 _ _ (omega arith)
    (bytes-append 8 4 12 _ _ (omega arith)
    (bytes-append 4 4 8 _ _ (omega arith)
    (bytes-append 2 2 4 _ _ (omega arith) (two_bytes 1 2 (omega arith) (omega arith)) (two_bytes _ _ (omega arith) (omega arith)))
    (bytes-number 0x30000 (omega arith)))
    (bytes-number (last_by layout.shape layout layer) (last_number layout layout.shape layer refl)))
    (bytes-number _ (omega (arith, layout.end0))))
    (bytes-replicate 1 0 (omega arith))

-- the physical format sector of a layer is 2,048 bytes
bytes-format : (layout : Layout) (layer : ℕ) → HasBytes 2048 (format_bytes (fields_for layout layer))
unfolding format_bytes
bytes-format layout layer =
    bytes-append 17 2031 2048 (head_bytes (fields_for layout layer)) (replicate 2031 0) (omega arith) (bytes-head layout layer) (bytes-replicate 2031 0 (omega arith))

-- so are 2,048 zeros
zeros : HasBytes 2048 (replicate 2048 0)
zeros = bytes-replicate 2048 0 (omega arith)

-- and each sector of a control block, the first of which has the physical format
bytes-control : (layout : Layout) (layer : ℕ) (first : Bool) → HasBytes 2048 (cond first (format_bytes (fields_for layout layer)) (replicate 2048 0))
bytes-control layout layer true = bytes-format layout layer
bytes-control layout layer false = zeros

-- the Main Data of a frame are 2,048 bytes for each content
bytes-main : (content : Content) (layout : Layout) (entry : BlockPlan) (f : ℕ) → entry.content ≡ content → HasBytes 2048 (main_bytes layout entry f)
unfolding main_bytes
bytes-main Zero layout entry f is = rw is zeros
bytes-main Reference layout entry f is = rw is (bytes-replicate 2048 0xAC (omega arith))
bytes-main Control layout entry f is = rw is (bytes-control layout entry.layer (f == 0))
bytes-main (Image sector) layout entry f is = rw is zeros

-- for a block of image they are its own, for the others those of its content
pub bytes-main_for : (content : Content) (layout : Layout) (entry : BlockPlan) (sectors : List ℕ) (f : ℕ) → f < 16 → HasBytes 32768 sectors
    → HasBytes 2048 (main_for content layout entry sectors f)
bytes-main_for (Image sector) layout entry sectors f below all = bytes-part (2048 * f) 2048 32768 sectors (omega arith) all
bytes-main_for Zero layout entry sectors f below all = bytes-main entry.content layout entry f refl
bytes-main_for Reference layout entry sectors f below all = bytes-main entry.content layout entry f refl
bytes-main_for Control layout entry sectors f below all = bytes-main entry.content layout entry f refl

-- CPR_MAI is six bytes in each area
pub bytes-cpr : (area : Area) (cpr : List ℕ) → HasBytes 6 cpr → HasBytes 6 (cpr_in area cpr)
bytes-cpr DataZone cpr six = six
bytes-cpr LeadIn cpr six = bytes-replicate 6 0 (omega arith)
bytes-cpr LeadOut cpr six = bytes-replicate 6 0 (omega arith)
bytes-cpr Middle cpr six = bytes-replicate 6 0 (omega arith)

-- the image bytes of a block, with the zeros after them, are sixteen sectors
pub bytes-filled_block : (layout : Layout) (content : Content) (own : List ℕ) → HasBytes (2048 * image_sectors layout content) own
    → HasBytes 32768 (filled_block own)
bytes-filled_block layout content own all =
    let most : length own ≤ 32768 = omega (arith, all.size, few-sectors layout content) in
    bytes-append (length own) (32768 - length own) 32768 own (replicate (32768 - length own) 0) (omega arith)
    (record { size = refl; bytes = all.bytes }) (bytes-replicate (32768 - length own) 0 (omega arith))
