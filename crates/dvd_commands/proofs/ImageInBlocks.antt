-- A data block by the image bytes that it is mastered from: its sectors, and that its frames are made of them.
use Rattle.std.proofs.Common.{◌≡◌, ◌∙◌, ℕ, zero, suc, ◌+◌, ◌-◌, ◌*◌, ◌<◌, ◌≤◌, List, [], ◌++◌, length, map, take, drop, replicate, refl, sym, ap, arith, add-one}
use Rattle.std.specs.List.{range_with_len}
use Rattle.std.proofs.Math.Seq.{take-add}
use Rattle.std.proofs.lemmas.List.{length-take-le, length-drop, length-append, take_at, length-replicate}
use Rattle.std.proofs.lemmas.List.FromFn.{get_or-map-range_with_len}
use Rattle.dvd_frame.specs.Id.{id_word}
use Rattle.dvd_frame.specs.Frame.{data_frame}
use Rattle.dvd_frame.specs.declared.id.Area.{Area}
use Rattle.dvd_frame.specs.declared.id.Area.TheVariants.{DataZone, LeadIn, LeadOut, Middle}
use Rattle.coding.specs.Product.{line}
use Rattle.dvd_layout.specs.Lengths.{has_two_layers}
use Rattle.dvd_layout.specs.Content.{IsImage}
use Rattle.dvd_layout.specs.Place.{image_sectors, rule_for}
use Rattle.dvd_layout.specs.declared.entry.BlockPlan.{BlockPlan}
use Rattle.dvd_layout.specs.declared.entry.Content.{Content}
use Rattle.dvd_layout.specs.declared.entry.Content.TheVariants.{Zero, Reference, Control, Image}
use Rattle.dvd_layout.specs.declared.layout.Layout.{Layout}
use Rattle.dvd_decoding.specs.Made.{IsMadeOf}
use Rattle.dvd_commands.specs.Master.{cpr_in, filled_block, frames_of, main_for}
use Rattle.dvd_commands.specs.Inner.Performing.{sectors_out}
use Rattle.dvd_commands.proofs.BlockFrames.{line-frames_of}
use Rattle.dvd_commands.proofs.SectorsWritten.{sectors_more}

-- sector f of these bytes
abbrev pub sector : List ℕ → ℕ → List ℕ
sector sectors f = take 2048 (drop (2048 * f) sectors)

-- the sixteen sectors, in order
abbrev pub sectors_list : List ℕ → List (List ℕ)
sectors_list sectors = map (sector sectors) (range_with_len 0 16)

-- each has 2,048 bytes
length-sector : (sectors : List ℕ) (f : ℕ) → length sectors ≡ 32768 → f < 16 → length (sector sectors f) ≡ 2048
length-sector sectors f size below = length-take-le 2048 (drop (2048 * f) sectors) (omega (arith, length-drop (2048 * f) sectors))

-- the first n of them, one after the other
sectors-joined : (sectors : List ℕ) (n : ℕ) → n ≤ 16 → sectors_out n (sectors_list sectors) ≡ take (2048 * n) sectors
sectors-joined sectors zero few = refl
sectors-joined sectors (suc n) few =
    let list = sectors_list sectors in
    let more : 2048 * n + 2048 ≡ 2048 * suc n = omega arith in
    ap (λ m. sectors_out m list) (sym (add-one n))
    ∙ sym (sectors_more list n)
    ∙ ap (λ l. l ++ line list n) (sectors-joined sectors n (omega arith))
    ∙ ap (λ l. take (2048 * n) sectors ++ l) (get_or-map-range_with_len (sector sectors) 0 16 n n [] (omega arith) (omega arith))
    ∙ sym (take-add (2048 * n) 2048 sectors)
    ∙ ap (λ m. take m sectors) more

-- image bytes filled to sixteen sectors
length-filled_block : (image : List ℕ) → length image ≤ 32768 → length (filled_block image) ≡ 32768
length-filled_block image most = omega (arith, length-append image (replicate (32768 - length image) 0), length-replicate {A = ℕ} (32768 - length image) 0)

-- the image sectors of a data block are the image bytes that it was filled from
pub written-image : (layout : Layout) (content : Content) (image : List ℕ) → image_sectors layout content ≤ 16
    → length image ≡ 2048 * image_sectors layout content
    → sectors_out (image_sectors layout content) (sectors_list (filled_block image)) ≡ image
written-image layout content image few size =
    sectors-joined (filled_block image) (image_sectors layout content) few
    ∙ take_at image (replicate (32768 - length image) 0) (2048 * image_sectors layout content) size

-- a block has sixteen image sectors at most
pub few-sectors : (layout : Layout) (content : Content) → image_sectors layout content ≤ 16
few-sectors layout (Image sector) = omega arith
few-sectors layout Zero = omega arith
few-sectors layout Reference = omega arith
few-sectors layout Control = omega arith

-- CPR_MAI has six bytes in each area
cpr-size : (area : Area) (cpr : List ℕ) → length cpr ≡ 6 → length (cpr_in area cpr) ≡ 6
cpr-size DataZone cpr size = size
cpr-size LeadIn cpr size = length-replicate {A = ℕ} 6 0
cpr-size LeadOut cpr size = length-replicate {A = ℕ} 6 0
cpr-size Middle cpr size = length-replicate {A = ℕ} 6 0

-- the Main Data of frame f in a block of image are image sector f
main-image : (content : Content) (layout : Layout) (entry : BlockPlan) (sectors : List ℕ) (f : ℕ) → IsImage content
    → main_for content layout entry sectors f ≡ sector sectors f
main-image (Image a) layout entry sectors f is = refl
main-image Zero layout entry sectors f is = absurd is
main-image Reference layout entry sectors f is = absurd is
main-image Control layout entry sectors f is = absurd is

-- a data block is made of its image sectors
pub data_block-made : (layout : Layout) (entry : BlockPlan) (cpr image : List ℕ) → IsImage entry.content → length cpr ≡ 6 → length image ≤ 32768
    → IsMadeOf entry (has_two_layers layout.shape) (cpr_in entry.area cpr) (sector (filled_block image)) (frames_of layout entry cpr (filled_block image))
data_block-made layout entry cpr image is_image cpr_size most = record {
  cpr_size = cpr-size entry.area cpr cpr_size;
  sizes = λ f below. length-sector (filled_block image) f (length-filled_block image most) below;
  are = λ f below.
      line-frames_of layout entry cpr (filled_block image) f below
      ∙ ap (λ (main : List ℕ). data_frame (id_word entry.area entry.layer (has_two_layers layout.shape) (entry.first + f)) (cpr_in entry.area cpr) (rule_for entry.content f) main)
      (main-image entry.content layout entry (filled_block image) f is_image);
}
