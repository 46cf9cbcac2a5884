-- Of a data block that two passes refuse the good frames are given.
use Rattle.std.proofs.Common.{◌≡◌, ◌∙◌, inl, inr, ℕ, ◌+◌, ◌-◌, ◌*◌, ◌<◌, ◌≤◌, Bool, true, false, nat_le, if◌then◌else◌, List, ◌++◌, length, length-append, take, drop, replicate, ap, sym, append-nil, arith}
use Rattle.std.specs.List.{flat_map}
use Rattle.std.proofs.lemmas.Bool.Decides.{leb_tells}
use Rattle.coding.specs.Product.{line}
use Rattle.dvd_capture.specs.Captured.{captured_marks, captured_rows}
use Rattle.coding.specs.TwoPass.{answers_of}
use Rattle.dvd_capture.proofs.Columns.{length-answers_of}
use Rattle.dvd_capture.proofs.Fetching.{part-append, part-after}
use Rattle.dvd_layout.specs.Lengths.{has_two_layers}
use Rattle.dvd_layout.specs.Place.{image_sectors}
use Rattle.dvd_layout.specs.declared.layout.Layout.{Layout}
use Rattle.dvd_layout.specs.declared.entry.BlockPlan.{BlockPlan}
use Rattle.dvd_loop.specs.Machine.{Step}
use Rattle.dvd_loop.specs.UnitCommand.{written}
use Rattle.dvd_loop.specs.declared.ends.UnitKind.{UnitKind}
use Rattle.dvd_decoding.specs.Salvage.{block_out}
use Rattle.dvd_read.proofs.Outcomes.{agrees-no_cause}
use Rattle.dvd_read.proofs.SavedLaws.{good_rows-saved, sixteen-sectors}
use Rattle.dvd_decoding.specs.Reading.{block_cause}
use Rattle.dvd_commands.specs.Master.{cpr_in, filled_block, frames_of}
use Rattle.dvd_commands.specs.Recover.{IsRefused}
use Rattle.dvd_commands.specs.Laws.{GoodFramesOfARefusedBlockAreGiven}
use Rattle.dvd_commands.specs.Inner.Performing.{sectors_out}
use Rattle.dvd_commands.proofs.PlanEntries.{has_numbers}
use Rattle.dvd_commands.proofs.SectorsWritten.{sectors_prefix, sectors_more}
use Rattle.dvd_commands.proofs.RecoveredWidths.{length-out}
use Rattle.dvd_commands.proofs.BlocksWithinBound.{captured-received, recovered_at}
use Rattle.dvd_commands.proofs.ImageInBlocks.{data_block-made, few-sectors, sector}

-- what a row weighs, by whether it is cheap and whether it is lost
abbrev weight_by : Bool → Bool → ℕ
weight_by cheap lost = if cheap then 0 else if lost then 1 else 2

-- a row that weighs nothing costs at most 10
weightless : (price : ℕ) (lost : Bool) → weight_by (nat_le price 10) lost ≡ 0 → price ≤ 10
weightless price lost is = elim (leb_tells price 10) [
  | inl (cheap, le) ↦ le
  | inr (dear, lt) ↦ absurd (heavy lost (ap (λ cheap. weight_by cheap lost) (sym dear) ∙ is))
]
  where
    heavy : (lost : Bool) → weight_by false lost ≡ 0 → ⊥
    heavy true none = omega (arith, none)
    heavy false none = omega (arith, none)

-- sector f comes after those before it
sector-at : (sectors : List (List ℕ)) (count f : ℕ) → f < count → ((g : ℕ) → g < count → length (line sectors g) ≡ 2048)
    → take 2048 (drop (2048 * f) (sectors_out count sectors)) ≡ line sectors f
sector-at sectors count f below widths =
    let rest = flat_map (λ (sector : List ℕ). sector) (take (count - (f + 1)) (drop (f + 1) sectors)) in
    let all : f + 1 + (count - (f + 1)) ≡ count = omega arith in
    let before = length-out sectors f (λ g lt. widths g (omega arith)) in
    let here = widths f below in
    let prefix_size : length (sectors_out f sectors ++ line sectors f) ≡ 2048 * f + 2048 = length-append (sectors_out f sectors) (line sectors f) ∙ omega arith in
    let is : sectors_out count sectors ≡ (sectors_out f sectors ++ line sectors f) ++ rest =
    ap (λ n. sectors_out n sectors) (sym all) ∙ sym (sectors_prefix sectors (f + 1) (count - (f + 1))) ∙ ap (λ l. l ++ rest) (sym (sectors_more sectors f)) in
    ap (λ l. take 2048 (drop (2048 * f) l)) is
    ∙ part-append (sectors_out f sectors ++ line sectors f) rest (2048 * f) 2048 (omega arith)
    ∙ part-after (sectors_out f sectors) (line sectors f) (2048 * f) 2048 before here

-- the image bytes of a block begin what fills it
sector-filled_block : (image : List ℕ) (f : ℕ) → 2048 * f + 2048 ≤ length image → sector (filled_block image) f ≡ take 2048 (drop (2048 * f) image)
sector-filled_block image f inside = part-append image (replicate (32768 - length image) 0) (2048 * f) 2048 inside

-- what is written of a refused block
refused-written : (layout : Layout) (k : ℕ) (entry : BlockPlan) (rows : List (List ℕ)) (marks : List (List Bool)) (steps : List Step) (kind : UnitKind)
    → IsRefused (block_cause rows marks entry) layout k entry rows marks steps kind → written steps ≡ sectors_out (image_sectors layout entry.content) (block_out rows marks entry)
refused-written layout k entry rows marks steps kind refused =
    ap written refused.reports ∙ append-nil (sectors_out (image_sectors layout entry.content) (block_out rows marks entry))

-- the law: each good frame of a refused block is given with the image sector that it was mastered from
pub given_good : GoodFramesOfARefusedBlockAreGiven
given_good layout zones form cpr k f entry image own block cause steps kind is_there is_image cpr_size image_size is_block size first below good does =
    let rows = captured_rows form own in
    let marks = captured_marks form own in
    let count = image_sectors layout entry.content in
    let few = few-sectors layout entry.content in
    let received = captured-received form own size in
    let made = data_block-made layout entry cpr image is_image cpr_size (omega (arith, image_size, few)) in
    let saved = good_rows-saved entry (has_two_layers layout.shape) (cpr_in entry.area cpr) (sector (filled_block image)) (frames_of layout entry cpr (filled_block image)) block rows marks cause f
    (has_numbers layout zones k entry is_there) made is_block received first (omega arith) (λ q lt. weightless _ _ (good q lt)) in
    let widths = (sixteen-sectors rows marks received.height received.marks_height entry).1 in
    elim (recovered_at layout zones form k entry own steps kind is_there is_image does) [
      | inl given ↦
          let none = agrees-no_cause (answers_of rows marks) given.read.block (length-answers_of rows marks 208 received.height received.marks_height) given.read.agrees in
          cc
      | inr refused ↦
          ap (λ l. take 2048 (drop (2048 * f) l)) (refused-written layout k entry rows marks steps kind refused)
          ∙ sector-at (block_out rows marks entry) count f below (λ g lt. widths g (omega arith))
          ∙ saved
          ∙ sector-filled_block image f (omega (arith, image_size))
    ]
