-- A data block whose damage is within the bound gives back the image sectors that it was mastered from.
use Rattle.std.proofs.Common.{◌≡◌, ◌∙◌, ℕ, ◌+◌, ◌*◌, ◌<◌, ◌≤◌, Bool, false, inl, inr, List, [], ◌∷◌, ◌++◌, length, take, drop, slice_get, Some, None, ap, subst, arith}
use Rattle.std.proofs.lemmas.List.{length-take-le, length-drop, length-replicate}
use Rattle.std.proofs.lemmas.List.Elements.{All-from_get_or}
use Rattle.std.proofs.lemmas.List.FromFn.{length-map-range_with_len, get_or-map-range_with_len}
use Rattle.coding.specs.Recording.{record_at}
use Rattle.dvd_capture.specs.Listed.{marked_by, run_count}
use Rattle.dvd_capture.specs.Captured.{block_size, captured_marks, captured_rows, record_marks, record_of}
use Rattle.coding.specs.Product.{IsBlockOf}
use Rattle.coding.specs.TwoPass.{answers_of}
use Rattle.coding.specs.Within.{IsWithin}
use Rattle.dvd_capture.proofs.Columns.{length-answers_of}
use Rattle.dvd_capture.specs.declared.form.Form.{Form}
use Rattle.dvd_capture.specs.declared.form.Form.TheVariants.{Listed, Plain, Marked}
use Rattle.dvd_capture.proofs.Fetching.{record_at-lt}
use Rattle.dvd_capture.proofs.MarkLists.{length-marks_of}
use Rattle.dvd_layout.specs.Content.{IsImage}
use Rattle.dvd_layout.specs.Lengths.{has_two_layers}
use Rattle.dvd_layout.specs.Plan.{plan_of}
use Rattle.dvd_layout.specs.declared.entry.BlockPlan.{BlockPlan}
use Rattle.dvd_layout.specs.declared.layout.Layout.{Layout}
use Rattle.dvd_layout.specs.declared.layout.Zones.{Zones}
use Rattle.dvd_deep.proofs.Readings.{deep-no_cause, deep-once, read-deep}
use Rattle.dvd_layout.specs.Place.{image_sectors}
use Rattle.dvd_loop.specs.Machine.{Step}
use Rattle.dvd_loop.specs.Machine.Prefix.{Whole}
use Rattle.dvd_loop.specs.Machine.Step.{Write}
use Rattle.dvd_loop.specs.declared.ends.UnitKind.{UnitKind}
use Rattle.dvd_loop.specs.declared.ends.UnitKind.TheVariants.{Good}
use Rattle.dvd_decoding.specs.Made.{IsReceived}
use Rattle.dvd_decoding.specs.Causes.{two_pass_cause}
use Rattle.dvd_decoding.specs.Reading.{block_cause, block_sectors}
use Rattle.dvd_read.proofs.BlockRead.{no_cause-read, read-determined}
use Rattle.dvd_read.proofs.Outcomes.{agrees-no_cause}
use Rattle.dvd_read.proofs.Mastered.{within-read}
use Rattle.dvd_commands.specs.Captured.{ForImage, captured_part}
use Rattle.dvd_commands.specs.Master.{cpr_in, filled_block, frames_of, image_bytes}
use Rattle.dvd_commands.specs.Deep.{IsDeepened, IsImageRead}
use Rattle.dvd_commands.specs.Recover.{IsImageDone, IsRecovered}
use Rattle.dvd_commands.specs.Inner.Performing.{sectors_out}
use Rattle.dvd_commands.specs.Laws.{DamageWithinTheBoundIsRepaired}
use Rattle.dvd_commands.proofs.CapturedParts.{whole_enough}
use Rattle.dvd_commands.proofs.deep.Blocks.{told_none}
use Rattle.dvd_commands.proofs.EntryBlocks.{done_at, of_image}
use Rattle.dvd_commands.proofs.PlanEntries.{has_numbers}
use Rattle.dvd_commands.proofs.ImageInBlocks.{data_block-made, few-sectors, sector, sectors_list, written-image}

-- row i of the bytes of a block
row_in : Form → List ℕ → ℕ → List ℕ
row_in form own i = take 182 (record_of form own (record_at i))

-- the marks of row i
row_marks_in : Form → List ℕ → ℕ → List Bool
row_marks_in form own i = record_marks form own (record_at i)

-- each row has 182 bytes
length-row : (form : Form) (own : List ℕ) (m : ℕ) → block_size form ≤ length own → m < 208 → length (take 182 (record_of form own m)) ≡ 182
length-row Plain own m size below =
    length-take-le 182 (record_of Plain own m) (omega (arith, length-take-le 182 (drop (182 * m) own) (omega (arith, length-drop (182 * m) own))))
length-row Marked own m size below =
    length-take-le 182 (record_of Marked own m) (omega (arith, length-take-le 205 (drop (205 * m) own) (omega (arith, length-drop (205 * m) own))))
length-row Listed own m size below =
    length-take-le 182 (record_of Listed own m) (omega (arith, length-take-le 182 (drop (182 * m) own) (omega (arith, length-drop (182 * m) own))))

-- and 182 marks
length-row_marks : (form : Form) (own : List ℕ) (m : ℕ) → length (record_marks form own m) ≡ 182
length-row_marks Plain own m = length-replicate {A = Bool} 182 false
length-row_marks Marked own m = length-marks_of (drop 182 (record_of Marked own m))
length-row_marks Listed own m = length-map-range_with_len (λ j. marked_by own (run_count own) (182 * m + j)) 0 182

-- whole captured bytes have 208 rows of bytes and of marks
pub captured-received : (form : Form) (own : List ℕ) → captured_part form own ≡ Whole (length own) → IsReceived (captured_rows form own) (captured_marks form own)
unfolding captured_rows captured_marks row_in row_marks_in
captured-received form own whole = record {
  height = rows_height;
  marks_height = marks_height;
  widths = All-from_get_or (λ (row : List ℕ). length row ≡ 182) (captured_rows form own) [] (λ i within.
      let below : i < 208 = subst (λ (n : ℕ). i < n) rows_height within in
      ap length (get_or-map-range_with_len (row_in form own) 0 208 i i [] below (omega arith)) ∙ length-row form own (record_at i) (whole_enough form own whole) (record_at-lt i below));
  marks_widths = All-from_get_or (λ (row : List Bool). length row ≡ 182) (captured_marks form own) [] (λ i within.
      let below : i < 208 = subst (λ (n : ℕ). i < n) marks_height within in
      ap length (get_or-map-range_with_len (row_marks_in form own) 0 208 i i [] below (omega arith)) ∙ length-row_marks form own (record_at i));
}
  where
    rows_height : length (captured_rows form own) ≡ 208
    rows_height = length-map-range_with_len (row_in form own) 0 208

    marks_height : length (captured_marks form own) ≡ 208
    marks_height = length-map-range_with_len (row_marks_in form own) 0 208

-- what is done for a block that holds image
pub recovered_at : (layout : Layout) (zones : Zones) (form : Form) (k : ℕ) (entry : BlockPlan) (own : List ℕ) (steps : List Step) (kind : UnitKind)
    → slice_get (plan_of layout zones) k ≡ Some entry → IsImage entry.content → IsRecovered layout zones form k own steps kind
    → IsImageDone layout k entry (captured_rows form own) (captured_marks form own) steps kind
recovered_at layout zones form k entry own steps kind is_there is_image does =
    of_image (IsImageDone layout k entry (captured_rows form own) (captured_marks form own)) entry.content is_image steps kind
    (done_at (plan_of layout zones) (ForImage (IsImageDone layout k)) form k entry is_there own steps kind does)

-- Of damage within the bound the block is read, and it is that which was mastered.
within_is_read : (layout : Layout) (zones : Zones) (form : Form) (cpr : List ℕ) (k : ℕ) (entry : BlockPlan) (image own : List ℕ) (block : List (List ℕ))
    → slice_get (plan_of layout zones) k ≡ Some entry → IsImage entry.content → length cpr ≡ 6 → length image ≡ image_bytes layout entry
    → IsBlockOf (frames_of layout entry cpr (filled_block image)) block
    → captured_part form own ≡ Whole (length own) → IsWithin block (captured_rows form own) (captured_marks form own)
    → (block_cause (captured_rows form own) (captured_marks form own) entry ≡ None)
    × (block_sectors (captured_rows form own) (captured_marks form own) entry ≡ sectors_list (filled_block image))
within_is_read layout zones form cpr k entry image own block is_there is_image cpr_size image_size is_block size within =
    let few = few-sectors layout entry.content in
    let made = data_block-made layout entry cpr image is_image cpr_size (omega (arith, image_size, few)) in
    within-read entry (has_two_layers layout.shape) (cpr_in entry.area cpr) (sector (filled_block image)) (frames_of layout entry cpr (filled_block image)) block
    (captured_rows form own) (captured_marks form own) (has_numbers layout zones k entry is_there) made is_block (captured-received form own size) within

-- the law: of damage within the bound recovery gives back the image sectors of the block
pub repaired : DamageWithinTheBoundIsRepaired
repaired layout zones form cpr k entry image own block steps kind is_there is_image cpr_size image_size is_block size within does =
    let rows = captured_rows form own in
    let marks = captured_marks form own in
    let received = captured-received form own size in
    let read = within_is_read layout zones form cpr k entry image own block is_there is_image cpr_size image_size is_block size within in
    elim (recovered_at layout zones form k entry own steps kind is_there is_image does) [
      | inr refused ↦ let first = refused.first in let none = read.0 in cc
      | inl given ↦
          let sectors : given.sectors ≡ sectors_list (filled_block image) = (read-determined rows marks entry given.sectors received.height received.marks_height given.read).1 ∙ read.1 in (
            given.writes ∙ ap (λ l. Write l ∷ []) (ap (sectors_out (image_sectors layout entry.content)) sectors ∙ written-image layout entry.content image (few-sectors layout entry.content) image_size),
            given.good,
          )
    ]

-- what the law says of `recover`, of any command that does this for a block
abbrev pub RepairsBy : (Layout → Zones → Form → ℕ → List ℕ → List Step → UnitKind → Type 0) → Type 0
RepairsBy Performs =
    (layout : Layout) (zones : Zones) (form : Form) (cpr : List ℕ) (k : ℕ) (entry : BlockPlan) (image own : List ℕ) (block : List (List ℕ)) (steps : List Step) (kind : UnitKind)
    → slice_get (plan_of layout zones) k ≡ Some entry → IsImage entry.content → length cpr ≡ 6 → length image ≡ image_bytes layout entry
    → IsBlockOf (frames_of layout entry cpr (filled_block image)) block
    → captured_part form own ≡ Whole (length own) → IsWithin block (captured_rows form own) (captured_marks form own)
    → Performs layout zones form k own steps kind → (steps ≡ Write image ∷ []) × (kind ≡ Good)

-- it holds of `deep`
pub repaired_deep : RepairsBy IsDeepened
repaired_deep layout zones form cpr k entry image own block steps kind is_there is_image cpr_size image_size is_block size within does =
    let rows = captured_rows form own in
    let marks = captured_marks form own in
    let received = captured-received form own size in
    let within_read = within_is_read layout zones form cpr k entry image own block is_there is_image cpr_size image_size is_block size within in
    let read = no_cause-read rows marks entry received.height received.marks_height within_read.0 in
    let deep = read-deep rows marks entry (block_sectors rows marks entry) received.height received.marks_height read in
    let none : two_pass_cause (answers_of rows marks) ≡ None =
    agrees-no_cause (answers_of rows marks) read.block (length-answers_of rows marks 208 received.height received.marks_height) read.agrees in
    let done = done_at (plan_of layout zones) (ForImage (IsImageRead layout k)) form k entry is_there own steps kind does in
    elim (of_image (IsImageRead layout k entry rows marks) entry.content is_image steps kind done) [
      | inr lost ↦ let first = lost.first in let no = deep-no_cause rows marks entry 1 (block_sectors rows marks entry) deep in cc
      | inl given ↦
          let sectors : given.sectors ≡ sectors_list (filled_block image) = (deep-once rows marks entry given.round 1 given.sectors (block_sectors rows marks entry) given.read deep).1 ∙ within_read.1 in (
            given.writes
                ∙ ap (λ (l : List Step). l ++ Write (sectors_out (image_sectors layout entry.content) given.sectors) ∷ []) (told_none k entry given.round (two_pass_cause (answers_of rows marks)) none)
                ∙ ap (λ l. Write l ∷ []) (ap (sectors_out (image_sectors layout entry.content)) sectors ∙ written-image layout entry.content image (few-sectors layout entry.content) image_size),
            given.good,
          )
    ]
