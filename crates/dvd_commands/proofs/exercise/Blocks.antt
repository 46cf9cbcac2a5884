-- One block of `exercise`: its place on the disk, its frames, and that it is read back.
use Rattle.std.proofs.Common.{◌≡◌, ◌∙◌, ℕ, ◌+◌, ◌*◌, ◌<◌, ◌≤◌, Bool, false, List, [], ◌∷◌, length, map, drop, replicate, filter, slice_get, Some, None, Result, Ok, Err, IfErr, IsOk, refl, sym, ap, subst, arith, append-nil, zero-add}
use Rattle.std.specs.List.{flat_map, range_with_len}
use Rattle.std.proofs.lemmas.Bool.Decides.{nat_tests}
use Rattle.std.proofs.lemmas.List.{length-drop, length-replicate, length-take-le}
use Rattle.std.proofs.lemmas.List.FromFn.{get_or-map-range_with_len}
use Rattle.std.proofs.lemmas.Option.{slice_get_within}
use Rattle.coding.specs.Product.{line}
use Rattle.coding.specs.TwoPass.{IsTwoPass, answers_of}
use Rattle.dvd_capture.proofs.Columns.{length-answers_of}
use Rattle.dvd_exercise.specs.Generator.{bytes_from, state_after}
use Rattle.dvd_exercise.proofs.Draws.{length-bytes_from}
use Rattle.dvd_exercise.proofs.Widths.{hurt_agrees}
use Rattle.dvd_frame.specs.Frame.{data_frame}
use Rattle.dvd_frame.specs.Id.{id_word}
use Rattle.dvd_frame.specs.declared.id.Area.TheVariants.{DataZone}
use Rattle.dvd_frame.specs.declared.scrambling.Rule.TheVariants.{Whole}
use Rattle.dvd_layout.specs.Lengths.{blocks_of, first_fault, has_two_layers}
use Rattle.dvd_layout.specs.Place.{HasNumbers}
use Rattle.dvd_layout.specs.Plan.{entries_of, entry_of, first_data, is_data, plan_of, zones_by}
use Rattle.dvd_layout.specs.declared.entry.BlockPlan.{BlockPlan}
use Rattle.dvd_layout.specs.declared.entry.Content.TheVariants.{Image}
use Rattle.dvd_layout.specs.declared.fault.LayoutFault.{LayoutFault}
use Rattle.dvd_layout.specs.declared.layout.Layout.{Layout}
use Rattle.dvd_layout.specs.declared.layout.Shape.TheVariants.{Single}
use Rattle.dvd_layout.specs.declared.layout.Zones.TheVariants.{DataOnly}
use Rattle.dvd_layout.proofs.Blocks.{block-at, length-entries_of}
use Rattle.dvd_decoding.specs.Made.{IsMadeOf}
use Rattle.dvd_decoding.specs.Reading.{IsReadAs, block_cause, block_in}
use Rattle.dvd_read.proofs.BlockRead.{read-determined}
use Rattle.dvd_read.proofs.Mastered.{made-read}
use Rattle.dvd_read.proofs.Outcomes.{found-agrees}
use Rattle.dvd_commands.specs.Exercise.{IsHurtBlock, drawn_frame, drawn_frames, drawn_sector, drawn_sectors, no_marks}
use Rattle.dvd_commands.specs.Master.{frames_of}
use Rattle.dvd_commands.specs.Laws.{DrawnFramesAreMastered}
use Rattle.dvd_commands.proofs.PlanEntries.{one_entry}

-- block k of the Data Zone of a disk with one layer
abbrev pub drawn_entry : ℕ → BlockPlan
drawn_entry k = record { first = 0x30000 + 16 * k; area = DataZone; layer = 0; content = Image (16 * k) }

-- frame f of a drawn block
pub line-drawn : (k f : ℕ) (image : List ℕ) → f < 16 → line (drawn_frames k image) f ≡ drawn_frame k image f
unfolding drawn_frames
line-drawn k f image below = get_or-map-range_with_len (drawn_frame k image) 0 16 f f [] below (omega arith)

module _ (layout : Layout) (single : layout.shape ≡ Single) where
  -- its plan is one zone
  data_plan : plan_of layout DataOnly ≡ flat_map entries_of (first_data layout ∷ [])
  unfolding plan_of
  data_plan = ap (λ shape. flat_map entries_of (filter (λ zone. is_data zone.area) (zones_by layout shape))) single

  -- the plan has the blocks of layer 0's sectors
  length-plan : length (plan_of layout DataOnly) ≡ blocks_of layout.sectors0
  length-plan = ap length (data_plan ∙ append-nil (entries_of (first_data layout))) ∙ length-entries_of (first_data layout)

  -- with sixteen sectors for each of so many blocks it has these blocks
  pub length-data_plan : (blocks : ℕ) → layout.sectors0 ≡ 16 * blocks → length (plan_of layout DataOnly) ≡ blocks
  length-data_plan blocks sectors = length-plan ∙ omega (arith, sectors)

  -- the entry of block k, which holds image sectors from this one on
  abbrev image_entry : ℕ → ℕ → BlockPlan
  image_entry k sector = record { first = 0x30000 + 16 * k; area = DataZone; layer = 0; content = Image sector }

  -- and each entry of it is known
  pub data_entry : (k : ℕ) (entry : BlockPlan) → slice_get (plan_of layout DataOnly) k ≡ Some entry → entry ≡ drawn_entry k
  data_entry k entry is_there =
      let zone = first_data layout in
      let inside : k < blocks_of layout.sectors0 = subst (λ n. k < n) length-plan (slice_get_within (plan_of layout DataOnly) k entry is_there) in
      let here : entry_of zone k ≡ drawn_entry k = ap (image_entry k) (zero-add (16 * k)) in
      one_entry (plan_of layout DataOnly) k entry (drawn_entry k) is_there
      (ap (λ plan. slice_get plan k) data_plan ∙ block-at (zone ∷ []) 0 k k zone (omega arith) inside (omega arith) ∙ ap (λ e. Some e) here)

  -- its frames of the drawn sectors, with zeros for CPR_MAI, are the drawn frames
  same_frames : (k : ℕ) (image : List ℕ) → frames_of layout (drawn_entry k) (replicate 6 0) image ≡ drawn_frames k image
  unfolding frames_of drawn_frames
  same_frames k image =
      ap (λ shape. map (λ f. data_frame (id_word DataZone 0 (has_two_layers shape) (0x30000 + 16 * k + f)) (replicate 6 0) Whole (drawn_sector image f)) (range_with_len 0 16))
      single

-- the frames of a block are those that `master` makes
pub drawn_mastered : DrawnFramesAreMastered
drawn_mastered layout k entry image single is_there =
    ap (λ e. frames_of layout e (replicate 6 0) image) (data_entry layout single k entry is_there) ∙ same_frames layout single k image

-- lengths of so many blocks break no rule
valid_lengths : (blocks : ℕ) → 1 ≤ blocks → blocks ≤ 4096 → first_fault Single (16 * blocks) 0 0 0 ≡ None
unfolding first_fault
valid_lengths blocks some few = grind (arith, nat_tests)

-- so there is a layout
pub valid_disk : (blocks : ℕ) → 1 ≤ blocks → blocks ≤ 4096 → (answer : Result Layout LayoutFault)
    → IfErr answer (λ fault. first_fault Single (16 * blocks) 0 0 0 ≡ Some fault) → IsOk answer
valid_disk blocks some few (Ok layout) refused = refl
valid_disk blocks some few (Err fault) refused = absurd (let no : None ≡ Some fault = sym (valid_lengths blocks some few) ∙ refused in cc)

-- the numbers of a block of at most 4,096 have 24 bits
pub drawn_numbers : (k : ℕ) → k < 4096 → HasNumbers (drawn_entry k)
drawn_numbers k below = record { numbers = omega arith; layers = omega arith }

-- each of the sixteen sectors that are drawn has 2,048 bytes
length-drawn_sector : (image : List ℕ) (f : ℕ) → length image ≡ 32768 → f < 16 → length (drawn_sector image f) ≡ 2048
length-drawn_sector image f size below = length-take-le 2048 (drop (2048 * f) image) (omega (arith, length-drop (2048 * f) image))

-- What is found of a block that was hurt: no cause, the block that was made, and the sectors that were drawn.
pub record IsFound (k : ℕ) (image : List ℕ) (block rows : List (List ℕ)) (marks : List (List Bool)) : Type 0 where
  pub cause : block_cause rows marks (drawn_entry k) ≡ None
  pub found : block_in rows marks ≡ block
  pub sectors : (sectors : List (List ℕ)) → IsReadAs rows marks (drawn_entry k) sectors → sectors ≡ drawn_sectors image

module _ (k x : ℕ) (block rows : List (List ℕ)) (marks : List (List Bool)) (few : k < 4096) (is : IsHurtBlock k x block rows marks) where
  -- the image that was drawn for the block: sixteen sectors
  abbrev image : List ℕ
  image = bytes_from x 32768

  -- the block's frames are made of its drawn sectors
  made_of : IsMadeOf (drawn_entry k) false (replicate 6 0) (drawn_sector image) (drawn_frames k image)
  made_of = record {
    cpr_size = length-replicate {A = ℕ} 6 0;
    sizes = λ f below. length-drawn_sector image f (length-bytes_from x 32768) below;
    are = λ f below. line-drawn k f image below;
  }

  -- the hurt block has 208 rows
  pub height : length rows ≡ 208
  height = is.hurt.height ∙ is.made.product.height

  -- and 208 rows of marks
  pub marks_height : length marks ≡ 208
  marks_height = is.hurt.marked.size ∙ length-replicate 208 (replicate 182 false)

  -- the block that was made has two-pass agreement with what was hurt of it
  agrees : IsTwoPass rows marks block
  agrees = hurt_agrees (state_after x 32768) block no_marks rows marks is.made.product refl is.hurt

  -- so its drawn sectors are read back
  read : IsReadAs rows marks (drawn_entry k) (drawn_sectors image)
  unfolding drawn_sectors
  read =
      let back = made-read (drawn_entry k) false (replicate 6 0) (drawn_sector image) (drawn_frames k image) block (drawn_numbers k few) made_of is.made in
      record { block = block; agrees = agrees; right = back.0; main = sym back.1 }

  -- it is found
  pub is_found : IsFound k image block rows marks
  is_found =
      let here = read-determined rows marks (drawn_entry k) (drawn_sectors image) height marks_height read in record {
        cause = here.0;
        found = found-agrees (answers_of rows marks) block (length-answers_of rows marks 208 height marks_height) agrees;
        sectors = λ sectors other. (read-determined rows marks (drawn_entry k) sectors height marks_height other).1 ∙ sym here.1;
      }
