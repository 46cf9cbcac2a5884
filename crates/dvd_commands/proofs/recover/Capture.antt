-- What `recover` writes for a plain or a marked capture of the right length, block by block.
use Rattle.std.proofs.Common.{◌≡◌, ◌∙◌, inl, inr, ℕ, ◌+◌, ◌*◌, ◌<◌, ◌≤◌, List, ◌++◌, length, take, drop, slice_get, Bool, None, Some, cond, is_none, replicate, refl, ap, sym, subst, append-nil, arith}
use Rattle.std.proofs.Math.Nat.{mul-le-mul_right}
use Rattle.std.proofs.lemmas.List.{length-drop}
use Rattle.std.proofs.lemmas.Option.{slice_get_within}
use Rattle.dvd_capture.specs.Captured.{HasSize, block_size, captured_marks, captured_rows, record_size}
use Rattle.dvd_capture.specs.declared.form.Form.{Form}
use Rattle.dvd_capture.specs.declared.form.Form.TheVariants.{Plain, Marked, Listed}
use Rattle.dvd_capture.proofs.Fetching.{sized-block}
use Rattle.dvd_decoding.specs.Frames.{main_data}
use Rattle.dvd_decoding.specs.Reading.{block_cause, block_in, block_sectors}
use Rattle.dvd_decoding.specs.Salvage.{block_out}
use Rattle.dvd_layout.specs.Content.{IsImage, image_from}
use Rattle.dvd_layout.specs.Place.{image_sectors}
use Rattle.dvd_layout.specs.Plan.{plan_of}
use Rattle.dvd_layout.specs.declared.entry.BlockPlan.{BlockPlan}
use Rattle.dvd_layout.specs.declared.entry.Content.{Content}
use Rattle.dvd_layout.specs.declared.entry.Content.TheVariants.{Zero, Reference, Control, Image}
use Rattle.dvd_layout.specs.declared.layout.Layout.{Layout}
use Rattle.dvd_layout.specs.declared.layout.Zones.{Zones}
use Rattle.dvd_loop.specs.Laws.{IsFaultless, IsPrefixOf}
use Rattle.dvd_loop.specs.Machine.{IsOutcome, Outcome, Step, sized}
use Rattle.dvd_loop.specs.Machine.Prefix.{Whole}
use Rattle.dvd_loop.specs.UnitCommand.{written}
use Rattle.dvd_loop.specs.declared.ends.UnitKind.{UnitKind}
use Rattle.dvd_loop.proofs.Sizes.{sized_enough}
use Rattle.dvd_read.proofs.BlockRead.{read-determined}
use Rattle.dvd_read.proofs.SavedLaws.{wholly-saved}
use Rattle.dvd_commands.specs.Captured.{HasBlocks, block_bytes, block_start, captured_part, from_block}
use Rattle.dvd_commands.specs.Master.{image_bytes, image_part}
use Rattle.dvd_commands.specs.Recover.{IsImageDone, IsRecovered, recover_units}
use Rattle.dvd_commands.specs.Inner.Performing.{sectors_out}
use Rattle.dvd_commands.proofs.BlocksWithinBound.{captured-received, recovered_at}
use Rattle.dvd_commands.proofs.BlockUnits.{has_unit, part_there}
use Rattle.dvd_commands.proofs.CapturedBlocks.{block-whole, start-sized}
use Rattle.dvd_commands.proofs.master.Blocks.{size_is}
use Rattle.dvd_commands.proofs.RecoveredWidths.{recovered-wide}

-- so many bytes of a form of one size begin with as many whole blocks
has_blocks : (form : Form) → HasSize form → (bytes : List ℕ) (n : ℕ) → n * block_size form ≤ length bytes → HasBlocks form bytes n
has_blocks Plain one bytes n enough j lt =
    sized_enough 37_856 (from_block Plain bytes j) (omega (arith, length-drop (block_start Plain bytes j) bytes, start-sized Plain one bytes j, enough))
has_blocks Marked one bytes n enough j lt =
    sized_enough 42_640 (from_block Marked bytes j) (omega (arith, length-drop (block_start Marked bytes j) bytes, start-sized Marked one bytes j, enough))
has_blocks Listed one bytes n enough j lt = absurd (one refl)

-- the units of a form of one size have that size
pub begins_so : (form : Form) → HasSize form → (bytes : List ℕ) → captured_part form bytes ≡ sized (block_size form) bytes
begins_so Plain one bytes = refl
begins_so Marked one bytes = refl
begins_so Listed one bytes = absurd (one refl)

-- a block has 208 recorded rows
pub size-is : (form : Form) → HasSize form → 208 * record_size form ≡ block_size form
size-is Plain one = refl
size-is Marked one = refl
size-is Listed one = absurd (one refl)

-- the bytes of a block where each has as many
pub block-is : (form : Form) → HasSize form → (bytes : List ℕ) (k : ℕ)
    → block_bytes form bytes k ≡ take (208 * record_size form) (drop (208 * record_size form * k) bytes)
block-is form one bytes k =
    ap (λ n. take n (from_block form bytes k)) (sized-block form one (from_block form bytes k))
    ∙ ap (λ n. take (block_size form) (drop n bytes)) (start-sized form one bytes k)
    ∙ ap (λ n. take n (drop (n * k) bytes)) (sym (size-is form one))

-- the sectors of a block without a cause are those of the block that is found
block_sectors-are : (rows : List (List ℕ)) (marks : List (List Bool)) (entry : BlockPlan) → block_cause rows marks entry ≡ None
    → block_sectors rows marks entry ≡ main_data (block_in rows marks) entry
unfolding block_sectors
block_sectors-are rows marks entry is = ap (λ cause. cond (is_none cause) (main_data (block_in rows marks) entry) (replicate 16 (replicate 2048 0))) is

-- What is written for a block of image sectors is what is salvaged of it: of a block that is given back that is
-- all of them.
written_is : (layout : Layout) (form : Form) (k : ℕ) (entry : BlockPlan) (own : List ℕ) (steps : List Step) (kind : UnitKind) → captured_part form own ≡ Whole (length own)
    → IsImageDone layout k entry (captured_rows form own) (captured_marks form own) steps kind
    → written steps ≡ sectors_out (image_sectors layout entry.content) (block_out (captured_rows form own) (captured_marks form own) entry)
written_is layout form k entry own steps kind whole done =
    let rows = captured_rows form own in
    let marks = captured_marks form own in
    let count = image_sectors layout entry.content in
    elim done [
      | inr refused ↦ ap written refused.reports ∙ append-nil (sectors_out count (block_out rows marks entry))
      | inl given ↦
          let received = captured-received form own whole in
          let read = read-determined rows marks entry given.sectors received.height received.marks_height given.read in
          ap written given.writes ∙ append-nil (sectors_out count given.sectors)
          ∙ ap (sectors_out count) (read.1 ∙ block_sectors-are rows marks entry read.0 ∙ sym (wholly-saved rows marks entry read.0).1)
    ]

module _ (layout : Layout) (zones : Zones) (form : Form) (capture : List ℕ) (a : Outcome) (one : HasSize form)
    (size : length capture ≡ length (plan_of layout zones) * block_size form) (runs : IsOutcome (recover_units layout zones form) capture a) (none : IsFaultless a.end) where
  -- what a block is that has image sectors
  image_there : (k : ℕ) (entry : BlockPlan) → slice_get (plan_of layout zones) k ≡ Some entry → IsImage entry.content
      → image_part layout entry a.out
      ≡ sectors_out (image_sectors layout entry.content) (block_out (captured_rows form (block_bytes form capture k)) (captured_marks form (block_bytes form capture k)) entry)
  image_there k entry is_there is_image =
      let count = length (plan_of layout zones) in
      let within : k < count = slice_get_within (plan_of layout zones) k entry is_there in
      let enough : (k + 1) * block_size form ≤ length capture =
      subst (λ n. (k + 1) * block_size form ≤ n) (sym size) (mul-le-mul_right {m = k + 1} {n = count} (block_size form) (omega (arith, within))) in
      let whole = has_blocks form one capture (k + 1) enough in
      let wide = recovered-wide layout zones form in
      let own = block_bytes form capture k in
      let t = has_unit layout zones form (IsRecovered layout zones form) wide capture a runs none k entry is_there is_image whole in
      let bytes : length (written t.steps) ≡ image_bytes layout entry = (wide k own t.steps t.kind t.does).0 ∙ size_is layout zones k entry is_there in
      part_there (2048 * image_from entry.content) (image_bytes layout entry) t.before (written t.steps) a.out t.size bytes
      (subst (λ l. IsPrefixOf (t.before ++ l) a.out) (sym (append-nil (written t.steps))) t.out)
      ∙ written_is layout form k entry own t.steps t.kind (block-whole form capture (k + 1) whole k (omega arith))
      (recovered_at layout zones form k entry own t.steps t.kind is_there is_image t.does)

  -- a block without image sectors gives none
  nothing_there : (entry : BlockPlan) (own : List ℕ) (content : Content) → entry.content ≡ content → image_sectors layout content ≡ 0
      → image_part layout entry a.out ≡ sectors_out (image_sectors layout entry.content) (block_out (captured_rows form own) (captured_marks form own) entry)
  nothing_there entry own content is nothing =
      let count : image_sectors layout entry.content ≡ 0 = ap (image_sectors layout) is ∙ nothing in
      ap (λ n. take (2048 * n) (drop (2048 * image_from entry.content) a.out)) count
      ∙ ap (λ n. sectors_out n (block_out (captured_rows form own) (captured_marks form own) entry)) (sym count)

  -- so each block gives its image sectors
  pub each_there : (content : Content) (k : ℕ) (entry : BlockPlan) (own : List ℕ) → slice_get (plan_of layout zones) k ≡ Some entry → entry.content ≡ content
      → own ≡ block_bytes form capture k
      → image_part layout entry a.out ≡ sectors_out (image_sectors layout entry.content) (block_out (captured_rows form own) (captured_marks form own) entry)
  each_there (Image sector) k entry own is_there is own_is =
      image_there k entry is_there (subst IsImage (sym is) tt)
      ∙ ap (λ l. sectors_out (image_sectors layout entry.content) (block_out (captured_rows form l) (captured_marks form l) entry)) (sym own_is)
  each_there Zero k entry own is_there is own_is = nothing_there entry own Zero is refl
  each_there Reference k entry own is_there is own_is = nothing_there entry own Reference is refl
  each_there Control k entry own is_there is own_is = nothing_there entry own Control is refl
