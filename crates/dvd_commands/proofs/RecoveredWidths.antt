-- How many bytes recovery writes for a block: those of its image sectors, whether it is read or refused.
use Rattle.std.proofs.Common.{◌≡◌, ◌≢◌, ◌∙◌, inl, inr, ℕ, zero, suc, ◌+◌, ◌*◌, ◌<◌, ◌≤◌, Bool, List, [], ◌∷◌, ◌++◌, Option, Some, None, length, length-append, take, drop, refl, ap, sym, subst, append-nil, add-one, arith}
use Rattle.std.specs.List.{flat_map, range_with_len}
use Rattle.std.proofs.lemmas.List.{length-drop, length-take-le}
use Rattle.std.proofs.lemmas.List.Folds.{flat_map-map}
use Rattle.std.proofs.lemmas.List.FromFn.{take-map-range_with_len}
use Rattle.dvd_frame.specs.Frame.{found_word}
use Rattle.dvd_frame.proofs.Masking.{length-masked}
use Rattle.coding.specs.Product.{IsProduct, line}
use Rattle.dvd_capture.specs.Captured.{captured_marks, captured_rows}
use Rattle.dvd_capture.specs.declared.form.Form.{Form}
use Rattle.dvd_layout.specs.Place.{image_sectors, rule_for}
use Rattle.dvd_layout.specs.declared.entry.BlockPlan.{BlockPlan}
use Rattle.dvd_layout.specs.declared.entry.Content.{Content}
use Rattle.dvd_layout.specs.declared.entry.Content.TheVariants.{Zero, Reference, Control, Image}
use Rattle.dvd_layout.specs.declared.layout.Layout.{Layout}
use Rattle.dvd_layout.specs.declared.layout.Zones.{Zones}
use Rattle.dvd_loop.specs.Laws.{first}
use Rattle.dvd_loop.specs.Machine.{IsOutcome, Outcome, Step, Units}
use Rattle.dvd_loop.specs.Machine.Step.{Write}
use Rattle.dvd_loop.specs.UnitCommand.{written}
use Rattle.dvd_loop.specs.declared.ends.LoopEnd.TheVariants.{Done}
use Rattle.dvd_loop.specs.declared.ends.UnitKind.{UnitKind}
use Rattle.dvd_loop.specs.declared.ends.UnitKind.TheVariants.{Good, Bad, Last}
use Rattle.dvd_loop.proofs.Over.{start}
use Rattle.dvd_deep.proofs.Products.{found_is_product}
use Rattle.dvd_layout.specs.Plan.{plan_of}
use Rattle.dvd_decoding.specs.Causes.{two_pass_cause}
use Rattle.dvd_decoding.specs.declared.cause.Cause.{Cause}
use Rattle.coding.specs.TwoPass.{answers_of}
use Rattle.dvd_decoding.specs.Frames.{frame_of, main_at, main_data}
use Rattle.dvd_decoding.specs.Salvage.{block_out}
use Rattle.dvd_read.proofs.SavedLaws.{sixteen-sectors}
use Rattle.dvd_deep.specs.Reading.{deep_cause}
use Rattle.dvd_decoding.specs.Reading.{block_cause}
use Rattle.dvd_commands.specs.Captured.{IfImage, IsDoneByEntry, IsPassedOver, captured_units}
use Rattle.dvd_commands.specs.Master.{bytes_of_block, image_bytes}
use Rattle.dvd_commands.specs.Deep.{IsDeepened, IsImageRead, round_report}
use Rattle.dvd_commands.specs.Recover.{IsImageDone, IsRecovered, IsRefused}
use Rattle.dvd_commands.specs.Inner.Performing.{sectors_out}
use Rattle.dvd_commands.proofs.EntryBlocks.{length-captured_marks, length-captured_rows}
use Rattle.dvd_commands.proofs.master.Blocks.{size_is}
use Rattle.dvd_commands.proofs.Pieces.{length-pieces, start-same}
use Rattle.dvd_commands.proofs.SectorsWritten.{sectors_more}
use Rattle.dvd_commands.proofs.ImageInBlocks.{few-sectors}
use Rattle.dvd_commands.proofs.Written.{length-written}

-- a frame in a block has twelve times 172 bytes
length-frame_of : (block : List (List ℕ)) (f : ℕ) → IsProduct block → f < 16 → length (frame_of block f) ≡ 2064
unfolding frame_of
length-frame_of block f is below =
    length-pieces (λ q. take 172 (line block (12 * f + q))) (λ q. 172) 12 prefix_size ∙ start-same 172 12
  where
    prefix_size : (q : ℕ) → q < 12 → length (take 172 (line block (12 * f + q))) ≡ 172
    prefix_size q within =
        let width : length (line block (12 * f + q)) ≡ 182 = (is.rows (12 * f + q) [] (omega (arith, is.height))).size in
        length-take-le 172 (line block (12 * f + q)) (omega arith)

-- and 2,048 of Main Data
length-main : (block : List (List ℕ)) (entry : BlockPlan) (f : ℕ) → IsProduct block → f < 16 → length (main_at block entry f) ≡ 2048
length-main block entry f is below =
    let frame = frame_of block f in
    let size : length frame ≡ 2064 = length-frame_of block f is below in
    length-masked (found_word frame) (rule_for entry.content f) (take 2048 (drop 12 frame))
    ∙ length-take-le 2048 (drop 12 frame) (omega (arith, length-drop 12 frame))

-- so many sectors of a block are as many times 2,048 bytes
pub length-sectors_out : (block : List (List ℕ)) (entry : BlockPlan) (count : ℕ) → IsProduct block → count ≤ 16
    → length (sectors_out count (main_data block entry)) ≡ 2048 * count
unfolding main_data
length-sectors_out block entry count is few =
    ap (λ l. length (flat_map (λ (sector : List ℕ). sector) l)) (take-map-range_with_len (main_at block entry) 0 16 count few)
    ∙ ap length (flat_map-map (λ (sector : List ℕ). sector) (main_at block entry) (range_with_len 0 count))
    ∙ length-pieces (main_at block entry) (λ f. 2048) count (λ f below. length-main block entry f is (omega arith))
    ∙ start-same 2048 count

-- sectors of 2,048 bytes, of which so many are written
pub length-out : (sectors : List (List ℕ)) (count : ℕ) → ((f : ℕ) → f < count → length (line sectors f) ≡ 2048)
    → length (sectors_out count sectors) ≡ 2048 * count
length-out sectors zero widths = refl
length-out sectors (suc count) widths =
    ap (λ n. length (sectors_out n sectors)) (sym (add-one count))
    ∙ ap length (sym (sectors_more sectors count))
    ∙ length-append (sectors_out count sectors) (line sectors count)
    ∙ omega (arith, length-out sectors count (λ f below. widths f (omega arith)), widths count (omega arith))

-- so many bytes are written, and the block isn't the last
abbrev pub IsWide : ℕ → List Step → UnitKind → Type 0
IsWide count steps kind = (length (written steps) ≡ count) × (kind ≢ Last)

-- what the line of a round leaves to be written
written-after : (cause : Option Cause) (k : ℕ) (entry : BlockPlan) (round : ℕ) (bytes : List ℕ) → written (round_report cause k entry round ++ Write bytes ∷ []) ≡ bytes ++ []
written-after None k entry round bytes = refl
written-after (Some cause) k entry round bytes = refl

-- for a block without image sectors none is written
passed-wide : {count : ℕ} {steps : List Step} {kind : UnitKind} → count ≡ 0 → IsPassedOver steps kind → IsWide count steps kind
passed-wide none (nothing, good) = (ap (λ s. length (written s)) nothing ∙ sym none, λ last. let no : Good ≡ Last = sym good ∙ last in cc)

-- where as many bytes are written for image as its sectors have, so it is whatever a block holds
if_image-wide : (Performs : List Step → UnitKind → Type 0) (layout : Layout) (held content : Content) (steps : List Step) (kind : UnitKind)
    → (Performs steps kind → IsWide (2048 * image_sectors layout held) steps kind)
    → held ≡ content → IfImage Performs content steps kind → IsWide (2048 * image_sectors layout held) steps kind
if_image-wide Performs layout held (Image sector) steps kind wide is done = wide done
if_image-wide Performs layout held Zero steps kind wide is done = passed-wide (ap (λ c. 2048 * image_sectors layout c) is) done
if_image-wide Performs layout held Reference steps kind wide is done = passed-wide (ap (λ c. 2048 * image_sectors layout c) is) done
if_image-wide Performs layout held Control steps kind wide is done = passed-wide (ap (λ c. 2048 * image_sectors layout c) is) done

module _ (layout : Layout) (k : ℕ) (entry : BlockPlan) (rows : List (List ℕ)) (marks : List (List Bool)) (size : length rows ≡ 208) (marks_size : length marks ≡ 208) (steps : List Step) (kind : UnitKind) where
  -- for a block that is refused as many bytes are written as its image sectors have
  refused-wide : (has : Option Cause) → IsRefused has layout k entry rows marks steps kind → IsWide (image_bytes layout entry) steps kind
  refused-wide has refused =
      let count = image_sectors layout entry.content in
      let saved = sectors_out count (block_out rows marks entry) in
      let widths = (sixteen-sectors rows marks size marks_size entry).1 in
      let few = few-sectors layout entry.content in (
        ap (λ s. length (written s)) refused.reports ∙ ap length (append-nil saved)
            ∙ length-out (block_out rows marks entry) count (λ f below. widths f (omega arith)),
        λ last. let no : Bad ≡ Last = sym refused.bad ∙ last in cc,
      )

  -- and so they are for one that two passes give
  image-wide : IsImageDone layout k entry rows marks steps kind → IsWide (image_bytes layout entry) steps kind
  image-wide (inl given) =
      let count = image_sectors layout entry.content in (
        ap (λ s. length (written s)) given.writes ∙ ap length (append-nil (sectors_out count given.sectors)) ∙ ap (λ l. length (sectors_out count l)) given.read.main
            ∙ length-sectors_out given.read.block entry count given.read.agrees.product (few-sectors layout entry.content),
        λ last. let no : Good ≡ Last = sym given.good ∙ last in cc,
      )
  image-wide (inr refused) = refused-wide (block_cause rows marks entry) refused

  -- and for one that rounds give back
  read-wide : IsImageRead layout k entry rows marks steps kind → IsWide (image_bytes layout entry) steps kind
  read-wide (inl given) =
      let count = image_sectors layout entry.content in
      let sectors = sectors_out count given.sectors in (
        ap (λ s. length (written s)) given.writes
            ∙ ap length (written-after (two_pass_cause (answers_of rows marks)) k entry given.round sectors ∙ append-nil sectors)
            ∙ ap (λ l. length (sectors_out count l)) given.read.main
            ∙ length-sectors_out given.read.block entry count (found_is_product rows marks given.read.block given.read.gives) (few-sectors layout entry.content),
        λ last. let no : Good ≡ Last = sym given.good ∙ last in cc,
      )
  read-wide (inr refused) = refused-wide (deep_cause rows marks entry) refused

-- What is done for block k of the plan writes as many bytes as its image sectors have, where it does for each entry.
entry-wide : (layout : Layout) (zones : Zones) (form : Form) (k : ℕ) (own : List ℕ) (steps : List Step) (kind : UnitKind)
    (Performs : BlockPlan → List (List ℕ) → List (List Bool) → List Step → UnitKind → Type 0)
    → ((e : BlockPlan) (rows : List (List ℕ)) (marks : List (List Bool)) → length rows ≡ 208 → length marks ≡ 208 → Performs e rows marks steps kind → IsWide (image_bytes layout e) steps kind)
    → IsDoneByEntry (plan_of layout zones) (λ e rows marks. IfImage (Performs e rows marks) e.content) form k own steps kind
    → IsWide (bytes_of_block layout zones k) steps kind
entry-wide layout zones form k own steps kind Performs wide r =
    let rows = captured_rows form own in
    let marks = captured_marks form own in
    subst (λ n. IsWide n steps kind) (sym (size_is layout zones k r.entry r.is_there))
    (if_image-wide (Performs r.entry rows marks) layout r.entry.content r.entry.content steps kind
    (wide r.entry rows marks (length-captured_rows form own) (length-captured_marks form own)) refl r.does)

-- what `recover` writes for a block is as long as its image sectors
pub recovered-wide : (layout : Layout) (zones : Zones) (form : Form) (k : ℕ) (own : List ℕ) (steps : List Step) (kind : UnitKind) → IsRecovered layout zones form k own steps kind
    → IsWide (bytes_of_block layout zones k) steps kind
recovered-wide layout zones form k own steps kind =
    entry-wide layout zones form k own steps kind (λ e. IsImageDone layout k e) (λ e rows marks size marks_size. image-wide layout k e rows marks size marks_size steps kind)

-- and what `deep` writes is
pub deepened-wide : (layout : Layout) (zones : Zones) (form : Form) (k : ℕ) (own : List ℕ) (steps : List Step) (kind : UnitKind) → IsDeepened layout zones form k own steps kind
    → IsWide (bytes_of_block layout zones k) steps kind
deepened-wide layout zones form k own steps kind =
    entry-wide layout zones form k own steps kind (λ e. IsImageRead layout k e) (λ e rows marks size marks_size. read-wide layout k e rows marks size marks_size steps kind)

-- Units that are the captured blocks of a plan, and write the image bytes that each holds.
abbrev pub block_units : Layout → Zones → Form → (ℕ → List ℕ → List Step → UnitKind → Type 0) → Units
block_units layout zones form May = captured_units (length (plan_of layout zones)) form May

module _ (layout : Layout) (zones : Zones) (form : Form) (May : ℕ → List ℕ → List Step → UnitKind → Type 0)
    (wide : (k : ℕ) (own : List ℕ) (steps : List Step) (kind : UnitKind) → May k own steps kind → IsWide (bytes_of_block layout zones k) steps kind) where
  -- no block is the last
  pub never_last : (k : ℕ) (before : List (List ℕ)) (own : List ℕ) (steps : List Step) → May k own steps Last → ⊥
  never_last k before own steps r = (wide k own steps Last r).1 refl

  -- what the first k blocks write
  pub length-first : (k : ℕ) (bytes : List ℕ) (a : Outcome) → IsOutcome (first k (block_units layout zones form May)) bytes a → a.end ≡ Done
      → length a.out ≡ start (bytes_of_block layout zones) k
  length-first k bytes a runs done =
      length-written (first k (block_units layout zones form May)) (bytes_of_block layout zones) (record {
        opens = refl;
        does = λ before own steps kind unit. wide (length before) own steps kind unit.does;
        closes = λ before steps none. none;
      }) bytes a runs done
