-- From a mastered stream recovery gives the image back, block by block.
use Rattle.std.proofs.Common.{◌≡◌, ◌∙◌, ◌⊎◌, inl, inr, ℕ, ◌*◌, ◌<◌, Bool, List, [], ◌∷◌, length, take, drop, slice_get, All, Option, Some, refl, ap, sym, subst, append-nil, arith}
use Rattle.std.specs.List.{flat_map, range_with_len}
use Rattle.std.proofs.lemmas.List.{nil_from_length, take_all}
use Rattle.std.proofs.lemmas.Option.{slice_get_within}
use Rattle.coding.specs.Product.{IsBlockOf, IsProduct}
use Rattle.coding.specs.Recording.{recording}
use Rattle.dvd_capture.specs.Captured.{captured_marks, captured_rows}
use Rattle.coding.specs.Within.{IsWithin}
use Rattle.dvd_capture.specs.declared.form.Form.TheVariants.{Plain}
use Rattle.dvd_capture.proofs.RecordedRows.{length-recording, recording_captured}
use Rattle.dvd_capture.proofs.Undamaged.{undamaged_within}
use Rattle.dvd_layout.specs.Content.{IsImage, image_from}
use Rattle.dvd_layout.specs.Place.{image_sectors, total_sectors}
use Rattle.dvd_layout.specs.Plan.{plan_of}
use Rattle.dvd_layout.specs.declared.entry.BlockPlan.{BlockPlan}
use Rattle.dvd_layout.specs.declared.entry.Content.{Content}
use Rattle.dvd_layout.specs.declared.entry.Content.TheVariants.{Zero, Reference, Control, Image}
use Rattle.dvd_layout.specs.declared.layout.Layout.{Layout}
use Rattle.dvd_layout.specs.declared.layout.Zones.{Zones}
use Rattle.dvd_layout.proofs.InOrder.{plan_of-in_order}
use Rattle.dvd_loop.specs.Laws.{IsFaultless}
use Rattle.dvd_loop.specs.Machine.{IsOutcome, Outcome, Step}
use Rattle.dvd_loop.specs.UnitCommand.{reported, written}
use Rattle.dvd_loop.specs.declared.ends.LoopEnd.{LoopEnd}
use Rattle.dvd_loop.specs.declared.ends.LoopEnd.TheVariants.{Done}
use Rattle.dvd_loop.specs.declared.ends.UnitKind.{UnitKind}
use Rattle.dvd_loop.specs.declared.ends.UnitKind.TheVariants.{Good}
use Rattle.dvd_loop.proofs.Sizes.{sized_whole}
use Rattle.dvd_loop.proofs.Over.{AreGood, InPieces, over, over_is, same_pieces, start}
use Rattle.dvd_commands.specs.Master.{IsMastered, bytes_of_block, filled_block, frames_of, image_bytes, image_part, master_units}
use Rattle.dvd_commands.specs.Recover.{IsImageDone, IsRecovered, recover_units}
use Rattle.dvd_commands.specs.Captured.{ForImage, IfImage, IsPassedOver}
use Rattle.dvd_top.specs.Laws.{ImageIsMastered, MasteredStreamIsRecovered}
use Rattle.dvd_top.specs.Promises.{IsStreamOf}
use Rattle.dvd_commands.proofs.ForRuns.{size_is}
use Rattle.dvd_top.proofs.OnlyThese.{only_these, runs_only}
use Rattle.dvd_commands.proofs.BlockUnits.{length-part}
use Rattle.dvd_commands.proofs.Pieces.{length-pieces, piece-at, pieces-prefix, start-same}
use Rattle.dvd_commands.proofs.PlanBytes.{start-all, start-blocks}
use Rattle.dvd_commands.proofs.PlanEntries.{some_entry}
use Rattle.dvd_commands.proofs.EntryBlocks.{done_at}
use Rattle.dvd_commands.proofs.BlocksWithinBound.{repaired}

-- the rows of a block are 182 bytes wide
widths-of : (block : List (List ℕ)) → IsProduct block → All (λ row. length row ≡ 182) block
widths-of block is i d within = (is.rows i d within).size

-- the recording of a block is 37,856 bytes
recording-size : (block : List (List ℕ)) → IsProduct block → length (recording block) ≡ 37_856
recording-size block is = length-recording block is.height (widths-of block is)

-- a block that was recorded is within the bound
recording-within : (block : List (List ℕ)) → IsProduct block
    → IsWithin block (captured_rows Plain (recording block)) (captured_marks Plain (recording block))
recording-within block is =
    subst (λ rows. IsWithin block rows (captured_marks Plain (recording block))) (sym (recording_captured block is.height (widths-of block is))) (undamaged_within block (recording block))

-- A block gives these image bytes back, and no line names it.
record IsBack (image : List ℕ) (steps : List Step) (kind : UnitKind) : Type 0 where
  good : kind ≡ Good
  writes : written steps ≡ image
  silent : reported steps ≡ []

-- one without image sectors gives none
none_back : (layout : Layout) (content : Content) (image : List ℕ) (steps : List Step) (kind : UnitKind) → image_sectors layout content ≡ 0
    → length image ≡ 2048 * image_sectors layout content
    → IsPassedOver steps kind → IsBack image steps kind
none_back layout content image steps kind none size (nothing, good) = record {
  good = good;
  writes = ap written nothing ∙ sym (nil_from_length image (omega arith));
  silent = ap reported nothing;
}

-- a block is passed over, or holds image sectors
passed_back : (layout : Layout) (content : Content) (k : ℕ) (entry : BlockPlan) (rows : List (List ℕ)) (marks : List (List Bool)) (image : List ℕ) (steps : List Step) (kind : UnitKind)
    → length image ≡ 2048 * image_sectors layout content → IfImage (IsImageDone layout k entry rows marks) content steps kind
    → IsImage content ⊎ IsBack image steps kind
passed_back layout (Image sector) k entry rows marks image steps kind size done = inl tt
passed_back layout Zero k entry rows marks image steps kind size done = inr (none_back layout Zero image steps kind refl size done)
passed_back layout Reference k entry rows marks image steps kind size done = inr (none_back layout Reference image steps kind refl size done)
passed_back layout Control k entry rows marks image steps kind size done = inr (none_back layout Control image steps kind refl size done)

-- What recovery does for a mastered block: the image bytes are written that it was mastered from.
block_back : (layout : Layout) (zones : Zones) (cpr : List ℕ) (k : ℕ) (entry : BlockPlan) (image : List ℕ) (block : List (List ℕ)) (steps : List Step) (kind : UnitKind)
    → slice_get (plan_of layout zones) k ≡ Some entry → length cpr ≡ 6 → length image ≡ image_bytes layout entry
    → IsBlockOf (frames_of layout entry cpr (filled_block image)) block
    → IsRecovered layout zones Plain k (recording block) steps kind → IsBack image steps kind
block_back layout zones cpr k entry image block steps kind is_there cpr_size size is does =
    let rows = captured_rows Plain (recording block) in
    let marks = captured_marks Plain (recording block) in
    let done = done_at (plan_of layout zones) (ForImage (IsImageDone layout k)) Plain k entry is_there (recording block) steps kind does in
    elim (passed_back layout entry.content k entry rows marks image steps kind size done) [
      | inr back ↦ back
      | inl is_image ↦
          let back = repaired layout zones Plain cpr k entry image (recording block) block steps kind is_there is_image cpr_size size is
          ((sized_whole 37_856 (recording block)).1 (recording-size block is.product)) (recording-within block is.product) does in
          record { good = back.1; writes = ap written back.0 ∙ append-nil image; silent = ap reported back.0 }
    ]

-- what mastering writes for block k of the image bytes that it takes
record IsRecorded (layout : Layout) (zones : Zones) (cpr : List ℕ) (k : ℕ) (own out : List ℕ) : Type 0 where
  entry : BlockPlan
  is_there : slice_get (plan_of layout zones) k ≡ Some entry
  block : List (List ℕ)
  is_block : IsBlockOf (frames_of layout entry cpr (filled_block own)) block
  writes : out ≡ recording block

-- what mastering does for a block records it, and reports nothing
recorded : (layout : Layout) (zones : Zones) (cpr : List ℕ) (k : ℕ) (own : List ℕ) (steps : List Step) (kind : UnitKind)
    → IsMastered layout zones cpr k own steps kind
    → IsRecorded layout zones cpr k own (written steps) × (reported steps ≡ [])
recorded layout zones cpr k own steps kind m = (
  record {
    entry = m.entry;
    is_there = m.is_there;
    block = m.block;
    is_block = m.is_block;
    writes = ap written m.writes ∙ append-nil (recording m.block);
  },
  ap reported m.writes,
)

-- the units of mastering are good ones: each takes its image bytes and records its block
masters_good : (layout : Layout) (zones : Zones) (cpr : List ℕ)
    → AreGood (master_units layout zones cpr) (bytes_of_block layout zones) (λ k own out lines. IsRecorded layout zones cpr k own out × (lines ≡ []))
masters_good layout zones cpr = record {
  begins = λ k bytes. refl;
  opens = refl;
  does = λ before own steps kind lt unit. (unit.does.good, recorded layout zones cpr (length before) own steps kind unit.does);
  closes = λ before steps none. none;
  asks = refl;
}

-- nothing is reported where nothing is reported for each
none_told : (ks : List ℕ) → flat_map (λ (k : ℕ). let none : List ℕ = [] in none) ks ≡ []
none_told [] = refl
none_told (k ∷ ks) = none_told ks

-- an outcome by its parts
pub outcome_is : (a : Outcome) (taken out lines : List ℕ) (end : LoopEnd) → a.taken ≡ taken → a.out ≡ out → a.lines ≡ lines → a.end ≡ end
    → a ≡ record { taken = taken; out = out; lines = lines; end = end }
outcome_is a taken out lines end taken_is out_is lines_are end_is =
    ap (λ l. record a { taken = l }) taken_is
    ∙ ap (λ l. record a { taken = taken; out = l }) out_is
    ∙ ap (λ l. record a { taken = taken; out = out; lines = l }) lines_are
    ∙ ap (λ e. record { taken = taken; out = out; lines = lines; end = e }) end_is

-- a place of a plan has one entry
one_entry : (entry : Option BlockPlan) (a b : BlockPlan) → entry ≡ Some a → entry ≡ Some b → a ≡ b
one_entry entry a b p q = cc

module _ (layout : Layout) (zones : Zones) (cpr image : List ℕ) (image_size : length image ≡ 2048 * total_sectors layout) where
  -- how many blocks the plan has
  abbrev count : ℕ
  count = length (plan_of layout zones)

  -- how many image bytes block k takes
  abbrev size : ℕ → ℕ
  size = bytes_of_block layout zones

  -- the image bytes of block k
  abbrev part : ℕ → List ℕ
  part k = take (size k) (drop (start size k) image)

  -- the image is as long as all blocks take together
  image_all : length image ≡ start size count
  image_all = image_size ∙ sym (start-all layout zones)

  -- a block without image sectors takes none
  none_there : (k : ℕ) (entry : BlockPlan) → size k ≡ image_bytes layout entry → image_bytes layout entry ≡ 0 → part k ≡ image_part layout entry image
  none_there k entry is none =
      ap (λ n. take n (drop (start size k) image)) (is ∙ none) ∙ ap (λ n. take n (drop (2048 * image_from entry.content) image)) (sym none)

  -- block k takes the bytes of the image that are in it
  part_of : (content : Content) (k : ℕ) (entry : BlockPlan) → slice_get (plan_of layout zones) k ≡ Some entry → entry.content ≡ content
      → part k ≡ image_part layout entry image
  part_of (Image sector) k entry is_there is =
      let within = slice_get_within (plan_of layout zones) k entry is_there in
      let at : start size k ≡ 2048 * image_from entry.content =
      start-blocks layout zones k (omega (arith, within)) ∙ ap (λ n. 2048 * n) (plan_of-in_order layout zones k entry is_there (subst IsImage (sym is) tt)) in
      ap (λ n. take n (drop (start size k) image)) (size_is layout zones k entry is_there) ∙ ap (λ n. take (image_bytes layout entry) (drop n image)) at
  part_of Zero k entry is_there is = none_there k entry (size_is layout zones k entry is_there) (ap (λ c. 2048 * image_sectors layout c) is)
  part_of Reference k entry is_there is = none_there k entry (size_is layout zones k entry is_there) (ap (λ c. 2048 * image_sectors layout c) is)
  part_of Control k entry is_there is = none_there k entry (size_is layout zones k entry is_there) (ap (λ c. 2048 * image_sectors layout c) is)

  -- MASTERED.
  module _ (mastered : Outcome) (pieces : InPieces size (λ k own out lines. IsRecorded layout zones cpr k own out × (lines ≡ [])) 0 count image image mastered) where
    -- what was written for block k is the recording of its part
    recorded-at : (k : ℕ) → k < count → IsRecorded layout zones cpr k (part k) (pieces.outs k)
    recorded-at k lt = (pieces.each k (omega arith) (omega arith)).0

    -- each block that was mastered is 37,856 bytes of the stream
    out_size : (k : ℕ) → k < count → length (pieces.outs k) ≡ 37_856
    out_size k lt = let r = recorded-at k lt in ap length r.writes ∙ recording-size r.block r.is_block.product

    -- block k of the stream is the recording of its frames
    recorded-block : (k : ℕ) (entry : BlockPlan) → slice_get (plan_of layout zones) k ≡ Some entry
        → (block : List (List ℕ)) × IsBlockOf (frames_of layout entry cpr (filled_block (image_part layout entry image))) block
        × (take 37_856 (drop (37_856 * k) mastered.out) ≡ recording block)
    recorded-block k entry is_there =
        let lt = slice_get_within (plan_of layout zones) k entry is_there in
        let r = recorded-at k lt in
        let same : r.entry ≡ entry = one_entry _ _ _ r.is_there is_there in (
          r.block,
          subst (λ l. IsBlockOf (frames_of layout entry cpr (filled_block l)) r.block) (part_of entry.content k entry is_there refl)
              (subst (λ e. IsBlockOf (frames_of layout e cpr (filled_block (part k))) r.block) same r.is_block),
          ap (λ n. take 37_856 (drop n mastered.out)) (sym (start-same 37_856 k))
              ∙ ap (λ l. take 37_856 (drop (start (λ j. 37_856) k) l)) pieces.out_is ∙ piece-at pieces.outs (λ j. 37_856) count k out_size lt ∙ r.writes,
        )

    -- so what was written is the stream of the image
    is-stream : IsStreamOf layout zones cpr image mastered.out
    is-stream = record {
      size = ap length pieces.out_is ∙ length-pieces pieces.outs (λ j. 37_856) count out_size ∙ start-same 37_856 count;
      each = recorded-block;
    }

    -- and nothing was reported
    silent-all : mastered.lines ≡ []
    silent-all =
        pieces.lines_are ∙ same_pieces pieces.lines (λ (k : ℕ). let none : List ℕ = [] in none) 0 count (λ k le lt. (pieces.each k le lt).1)
        ∙ none_told (range_with_len 0 count)

  -- RECOVERED.
  module _ (cpr_size : length cpr ≡ 6) (stream : List ℕ) (is : IsStreamOf layout zones cpr image stream) where
    -- the stream has so many bytes for each block
    stream-size : length stream ≡ start (λ k. 37_856) count
    stream-size = is.size ∙ sym (start-same 37_856 count)

    -- what is recovered of block k of it is the part of the image that it was mastered from
    back-at : (k : ℕ) (own : List ℕ) (steps : List Step) (kind : UnitKind) → k < count → own ≡ take 37_856 (drop (start (λ j. 37_856) k) stream)
        → IsRecovered layout zones Plain k own steps kind → IsBack (part k) steps kind
    back-at k own steps kind lt own_is does =
        let (entry, is_there) = some_entry (plan_of layout zones) k lt in
        let (block, is_block, recorded) = is.each k entry is_there in
        let captured : own ≡ recording block = own_is ∙ ap (λ n. take 37_856 (drop n stream)) (start-same 37_856 k) ∙ recorded in
        subst (λ l. IsBack l steps kind) (sym (part_of entry.content k entry is_there refl))
        (block_back layout zones cpr k entry (image_part layout entry image) block steps kind is_there cpr_size (length-part layout entry.content image image_size) is_block
        (subst (λ l. IsRecovered layout zones Plain k l steps kind) captured does))

    -- the units of recovery over the stream are good ones, and give the parts of the image back
    recovers_good : AreGood (only_these (recover_units layout zones Plain) (λ k. 37_856) (λ k bytes. refl) stream) (λ k. 37_856) (λ k own out lines. (out ≡ part k) × (lines ≡ []))
    recovers_good = record {
      begins = λ k bytes. refl;
      opens = refl;
      does = λ before own steps kind lt unit.
          let back = back-at (length before) own steps kind lt unit.does.1 unit.does.0 in (back.good, (back.writes, back.silent));
      closes = λ before steps none. none;
      asks = refl;
    }

    -- so a recovery of the whole stream gives the image back, and ends as Done
    stream_back : (recovered : Outcome) → IsOutcome (recover_units layout zones Plain) stream recovered → IsFaultless recovered.end
        → recovered ≡ record { taken = stream; out = image; lines = []; end = Done }
    stream_back recovered runs none =
        let units = recover_units layout zones Plain in
        let all = over_is (only_these units (λ k. 37_856) (λ k bytes. refl) stream) (λ k. 37_856) (λ k own. part k) (λ k own. []) recovers_good stream recovered
        (runs_only units (λ k. 37_856) (λ k bytes. refl) stream recovered runs) none stream-size in
        let out : recovered.out ≡ image = all.0 ∙ pieces-prefix size image count ∙ take_all (start size count) image (omega (arith, image_all)) in
        let lines : recovered.lines ≡ [] = all.1 ∙ none_told (range_with_len 0 count) in
        outcome_is recovered stream image [] Done all.3 out lines all.2

-- the law: mastering a whole image writes its stream
pub image_mastered : ImageIsMastered
image_mastered layout zones cpr image a size runs none =
    let pieces = over (master_units layout zones cpr) (bytes_of_block layout zones) (λ k own out lines. IsRecorded layout zones cpr k own out × (lines ≡ []))
    (masters_good layout zones cpr) image a runs none (image_all layout zones cpr image size) in (
      a.out,
      is-stream layout zones cpr image size a pieces,
      outcome_is a image a.out [] Done pieces.taken refl (silent-all layout zones cpr image size a pieces) pieces.end,
    )

-- the law: from the stream of an image recovery gives the image back
pub stream_recovered : MasteredStreamIsRecovered
stream_recovered layout zones cpr image stream recovered cpr_size size is runs none =
    stream_back layout zones cpr image size cpr_size stream is recovered runs none
