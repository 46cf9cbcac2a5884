-- The frames that `assemble` goes over, and the blocks that it writes.
use Rattle.std.proofs.Common.{◌≡◌, ◌≢◌, ◌∙◌, ℕ, ◌+◌, ◌-◌, ◌<◌, ◌≤◌, List, [], ◌∷◌, ◌++◌, length, map, take, drop, get_or, replicate, Option, None, Some, refl, sym, ap, subst, append_assoc, append-nil, arith}
use Rattle.std.specs.List.{flat_map, range_with_len}
use Rattle.std.specs.Option.{option_map_or}
use Rattle.dvd_ports.specs.Bytes.{Appends, Bytes}
use Rattle.std.proofs.lemmas.Grind.{flat_map-append}
use Rattle.std.proofs.lemmas.List.{length-map, length-replicate, map-append, take-append-drop, take_more, ext_get_or, get_or-replicate}
use Rattle.std.proofs.lemmas.List.FromFn.{length-map-range_with_len, get_or-map-range_with_len}
use Rattle.std.proofs.lemmas.List.Sums.{sum_by-append}
use Rattle.dvd_assemble.specs.Assembled.{assembled, settled}
use Rattle.dvd_assemble.specs.Frames.{Frame, frame_in, frame_size}
use Rattle.dvd_assemble.specs.Home.{home}
use Rattle.dvd_assemble.proofs.Assembling.{length-assembled, none_yet, one_more}
use Rattle.dvd_capture.specs.declared.form.Form.{Form}
use Rattle.dvd_capture.proofs.ListedWritten.{prefix-after}
use Rattle.dvd_layout.specs.Lengths.{has_two_layers}
use Rattle.dvd_layout.specs.declared.layout.Shape.{Shape}
use Rattle.dvd_layout.specs.declared.layout.Shape.TheVariants.{Single, Parallel, Opposite}
use Rattle.dvd_assemble.proofs.Homes.{length-plan}
use Rattle.dvd_layout.specs.Plan.{plan_of}
use Rattle.dvd_layout.specs.declared.layout.Layout.{Layout}
use Rattle.dvd_layout.specs.declared.layout.Zones.TheVariants.{DataOnly}
use Rattle.dvd_merge.specs.Join.{Table, unseen}
use Rattle.dvd_merge.specs.MarkedText.{marked_text}
use Rattle.dvd_ports.specs.Whole.{AppendsPrefix}
use Rattle.dvd_ports.proofs.KnownLemmas.{Appends-then}
use Rattle.dvd_loop.specs.Laws.{IsPlainEnd}
use Rattle.dvd_loop.specs.Machine.{IsOutcome, Outcome, Step}
use Rattle.dvd_loop.specs.Machine.Step.{Report, Write}
use Rattle.dvd_loop.specs.declared.ends.LoopEnd.{LoopEnd}
use Rattle.dvd_loop.specs.declared.ends.LoopEnd.TheVariants.{ReportFault}
use Rattle.dvd_loop.proofs.LoopEnds.{plain_end}
use Rattle.dvd_commands.specs.Assemble.{IsAssembleEnd, IsShelfOf, assemble_units, assembled_steps, frames_in, placed_line, placed_of, text_of}

-- a frame that has a home counts one
abbrev pub counts : Layout → Frame → ℕ
counts layout frame = option_map_or (λ n. 1) (home layout frame) 0

-- one unit more is one frame more
frames-more : (form : Form) (units : List (List ℕ)) (own : List ℕ) → frames_in form (units ++ own ∷ []) ≡ frames_in form units ++ frame_in form own ∷ []
unfolding frames_in
frames-more form units own = map-append (frame_in form) units (own ∷ [])

-- one frame more adds what it counts to those that have a home
placed-more : (layout : Layout) (frames : List Frame) (frame : Frame) → placed_of layout (frames ++ frame ∷ []) ≡ placed_of layout frames + counts layout frame
unfolding placed_of
placed-more layout frames frame = sum_by-append (counts layout) frames (frame ∷ []) ∙ omega arith

-- no frame
pub none_settled : (layout : Layout) (form : Form) (tables : List Table) → tables ≡ replicate (length (plan_of layout DataOnly)) unseen
    → IsShelfOf layout form [] tables 0
unfolding frames_in placed_of
none_settled layout form tables is = record { blocks = is ∙ blank ∙ sym (none_yet layout); count = refl }
  where
    n : ℕ
    n = length (plan_of layout DataOnly)

    blank : replicate n unseen ≡ map (λ k. unseen) (range_with_len 0 n)
    blank =
        ext_get_or unseen (replicate n unseen) (map (λ k. unseen) (range_with_len 0 n)) (length-replicate n unseen ∙ sym (length-map-range_with_len (λ k. unseen) 0 n))
        (λ k within. let below : k < n = omega (arith, within, length-replicate n unseen) in
        get_or-replicate n k unseen unseen below ∙ sym (get_or-map-range_with_len (λ m. unseen) 0 n k k unseen below (omega arith)))

-- one frame more
pub frame_settled : (layout : Layout) (form : Form) (units : List (List ℕ)) (own : List ℕ) (frame : Frame) (tables now : List Table) (placed next : ℕ)
    → IsShelfOf layout form units tables placed → frame ≡ frame_in form own → now ≡ settled layout tables frame
    → next ≡ placed + counts layout frame → IsShelfOf layout form (units ++ own ∷ []) now next
frame_settled layout form units own frame tables now placed next before is settles counted = record {
  blocks =
      settles ∙ ap (λ t. settled layout t frame) before.blocks ∙ ap (settled layout (assembled layout (frames_in form units))) is
      ∙ one_more layout (frames_in form units) (frame_in form own) ∙ ap (assembled layout) (sym (frames-more form units own));
  count =
      counted ∙ ap (λ n. n + counts layout frame) before.count ∙ ap (λ f. placed_of layout (frames_in form units) + counts layout f) is
      ∙ sym (placed-more layout (frames_in form units) (frame_in form own)) ∙ ap (placed_of layout) (sym (frames-more form units own));
}

-- the shelf has as many blocks as the plan
pub shelf_size : (layout : Layout) (form : Form) (units : List (List ℕ)) (tables : List Table) (placed : ℕ) → IsShelfOf layout form units tables placed
    → length tables ≡ length (plan_of layout DataOnly)
shelf_size layout form units tables placed shelf = ap length shelf.blocks ∙ length-assembled layout (frames_in form units)

-- no more frames have a home than came
counts-le : (place : Option ℕ) → option_map_or (λ n. 1) place 0 ≤ 1
counts-le None = omega arith
counts-le (Some n) = omega arith

-- so no more of all frames have a home than there are
placed-le : (layout : Layout) (frames : List Frame) → placed_of layout frames ≤ length frames
unfolding placed_of
placed-le layout [] = omega arith
placed-le layout (frame ∷ frames) =
    let rest = placed-le layout frames in
    let one = counts-le (home layout frame) in
    let split = sum_by-append (counts layout) (frame ∷ []) frames in
    omega (arith, rest, one, split)

-- a shelf counts no more frames than units were taken
pub placed-few : (layout : Layout) (form : Form) (units : List (List ℕ)) (tables : List Table) (placed : ℕ) → IsShelfOf layout form units tables placed
    → placed ≤ length units
unfolding frames_in
placed-few layout form units tables placed shelf =
    let few = placed-le layout (frames_in form units) in
    omega (arith, shelf.count, few, length-map units (frame_in form))

-- there is a frame for each unit
pub length-frames : (form : Form) (units : List (List ℕ)) → length (frames_in form units) ≡ length units
unfolding frames_in
length-frames form units = length-map units (frame_in form)

-- the blocks, one after the other
pub text-more : (tables : List Table) (k : ℕ) → k < length tables → text_of (take (k + 1) tables) ≡ text_of (take k tables) ++ marked_text (get_or tables k unseen)
unfolding text_of
text-more tables k within =
    ap (flat_map marked_text) (take_more tables k unseen within)
    ∙ flat_map-append marked_text (take k tables) (get_or tables k unseen ∷ [])
    ∙ ap (λ l. flat_map marked_text (take k tables) ++ l) (append-nil (marked_text (get_or tables k unseen)))

-- the text of the blocks is that of the first k, and then that of the others
text-split : (tables : List Table) (k : ℕ) → text_of tables ≡ text_of (take k tables) ++ text_of (drop k tables)
unfolding text_of
text-split tables k = ap (flat_map marked_text) (sym (take-append-drop k tables)) ∙ flat_map-append marked_text (take k tables) (drop k tables)

-- no block has no text
pub no_text : (tables : List Table) → text_of (take 0 tables) ≡ []
unfolding text_of
no_text tables = refl

module _ (old mid new : Bytes) (tables : List Table) (k : ℕ) (within : k < length tables) (before : Appends old mid (text_of (take k tables))) where
  -- one more
  pub block_written : Appends mid new (marked_text (get_or tables k unseen)) → Appends old new (text_of (take (k + 1) tables))
  block_written now =
      subst (Appends old new) (sym (text-more tables k within)) (Appends-then old mid new (text_of (take k tables)) (marked_text (get_or tables k unseen)) before now)

  -- a part of one
  pub block_begun : AppendsPrefix mid new (marked_text (get_or tables k unseen)) → AppendsPrefix old new (text_of tables)
  block_begun begun =
      let next : List ℕ = marked_text (get_or tables k unseen) in
      let after_last : List ℕ = text_of (drop (k + 1) tables) in
      let is : text_of (take k tables) ++ (next ++ after_last) ≡ text_of tables =
      sym (append_assoc (text_of (take k tables)) next after_last) ∙ ap (λ (l : List ℕ). l ++ after_last) (sym (text-more tables k within)) ∙ sym (text-split tables (k + 1)) in
      subst (AppendsPrefix old new) is (prefix-after old mid new (text_of (take k tables)) next after_last before begun)

-- the closing of a shelf
abbrev pub closing_of : List Table → ℕ → ℕ → List Step
closing_of tables placed frames = Write (text_of tables) ∷ Report (placed_line placed (frames - placed)) ∷ []

-- what closes a shelf of all frames are the steps of the blocks that they make
pub closing_is : (layout : Layout) (form : Form) (units : List (List ℕ)) (tables : List Table) (placed frames : ℕ) → IsShelfOf layout form units tables placed
    → length units ≡ frames → closing_of tables placed frames ≡ assembled_steps layout (frames_in form units)
closing_is layout form units tables placed frames shelf all =
    ap (λ t. closing_of t placed frames) shelf.blocks
    ∙ ap (λ n. closing_of (assembled layout (frames_in form units)) n frames) shelf.count
    ∙ ap (λ n. closing_of (assembled layout (frames_in form units)) (placed_of layout (frames_in form units)) n) (sym all ∙ sym (length-frames form units))

-- a frame counts one at most
pub counts-few : (layout : Layout) (frame : Frame) → counts layout frame ≤ 1
counts-few layout frame = counts-le (home layout frame)

-- a disk of few sectors has few blocks, and some
pub blocks_few : (layout : Layout) (sectors0 sectors1 : ℕ) → layout.sectors0 ≡ sectors0 → layout.sectors1 ≡ sectors1 → sectors0 + sectors1 ≤ 16384
    → (0 < length (plan_of layout DataOnly)) × (length (plan_of layout DataOnly) ≤ 1024)
blocks_few layout sectors0 sectors1 first second few = by_shape layout.shape refl
  where
    by_shape : (shape : Shape) → layout.shape ≡ shape → (0 < length (plan_of layout DataOnly)) × (length (plan_of layout DataOnly) ≤ 1024)
    by_shape Single is =
        let one = layout.one_layer (ap has_two_layers is) in
        let size = length-plan layout in
        (omega (arith, size, layout.first_layer), omega (arith, size, first, second, few, one))
    by_shape Parallel is =
        let whole = layout.whole_blocks (ap has_two_layers is) in
        let size = length-plan layout in
        (omega (arith, size, layout.first_layer), omega (arith, size, first, second, few, whole))
    by_shape Opposite is =
        let whole = layout.whole_blocks (ap has_two_layers is) in
        let size = length-plan layout in
        (omega (arith, size, layout.first_layer), omega (arith, size, first, second, few, whole))

-- how a run may end: none of the frames is bad or breaks a rule
pub assemble_end : (layout : Layout) (form : Form) (frames : ℕ) (bytes : List ℕ) (outcome : Outcome) → IsOutcome (assemble_units layout form frames) bytes outcome
    → (end : LoopEnd) → outcome.end ≡ end → IsAssembleEnd frames end
assemble_end layout form frames bytes outcome runs end is = by_end end is
  where
    plain : (end : LoopEnd) → outcome.end ≡ end → end ≢ ReportFault → IsPlainEnd frames end
    plain = plain_end (assemble_units layout form frames) (λ k. frame_size form) (λ k own. refl) refl bytes outcome runs (λ k before own steps does. let no = does.1 in cc)

    by_end : (end : LoopEnd) → outcome.end ≡ end → IsAssembleEnd frames end
    by_end ReportFault is = tt
    by_end end is = plain end is (λ no. cc)
