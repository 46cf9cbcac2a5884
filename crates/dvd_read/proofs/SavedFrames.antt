-- The candidates of frames, and what is saved of them.
use Rattle.std.proofs.Common.{◌≡◌, ◌∙◌, ℕ, ◌+◌, ◌*◌, ◌<◌, ◌≤◌, Bool, true, false, cond, if◌then◌else◌, not, ◌||◌, List, [], length, map, take, drop, get_or, set, replicate, unwrap_or, refl, sym, ap, arith, Some, None, is_none, is_some, Result, Ok, Err, IfErr, OnOk, is_ok}
use mir.Val.{bool_byte}
use Rattle.std.specs.List.{count_by, list_any, range_with_len}
use Rattle.std.specs.Option.{option_and_then}
use Rattle.std.specs.declared.option.Option.{Option}
use Rattle.std.proofs.lemmas.List.{get_or-drop, get_or-map, get_or-take, length-drop, length-map, length-take-le, map-id}
use Rattle.std.proofs.lemmas.List.Edits.{fill_by_more}
use Rattle.std.proofs.lemmas.List.Folds.{list_any_at, list_any_more}
use Rattle.std.proofs.lemmas.List.FromFn.{fill_by_all, sum_by-map-range_with_len_more}
use Rattle.rs_decode.specs.declared.errors.Fix.{Fix}
use Rattle.coding.specs.Product.{line}
use Rattle.dvd_capture.specs.declared.parts.AnswerRow.{AnswerRow}
use Rattle.dvd_frame.specs.Frame.{frame_cause, main_in}
use Rattle.dvd_frame.specs.declared.reading.FrameCause.{FrameCause}
use Rattle.dvd_frame.specs.declared.scrambling.Rule.{Rule}
use Rattle.dvd_layout.specs.declared.entry.BlockPlan.{BlockPlan}
use Rattle.dvd_layout.specs.Place.{rule_for}
use Rattle.dvd_decoding.specs.Causes.{two_pass_cause}
use Rattle.coding.specs.Found.{block_found}
use Rattle.dvd_read.specs.Parts.{answer_by, answer_word}
use Rattle.dvd_decoding.specs.Frames.{frame_of, wanted_word}
use Rattle.dvd_decoding.specs.Salvage.{candidate, rescued}
use Rattle.dvd_read.specs.Inner.Saved.{answered_block, lacks_row, main_if_right, sectors_saved}
use Rattle.dvd_read.proofs.FrameFaults.{cause_as}
use Rattle.dvd_read.proofs.RowAnswers.{as_number, flag-by, flag_small}

-- a row with a fix has its bytes as its answer
row_by : (bytes : List ℕ) (fix : Option Fix) → is_none fix ≡ false → unwrap_or (answer_by fix bytes) [] ≡ bytes
row_by bytes None is = cc
row_by bytes (Some fix) is = refl

-- a row that has an answer is this answer
pub answered-line : (answers : List AnswerRow) (i : ℕ) (d : AnswerRow) → i < length answers → is_none (get_or answers i d).fix ≡ false
    → line (answered_block (map answer_word answers)) i ≡ (get_or answers i d).bytes
answered-line answers i d within has =
    let inside : i < length (map answer_word answers) = rw length-map within in
    get_or-map (λ row. unwrap_or row []) (map answer_word answers) i None [] inside
    ∙ ap (λ row. unwrap_or row []) (get_or-map answer_word answers i d None within)
    ∙ row_by (get_or answers i d).bytes (get_or answers i d).fix has

-- whether one of the first n rows of frame f failed
abbrev pub lacks_before : List (Option (List ℕ)) → ℕ → ℕ → Bool
lacks_before answers f n = list_any is_none (take n (drop (12 * f) answers))

-- after the rows of the frames before frame f its own twelve rows are still to come
length-rest : (answers : List (Option (List ℕ))) (f q : ℕ) → length answers ≡ 208 → f < 16 → q < 12 → q < length (drop (12 * f) answers)
length-rest answers f q size f_below q_below = let rest = length-drop (12 * f) answers in omega arith

-- one of the first q + 1 rows failed where one of the first q did, or the next
lacks-more : (answers : List (Option (List ℕ))) (f q : ℕ) → length answers ≡ 208 → f < 16 → q < 12
    → lacks_before answers f (q + 1) ≡ (lacks_before answers f q || is_none (get_or answers (12 * f + q) None))
lacks-more answers f q size f_below q_below =
    list_any_more is_none (drop (12 * f) answers) q None (length-rest answers f q size f_below q_below)
    ∙ ap (λ row. lacks_before answers f q || is_none row) (get_or-drop (12 * f) answers q None)

-- and where this one didn't fail, none has
pub none-more : (answers : List (Option (List ℕ))) (f q : ℕ) → length answers ≡ 208 → f < 16 → q < 12
    → lacks_before answers f q ≡ false → is_none (get_or answers (12 * f + q) None) ≡ false → lacks_before answers f (q + 1) ≡ false
none-more answers f q size f_below q_below none has =
    lacks-more answers f q size f_below q_below ∙ ap (λ b. b || is_none (get_or answers (12 * f + q) None)) none ∙ has

-- a row that failed is lacked
pub lacks-at : (answers : List (Option (List ℕ))) (f q : ℕ) → length answers ≡ 208 → f < 16 → q < 12
    → is_none (get_or answers (12 * f + q) None) ≡ true → lacks_row answers f ≡ true
lacks-at answers f q size f_below q_below failed =
    let rest = drop (12 * f) answers in
    let twelve : length (take 12 rest) ≡ 12 = length-take-le 12 rest (length-rest answers f 11 size f_below (omega arith)) in
    list_any_at is_none (take 12 rest) q None (omega arith)
    (ap is_none (get_or-take 12 rest q None q_below ∙ get_or-drop (12 * f) answers q None) ∙ failed)

-- a row has no answer where it has no fix
pub failed-flag : (answers : List AnswerRow) (i : ℕ) (d : AnswerRow) → i < length answers
    → is_none (get_or (map answer_word answers) i None) ≡ is_none (get_or answers i d).fix
failed-flag answers i d within =
    ap is_none (get_or-map answer_word answers i d None within) ∙ sym (flag-by (get_or answers i d).bytes (get_or answers i d).fix)

module _ (answers : List (Option (List ℕ))) (f : ℕ) where
  -- where two passes have no cause, a frame of the block found is the candidate
  pub candidate-found : (block : List (List ℕ)) (frame : List ℕ) → is_none (two_pass_cause answers) ≡ true → block ≡ block_found answers → frame ≡ frame_of block f
      → candidate answers f ≡ Some frame
  unfolding candidate
  candidate-found block frame none same is = rw none (ap Some (ap (λ b. frame_of b f) (sym same) ∙ sym is))

  -- where they have one, and no row of the frame is lacked, the frame of the rows' answers is
  pub candidate-answered : (frame : List ℕ) → is_none (two_pass_cause answers) ≡ false → lacks_row answers f ≡ false → frame ≡ frame_of (answered_block answers) f
      → candidate answers f ≡ Some frame
  unfolding candidate
  candidate-answered frame some all is = rw (some, all) (ap Some (sym is))

  -- and there is a candidate exactly where no row of the frame is lacked
  pub candidate-has : (has : Bool) → is_none (two_pass_cause answers) ≡ false → has ≡ not (lacks_row answers f) → has ≡ is_some (candidate answers f)
  unfolding candidate
  candidate-has has some is = is ∙ (rw some (by_lacks (lacks_row answers f))) where
    -- by whether a row is lacked
    by_lacks : (lacks : Bool) → not lacks ≡ is_some (if lacks then None else Some (frame_of (answered_block answers) f))
    by_lacks true = refl
    by_lacks false = refl

  module _ (entry : BlockPlan) where
    -- a candidate without a cause is rescued, as its Main Data
    pub rescued-right : (frame : List ℕ) → candidate answers f ≡ Some frame → frame_cause frame (wanted_word entry f) (rule_for entry.content f) ≡ None
        → rescued answers entry f ≡ Some (main_in frame (rule_for entry.content f))
    unfolding rescued
    rescued-right frame is right = rw is (rw right refl)

    -- a candidate with a cause isn't
    pub rescued-wrong : (frame : List ℕ) (cause : FrameCause) → candidate answers f ≡ Some frame
        → frame_cause frame (wanted_word entry f) (rule_for entry.content f) ≡ Some cause → rescued answers entry f ≡ None
    unfolding rescued
    rescued-wrong frame cause is wrong = rw is (rw wrong refl)

    -- a frame without a candidate isn't either
    pub rescued-none : is_some (candidate answers f) ≡ false → is_some (rescued answers entry f) ≡ false
    unfolding rescued
    rescued-none = by_candidate (candidate answers f) where
      -- by whether there is one
      by_candidate : (frame : Option (List ℕ)) → is_some frame ≡ false → is_some (option_and_then (main_if_right entry f) frame) ≡ false
      by_candidate None none = refl
      by_candidate (Some frame) none = cc

    -- what the reading of a candidate says
    pub read-has : {T : Type 0} (r : Result T FrameCause) (frame : List ℕ) (want : ℕ) (rule : Rule) → candidate answers f ≡ Some frame
        → want ≡ wanted_word entry f → rule ≡ rule_for entry.content f
        → IfErr r (λ cause. frame_cause frame want rule ≡ Some cause) → OnOk r (frame_cause frame want rule ≡ None)
        → is_ok r ≡ is_some (rescued answers entry f)
    read-has (Ok x) frame want rule is same_word same_rule refused right =
        sym (ap is_some (rescued-right frame is (cause_as frame want _ rule _ None same_word same_rule right)))
    read-has (Err cause) frame want rule is same_word same_rule refused right =
        sym (ap is_some (rescued-wrong frame cause is (cause_as frame want _ rule _ (Some cause) same_word same_rule refused)))

    -- and what is read of a candidate that is right is what is rescued
    pub read-main : {T : Type 0} (r : Result T FrameCause) (frame main : List ℕ) (want : ℕ) (rule : Rule) → candidate answers f ≡ Some frame
        → want ≡ wanted_word entry f → rule ≡ rule_for entry.content f → is_ok r ≡ true
        → OnOk r (frame_cause frame want rule ≡ None) → OnOk r (main ≡ main_in frame rule) → rescued answers entry f ≡ Some main
    read-main (Ok x) frame main want rule is same_word same_rule ok right reads =
        rescued-right frame is (cause_as frame want _ rule _ None same_word same_rule right) ∙ ap Some (sym (reads ∙ ap (main_in frame) same_rule))
    read-main (Err cause) frame main want rule is same_word same_rule ok right reads = cc

-- the sector that is written for frame f
abbrev pub sector_saved : List (Option (List ℕ)) → BlockPlan → ℕ → List ℕ
sector_saved answers entry f = unwrap_or (rescued answers entry f) (replicate 2048 0)

-- how many of the first n frames are rescued
abbrev pub saved_before : List (Option (List ℕ)) → BlockPlan → ℕ → ℕ
saved_before answers entry n = count_by (λ f. is_some (rescued answers entry f)) (range_with_len 0 n)

-- one number more is counted where it passes
pub count-next : (p : ℕ → Bool) (n : ℕ) → count_by p (range_with_len 0 (n + 1)) ≡ count_by p (range_with_len 0 n) + cond (p n) 1 0
count-next p n =
    let more = sum_by-map-range_with_len_more (λ k. cond (p k) 1 0) (λ k. k) 0 n n (omega arith) in
    rw (sym (map-id (range_with_len 0 n)), sym (map-id (range_with_len 0 (n + 1)))) more

-- one frame more is counted where it is rescued
pub saved-next : (answers : List (Option (List ℕ))) (entry : BlockPlan) (n : ℕ)
    → saved_before answers entry (n + 1) ≡ saved_before answers entry n + cond (is_some (rescued answers entry n)) 1 0
saved-next answers entry n = count-next (λ f. is_some (rescued answers entry f)) n

-- the count goes on by the flag that says whether frame f is rescued
pub saved-counted : (answers : List (Option (List ℕ))) (entry : BlockPlan) (f count : ℕ) (flag : Bool) → count ≡ saved_before answers entry f
    → flag ≡ is_some (rescued answers entry f) → count + bool_byte flag ≡ saved_before answers entry (f + 1)
saved-counted answers entry f count flag counted is =
    ap (λ (n : ℕ). count + n) (as_number flag ∙ ap (λ b. cond b 1 0) is) ∙ ap (λ (n : ℕ). n + cond (is_some (rescued answers entry f)) 1 0) counted
    ∙ sym (saved-next answers entry f)

-- after f + 1 frames at most as many are counted
pub saved-few : (f count : ℕ) (flag : Bool) → count ≤ f → count + bool_byte flag ≤ f + 1
saved-few f count flag few = omega (arith, as_number flag, flag_small flag)

-- the sectors before frame f are those that are saved
abbrev pub AreSavedBefore : List (Option (List ℕ)) → BlockPlan → List (List ℕ) → ℕ → Type 0
AreSavedBefore answers entry sectors f = (k : ℕ) → k < f → get_or sectors k [] ≡ sector_saved answers entry k

-- the sector of one frame more is written
pub saved_sectors-next : (answers : List (Option (List ℕ))) (entry : BlockPlan) (sectors : List (List ℕ)) (f : ℕ) (main : List ℕ) → f < length sectors
    → AreSavedBefore answers entry sectors f → main ≡ sector_saved answers entry f → AreSavedBefore answers entry (set sectors f main) (f + 1)
saved_sectors-next answers entry sectors f main within before is k below =
    ap (λ (m : List ℕ). get_or (set sectors f m) k []) is ∙ fill_by_more (sector_saved answers entry) sectors f [] within before k below

-- once all sixteen frames are done, the sectors are those that are saved
pub saved_sectors-all : (answers : List (Option (List ℕ))) (entry : BlockPlan) (sectors : List (List ℕ)) → length sectors ≡ 16
    → AreSavedBefore answers entry sectors 16 → sectors ≡ sectors_saved answers entry
saved_sectors-all answers entry sectors size saved = fill_by_all (sector_saved answers entry) sectors 16 [] size saved
