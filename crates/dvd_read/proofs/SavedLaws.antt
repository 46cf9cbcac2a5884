-- What holds of all that is saved.
use Rattle.std.proofs.Common.{◌≡◌, ◌∙◌, ℕ, zero, suc, ◌+◌, ◌*◌, ◌<◌, ◌≤◌, Bool, true, false, cond, inl, inr, if◌then◌else◌, List, [], length, take, drop, get_or, replicate, slice_get, unwrap_or, refl, sym, ap, subst, arith, Some, None, is_none, is_some, IsTrue, ◌↔◌}
use Rattle.std.specs.List.{cons_option, count_by, filter_map, range_with_len}
use Rattle.std.specs.Option.{option_and_then, option_map}
use Rattle.std.specs.declared.option.Option.{Option}
use Rattle.std.proofs.lemmas.Bool.{cases_eq}
use Rattle.std.proofs.lemmas.List.{get_or-map, length-append, length-drop, length-replicate, length-take-le}
use Rattle.std.proofs.lemmas.List.FromFn.{get_or-map-range_with_len, length-map-range_with_len, length-range_with_len}
use Rattle.std.proofs.lemmas.List.Sums.{count_by-le-length}
use Rattle.coding.specs.Words.{IsNear, cost}
use Rattle.coding.specs.Nearest.{near_of}
use Rattle.rs_decode.proofs.NearSearch.{near_of-some}
use Rattle.coding.specs.Product.{IsBlockOf, IsProduct, line}
use Rattle.dvd_capture.specs.Answers.{marks_line}
use Rattle.dvd_capture.specs.Rule.{HasAnswers, HasNoTwoPass}
use Rattle.dvd_capture.specs.declared.stage.Stage.{Stage}
use Rattle.dvd_capture.specs.declared.stage.Stage.TheVariants.{Empty, Fetched, Refused, Fixed}
use Rattle.coding.specs.TwoPass.{IsTwoPass, answers_of}
use Rattle.dvd_capture.proofs.Columns.{length-answers_of}
use Rattle.dvd_frame.specs.Frame.{found_word, frame_cause, main_in}
use Rattle.dvd_frame.proofs.Masking.{length-masked}
use Rattle.dvd_layout.specs.declared.entry.BlockPlan.{BlockPlan}
use Rattle.dvd_layout.specs.Place.{HasNumbers, rule_for}
use Rattle.dvd_decoding.specs.declared.cause.Cause.{Cause}
use Rattle.dvd_decoding.specs.Causes.{two_pass_cause}
use Rattle.coding.specs.Found.{block_found}
use Rattle.dvd_decoding.specs.Frames.{cause_in, fault_at, frame_of, frames_cause, main_data, wanted_word}
use Rattle.dvd_decoding.specs.Made.{IsMadeOf, IsReceived}
use Rattle.dvd_decoding.specs.Reading.{block_cause, block_in}
use Rattle.dvd_decoding.specs.Salvage.{block_out, candidate, rescued, saved_in}
use Rattle.dvd_read.specs.Inner.Saved.{answered_block, lacks_row, main_if_right, sectors_saved}
use Rattle.dvd_read.proofs.BlockRead.{both_of_none}
use Rattle.dvd_read.proofs.Codewords.{near_of-codeword}
use Rattle.dvd_read.proofs.FrameFaults.{frames-same, prefixes, prefixes-more, mains-all}
use Rattle.dvd_read.proofs.Mastered.{frame_fine}
use Rattle.dvd_read.proofs.Outcomes.{agrees-no_cause, found-agrees, no_cause-agrees}
use Rattle.dvd_read.proofs.RowAnswers.{get_or-answers_of}
use Rattle.dvd_read.proofs.SavedFrames.{candidate-answered, candidate-found, count-next, lacks-at, lacks_before, none-more, rescued-right, sector_saved}

-- WHAT TWO PASSES LEAVE
-- where no block agrees, there is a cause
refused-caused : (received : List (List ℕ)) (marks : List (List Bool)) → length received ≡ 208 → length marks ≡ 208 → HasNoTwoPass received marks
    → is_none (two_pass_cause (answers_of received marks)) ≡ false
refused-caused received marks size marks_size none = by_cause (two_pass_cause (answers_of received marks)) refl where
  -- by the cause: without one, the block found agrees
  by_cause : (cause : Option Cause) → two_pass_cause (answers_of received marks) ≡ cause → is_none cause ≡ false
  by_cause None is =
      absurd (none (block_found (answers_of received marks)) (no_cause-agrees (answers_of received marks) (length-answers_of received marks 208 size marks_size) is))
  by_cause (Some cause) is = refl

module _ (received : List (List ℕ)) (marks : List (List Bool)) (size : length received ≡ 208) (marks_size : length marks ≡ 208) (stage : Stage) (fixed : Bool)
    (said : IsTrue fixed ↔ stage ≡ Fixed) where
  -- the stage says whether there is a cause
  pub fixed-told : (block : List (List ℕ)) → HasAnswers stage → (stage ≡ Refused → HasNoTwoPass received marks) → (stage ≡ Fixed → IsTwoPass received marks block)
      → fixed ≡ is_none (two_pass_cause (answers_of received marks))
  fixed-told block = by_stage stage fixed said where
    -- by the stage, which is Refused or Fixed, and by the flag that says it
    by_stage : (at : Stage) (flag : Bool) → (IsTrue flag ↔ at ≡ Fixed) → HasAnswers at → (at ≡ Refused → HasNoTwoPass received marks)
        → (at ≡ Fixed → IsTwoPass received marks block) → flag ≡ is_none (two_pass_cause (answers_of received marks))
    by_stage Empty flag is has refused agrees = absurd has
    by_stage Fetched flag is has refused agrees = absurd has
    by_stage Refused true is has refused agrees = let no : Refused ≡ Fixed = is.0 refl in cc
    by_stage Refused false is has refused agrees = sym (refused-caused received marks size marks_size (refused refl))
    by_stage Fixed true is has refused agrees =
        sym (ap is_none (agrees-no_cause (answers_of received marks) block (length-answers_of received marks 208 size marks_size) (agrees refl)))
    by_stage Fixed false is has refused agrees = let no = is.1 refl in cc

  -- and the block that is fixed is the one found
  pub fixed-found : (block : List (List ℕ)) → (stage ≡ Fixed → IsTwoPass received marks block) → fixed ≡ true → block ≡ block_found (answers_of received marks)
  fixed-found block agrees found =
      sym (found-agrees (answers_of received marks) block (length-answers_of received marks 208 size marks_size) (agrees (said.0 found)))

-- A BLOCK WITHOUT A CAUSE
-- where no value is first, the first number gives none, and of the others none is first
head-nothing : {X : Type 0} (h : ℕ → Option X) (a n : ℕ) → slice_get (filter_map h (range_with_len a (suc n))) 0 ≡ None
    → (h a ≡ None) × (slice_get (filter_map h (range_with_len (a + 1) n)) 0 ≡ None)
head-nothing {X = X} h a n = by_head (h a) (filter_map h (range_with_len (a + 1) n)) where
  -- by whether the first number gives a value
  by_head : (head : Option X) (rest : List X) → slice_get (cons_option head rest) 0 ≡ None → (head ≡ None) × (slice_get rest 0 ≡ None)
  by_head None rest none = (refl, none)
  by_head (Some x) rest none = cc

-- so the function gives none at all
first-nothing : {X : Type 0} (h : ℕ → Option X) (a n i : ℕ) → slice_get (filter_map h (range_with_len a n)) 0 ≡ None → a ≤ i → i < a + n → h i ≡ None
first-nothing h a zero i none from below = absurd (omega arith)
first-nothing h a (suc n) i none from below =
    let parts = head-nothing h a n none in
    elim (cases_eq a i) [
      | inl same ↦ ap h (sym same) ∙ parts.0
      | inr other ↦ first-nothing h (a + 1) n i parts.1 (omega arith) (omega arith)
    ]

-- where a value's image is missing, the value is
unmapped : {X Y : Type 0} (g : X → Y) (o : Option X) → option_map g o ≡ None → o ≡ None
unmapped g None is = refl
unmapped g (Some x) is = cc

-- so no frame has a cause
no_frame_cause : (block : List (List ℕ)) (entry : BlockPlan) (f : ℕ) → frames_cause block entry ≡ None → f < 16
    → frame_cause (frame_of block f) (wanted_word entry f) (rule_for entry.content f) ≡ None
unfolding frames_cause
no_frame_cause block entry f none below = unmapped (cause_in f) _ (first-nothing (fault_at block entry) 0 16 f none (omega arith) (omega arith))

-- where each number below n passes, n are counted
count-all : (p : ℕ → Bool) (n : ℕ) → ((k : ℕ) → k < n → p k ≡ true) → count_by p (range_with_len 0 n) ≡ n
count-all p zero each = refl
count-all p (suc n) each =
    let next : suc n ≡ n + 1 = omega arith in
    let rest : count_by p (range_with_len 0 n) ≡ n = count-all p n (λ k below. each k (omega arith)) in
    let one : ℕ = cond (p n) 1 0 in
    let here : one ≡ 1 = rw (each n (omega arith)) refl in
    ap (λ m. count_by p (range_with_len 0 m)) next ∙ count-next p n ∙ omega (arith, rest, here)

-- of a block without a cause all frames are saved
pub wholly-saved : (rows : List (List ℕ)) (marks : List (List Bool)) (entry : BlockPlan) → block_cause rows marks entry ≡ None
    → (saved_in rows marks entry ≡ 16) × (block_out rows marks entry ≡ main_data (block_in rows marks) entry)
unfolding saved_in block_out
wholly-saved rows marks entry none = (
  count-all (λ f. is_some (rescued answers entry f)) 16 (λ k below. ap is_some (each k below)),
  mains-all block entry (sectors_saved answers entry) (length-map-range_with_len (sector_saved answers entry) 0 16)
      (λ k below. get_or-map-range_with_len (sector_saved answers entry) 0 16 k k [] below (omega arith) ∙ ap (λ o. unwrap_or o (replicate 2048 0)) (each k below)),
) where
  -- what the first pass answers
  answers : List (Option (List ℕ))
  answers = answers_of rows marks

  -- the block that two passes find
  block : List (List ℕ)
  block = block_found answers

  -- each frame is rescued, as its Main Data
  each : (k : ℕ) → k < 16 → rescued answers entry k ≡ Some (main_in (frame_of block k) (rule_for entry.content k))
  each k below =
      let parts = both_of_none rows marks entry none in
      rescued-right answers k entry (frame_of block k) (candidate-found answers k block (frame_of block k) (ap is_none parts.0) refl refl)
      (no_frame_cause block entry k parts.1 below)

-- GOOD ROWS
-- where the first n rows have answers, none is lacked
none-lacked : (answers : List (Option (List ℕ))) (f n : ℕ) → length answers ≡ 208 → f < 16 → n ≤ 12
    → ((q : ℕ) → q < n → is_none (get_or answers (12 * f + q) None) ≡ false) → lacks_before answers f n ≡ false
none-lacked answers f zero size f_below most all = refl
none-lacked answers f (suc n) size f_below most all =
    let next : suc n ≡ n + 1 = omega arith in
    ap (lacks_before answers f) next
    ∙ none-more answers f n size f_below (omega arith) (none-lacked answers f n size f_below (omega arith) (λ q below. all q (omega arith))) (all n (omega arith))

-- and where none is lacked, each has one
each-answered : (answers : List (Option (List ℕ))) (f q : ℕ) → length answers ≡ 208 → f < 16 → q < 12 → lacks_row answers f ≡ false
    → is_none (get_or answers (12 * f + q) None) ≡ false
each-answered answers f q size f_below q_below none = by_flag (is_none (get_or answers (12 * f + q) None)) refl where
  -- by whether the row failed
  by_flag : (flag : Bool) → is_none (get_or answers (12 * f + q) None) ≡ flag → flag ≡ false
  by_flag false is = refl
  by_flag true is = let lacks = lacks-at answers f q size f_below q_below is in sym lacks ∙ none

-- a row of the answers' block
line-answered : (answers : List (Option (List ℕ))) (i : ℕ) → i < length answers → line (answered_block answers) i ≡ unwrap_or (get_or answers i None) []
line-answered answers i within = get_or-map (λ row. unwrap_or row []) answers i None [] within

module _ (received : List (List ℕ)) (marks : List (List Bool)) (size : length received ≡ 208) (marks_size : length marks ≡ 208) where
  -- a row is answered as the first pass answers it
  answer-at : (i : ℕ) → i < 208 → get_or (answers_of received marks) i None ≡ near_of 182 10 (line received i) (marks_line marks i)
  answer-at i below = get_or-answers_of received marks i None (omega arith) (omega arith)

  -- there are 208 answers
  answers_size : length (answers_of received marks) ≡ 208
  answers_size = length-answers_of received marks 208 size marks_size

-- a good row is answered by the row that was recorded
good-answer : (block received : List (List ℕ)) (marks : List (List Bool)) (i : ℕ) → IsProduct block → IsReceived received marks → i < 208
    → cost (line block i) (line received i) (marks_line marks i) ≤ 10 → get_or (answers_of received marks) i None ≡ Some (line block i)
good-answer block received marks i product is below cheap =
    let near : IsNear 182 10 (line received i) (marks_line marks i) (line block i) = record {
      codeword = product.rows i [] (omega (arith, product.height));
      received_size = is.widths i [] (omega (arith, is.height));
      marks_size = is.marks_widths i [] (omega (arith, is.marks_height));
      within = cheap;
    } in
    answer-at received marks is.height is.marks_height i below ∙ near_of-some 182 10 (line received i) (line block i) (marks_line marks i) (omega arith) near

-- the sector of a frame that is rescued
line-out : (rows : List (List ℕ)) (marks : List (List Bool)) (entry : BlockPlan) (f : ℕ) → f < 16
    → line (block_out rows marks entry) f ≡ sector_saved (answers_of rows marks) entry f
unfolding block_out
line-out rows marks entry f below = get_or-map-range_with_len (sector_saved (answers_of rows marks) entry) 0 16 f f [] below (omega arith)

-- Where two passes refuse a block, a frame whose rows are good is saved.
pub good_rows-saved : (entry : BlockPlan) (dim : Bool) (cpr : List ℕ) (main : ℕ → List ℕ) (frames block received : List (List ℕ)) (marks : List (List Bool)) (cause : Cause) (f : ℕ)
    → HasNumbers entry → IsMadeOf entry dim cpr main frames → IsBlockOf frames block → IsReceived received marks
    → two_pass_cause (answers_of received marks) ≡ Some cause → f < 16
    → ((q : ℕ) → q < 12 → cost (line block (12 * f + q)) (line received (12 * f + q)) (marks_line marks (12 * f + q)) ≤ 10)
    → line (block_out received marks entry) f ≡ main f
good_rows-saved entry dim cpr main frames block received marks cause f numbers made is_block is caused below cheap =
    line-out received marks entry f below
    ∙ ap (λ o. unwrap_or o (replicate 2048 0))
    (rescued-right answers f entry (frame_of block f)
    (candidate-answered answers f (frame_of block f) (ap is_none caused) (none-lacked answers f 12 size below (omega arith) (λ q q_below. ap is_none (answer q q_below)))
    (sym (frames-same (answered_block answers) block f
    (λ q q_below. line-answered answers (12 * f + q) (omega (arith, size)) ∙ ap (λ row. unwrap_or row []) (answer q q_below)))))
    (unmapped (cause_in f) _ fine.0))
    ∙ fine.1
  where
    -- what the first pass answers
    answers : List (Option (List ℕ))
    answers = answers_of received marks

    -- there are 208 of them
    size : length answers ≡ 208
    size = answers_size received marks is.height is.marks_height

    -- each of the frame's twelve rows is answered by the row that was recorded
    answer : (q : ℕ) → q < 12 → get_or answers (12 * f + q) None ≡ Some (line block (12 * f + q))
    answer q q_below = good-answer block received marks (12 * f + q) is_block.product is (omega arith) (cheap q q_below)

    -- the frame of the block has no fault, and its Main Data are those it was made of
    fine : (fault_at block entry f ≡ None) × (main_in (frame_of block f) (rule_for entry.content f) ≡ main f)
    fine = frame_fine entry dim cpr main frames block f numbers made is_block below

-- SIZES

-- the fronts of n rows of 182 places are 172 n bytes
length-prefixes : (block : List (List ℕ)) (f n : ℕ) → ((q : ℕ) → q < n → length (line block (12 * f + q)) ≡ 182) → length (prefixes block f n) ≡ 172 * n
length-prefixes block f zero wide = refl
length-prefixes block f (suc n) wide =
    let next : suc n ≡ n + 1 = omega arith in
    let row = line block (12 * f + n) in
    let width = wide n (omega arith) in
    let part : length (take 172 row) ≡ 172 = length-take-le 172 row (omega arith) in
    let rest = length-prefixes block f n (λ q below. wide q (omega arith)) in
    ap (λ m. length (prefixes block f m)) next ∙ ap length (prefixes-more block f n)
    ∙ length-append (prefixes block f n) (take 172 row) ∙ (omega (arith, part, rest))

-- a frame of twelve rows of 182 places has 2,064 bytes
length-frame : (block : List (List ℕ)) (f : ℕ) → ((q : ℕ) → q < 12 → length (line block (12 * f + q)) ≡ 182) → length (frame_of block f) ≡ 2064
unfolding frame_of
length-frame block f wide = length-prefixes block f 12 wide

-- the Main Data of a frame are 2,048 bytes
length-main : (frame : List ℕ) (entry : BlockPlan) (f : ℕ) → length frame ≡ 2064 → length (main_in frame (rule_for entry.content f)) ≡ 2048
length-main frame entry f size =
    length-masked (found_word frame) (rule_for entry.content f) (take 2048 (drop 12 frame)) ∙ length-take-le 2048 (drop 12 frame) (omega (arith, length-drop 12 frame))

-- of sixteen numbers at most sixteen are counted
count-most : (p : ℕ → Bool) → count_by p (range_with_len 0 16) ≤ 16
count-most p =
    let most : count_by p (range_with_len 0 16) ≤ length (range_with_len 0 16) = count_by-le-length p (range_with_len 0 16) in
    subst (λ n. count_by p (range_with_len 0 16) ≤ n) (length-range_with_len 0 16) most

module _ (rows : List (List ℕ)) (marks : List (List Bool)) (size : length rows ≡ 208) (marks_size : length marks ≡ 208) where
  -- what the first pass answers
  abbrev answers : List (Option (List ℕ))
  answers = answers_of rows marks

  -- an answer has 182 places
  answer-wide : (i : ℕ) → i < 208 → is_none (get_or answers i None) ≡ false → length (unwrap_or (get_or answers i None) []) ≡ 182
  answer-wide i below has = by_answer (get_or answers i None) refl has where
    -- by whether there is an answer
    by_answer : (answer : Option (List ℕ)) → get_or answers i None ≡ answer → is_none answer ≡ false → length (unwrap_or answer []) ≡ 182
    by_answer None is some = cc
    by_answer (Some word) is some = (near_of-codeword 182 10 (line rows i) word (marks_line marks i) (sym (answer-at rows marks size marks_size i below) ∙ is)).size

  -- a candidate has 2,064 bytes
  candidate-size : (f : ℕ) (frame : List ℕ) → f < 16 → candidate answers f ≡ Some frame → length frame ≡ 2064
  unfolding candidate
  candidate-size f frame f_below = by_cause (two_pass_cause answers) (lacks_row answers f) refl refl where
    -- by the cause, and by whether a row of the frame is lacked
    by_cause : (cause : Option Cause) (lacks : Bool) → two_pass_cause answers ≡ cause → lacks_row answers f ≡ lacks
        → cond (is_none cause) (Some (frame_of (block_found answers) f)) (cond lacks None (Some (frame_of (answered_block answers) f))) ≡ Some frame
        → length frame ≡ 2064
    by_cause None lacks none lacks_is is =
        let product = (no_cause-agrees answers (answers_size rows marks size marks_size) none).product in
        let same : frame_of (block_found answers) f ≡ frame = cc in
        ap length (sym same) ∙ length-frame (block_found answers) f (λ q below. (product.rows (12 * f + q) [] (omega (arith, product.height))).size)
    by_cause (Some cause) true caused lacks_is is = cc
    by_cause (Some cause) false caused all is =
        let long = answers_size rows marks size marks_size in
        let same : frame_of (answered_block answers) f ≡ frame = cc in
        ap length (sym same)
        ∙ length-frame (answered_block answers) f
        (λ q below.
        ap length (line-answered answers (12 * f + q) (omega arith)) ∙ answer-wide (12 * f + q) (omega arith) (each-answered answers f q long f_below below all))

  -- and a sector 2,048
  sector-size : (entry : BlockPlan) (f : ℕ) → f < 16 → length (sector_saved answers entry f) ≡ 2048
  unfolding rescued
  sector-size entry f below = by_candidate (candidate answers f) refl where
    -- by whether there is a candidate
    by_candidate : (frame : Option (List ℕ)) → candidate answers f ≡ frame → length (unwrap_or (option_and_then (main_if_right entry f) frame) (replicate 2048 0)) ≡ 2048
    by_candidate None is = length-replicate {A = ℕ} 2048 0
    by_candidate (Some frame) is = by_right (is_none (frame_cause frame (wanted_word entry f) (rule_for entry.content f))) where
      -- by whether it is right
      by_right : (right : Bool) → length (unwrap_or (if right then Some (main_in frame (rule_for entry.content f)) else None) (replicate 2048 0)) ≡ 2048
      by_right false = length-replicate {A = ℕ} 2048 0
      by_right true = length-main frame entry f (candidate-size f frame below is)

  -- what is given out is sixteen sectors of 2,048 bytes, of which at most sixteen are saved
  pub sixteen-sectors : (entry : BlockPlan)
      → (length (block_out rows marks entry) ≡ 16) × ((f : ℕ) → f < 16 → length (line (block_out rows marks entry) f) ≡ 2048) × (saved_in rows marks entry ≤ 16)
  unfolding block_out saved_in
  sixteen-sectors entry = (
    length-map-range_with_len (sector_saved answers entry) 0 16,
    λ f below. ap length (line-out rows marks entry f below) ∙ sector-size entry f below,
    count-most (λ f. is_some (rescued answers entry f)),
  )
