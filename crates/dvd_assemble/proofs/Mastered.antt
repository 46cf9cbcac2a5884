-- Frames that were captured of mastered blocks: their homes, and what they say.
use Rattle.std.proofs.Common.{◌≡◌, ◌⊎◌, inl, inr, ◌∙◌, refl, sym, ap, subst, ℕ, zero, suc, ◌+◌, ◌*◌, ◌/◌, ◌%◌, ◌^◌, ◌<◌, ◌==◌, Bool, true, false, if◌then◌else◌, arith}
use Rattle.std.proofs.Common.{◌≤◌, List, [], ◌∷◌, ◌++◌, length, map, get_or, take, replicate, All, None, Some, eq-eqb}
use Rattle.std.specs.Prelude.{bit_and}
use Rattle.std.specs.Int.{from_be_bytes, w32}
use Rattle.std.specs.List.{range_with_len}
use Rattle.std.specs.Option.{option_and_then, option_map_or}
use Rattle.std.specs.Simd.Lanes.{zip2}
use Rattle.std.proofs.lemmas.Bool.{cases_lt}
use Rattle.std.proofs.lemmas.Bool.Decides.{eqb_tells, nat_tests}
use Rattle.std.proofs.lemmas.Nat.{from_be_bytes-to_be_bytes_4}
use Rattle.std.proofs.lemmas.List.{get_or-map, get_or_past, length-map, take_at}
use Rattle.std.proofs.lemmas.List.FromFn.{length-map-range_with_len, get_or-map-range_with_len}
use Rattle.coding.specs.Words.{IsCodeword}
use Rattle.coding.specs.Filling.{AgreeUnmarked}
use Rattle.coding.specs.Nearest.{near_of}
use Rattle.rs_decode.proofs.OneNear.{filling_near}
use Rattle.rs_decode.proofs.NearSearch.{near_of-some}
use Rattle.coding.specs.Product.{line, place}
use Rattle.coding.specs.Recording.{record_at, row_at}
use Rattle.dvd_capture.specs.Answers.{marks_line}
use Rattle.dvd_capture.proofs.Fetching.{row_at-record_at}
use Rattle.dvd_frame.specs.Frame.{found_word}
use Rattle.dvd_frame.specs.Id.{has_check, id_word, ied_of, word_bytes}
use Rattle.dvd_frame.specs.declared.id.Area.{Area}
use Rattle.dvd_frame.specs.declared.id.Area.TheVariants.{DataZone, LeadIn, LeadOut, Middle}
use Rattle.dvd_frame.proofs.IdChecks.{ied_right}
use Rattle.dvd_layout.specs.Lengths.{has_two_layers}
use Rattle.dvd_layout.specs.Plan.{plan_of}
use Rattle.dvd_layout.specs.Place.{HasNumbers}
use Rattle.dvd_layout.specs.declared.entry.BlockPlan.{BlockPlan}
use Rattle.dvd_layout.specs.declared.layout.Layout.{Layout}
use Rattle.dvd_layout.specs.declared.layout.Zones.TheVariants.{DataOnly}
use Rattle.dvd_layout.proofs.Ranges.{plan_of-numbers}
use Rattle.dvd_merge.specs.Agreeing.{IsTableOf}
use Rattle.dvd_merge.specs.Join.{joined, seen, unseen}
use Rattle.dvd_merge.specs.declared.place.Place.{Place}
use Rattle.dvd_merge.specs.declared.place.Place.TheVariants.{Unseen, Value}
use Rattle.dvd_merge.proofs.Costs.{is_of-fold, is_of-unseen, unseen_place}
use Rattle.dvd_merge.proofs.Places.{Tells}
use Rattle.dvd_assemble.specs.Assembled.{frame_row, frame_table, table_for, table_of_frame}
use Rattle.dvd_assemble.specs.Frames.{Frame}
use Rattle.dvd_assemble.specs.Home.{checked_word, home, home_in, id_word_in}
use Rattle.dvd_assemble.specs.Laws.{CapturedFramesAgree, CapturedFramesComeHome}
use Rattle.dvd_assemble.specs.Mastered.{AreNamed, IsCaptureOf, IsCaptured, word_for}
use Rattle.dvd_assemble.proofs.Assembling.{assembled-at, block_at}
use Rattle.dvd_assemble.proofs.Homes.{IsAt, Sides, home_some, length-words, sides, some_entry, word-at}

-- an ID word has 32 bits
id_word-lt : (area : Area) (layer number : ℕ) (dim : Bool) → layer < 2 → number < 2 ^ 24 → id_word area layer dim number < 2 ^ 32
id_word-lt DataZone layer number true two low = omega arith
id_word-lt DataZone layer number false two low = omega arith
id_word-lt LeadIn layer number true two low = omega arith
id_word-lt LeadIn layer number false two low = omega arith
id_word-lt LeadOut layer number true two low = omega arith
id_word-lt LeadOut layer number false two low = omega arith
id_word-lt Middle layer number true two low = omega arith
id_word-lt Middle layer number false two low = omega arith

-- the ID word of each frame of the data zone has 32 bits
word_for-lt : (layout : Layout) (k f : ℕ) → k < length (plan_of layout DataOnly) → f < 16 → word_for layout k f < 2 ^ 32
word_for-lt layout k f within below =
    let entry : BlockPlan = get_or (plan_of layout DataOnly) k some_entry in
    let numbers : HasNumbers entry = plan_of-numbers layout DataOnly k some_entry within in
    subst (λ w. w < 2 ^ 32) (sym (word-at layout k f some_entry within below))
    (id_word-lt entry.area entry.layer (entry.first + f) (has_two_layers layout.shape) numbers.layers (omega (arith, numbers.numbers)))

-- no two frames of the zone have one place
one_place : (layout : Layout) (word n m : ℕ) → Sides layout word n → Sides layout word m → m ≡ n
one_place layout word n m (inl a) (inl b) = omega (arith, a.1, b.1)
one_place layout word n m (inl a) (inr b) = absurd (omega (arith, a.0, b.0))
one_place layout word n m (inr a) (inl b) = absurd (omega (arith, a.0, b.0))
one_place layout word n m (inr a) (inr b) = omega (arith, a.1, b.1, a.2, b.2)

-- the home of a frame's own word
own_home : (layout : Layout) (k f : ℕ) → k < length (plan_of layout DataOnly) → f < 16 → home_in layout (word_for layout k f) ≡ Some (16 * k + f)
own_home layout k f within below =
    let word : ℕ = word_for layout k f in
    let at : IsAt layout word (16 * k + f) =
    (omega (arith, length-words layout, within, below), eq-eqb (bit_and word 0x0DFFFFFF) (bit_and word 0x0DFFFFFF) refl) in
    home_some layout word (16 * k + f) at (λ m there. one_place layout word (16 * k + f) m (sides layout word (16 * k + f) at) (sides layout word m there))

-- the front of a front
take_prefix : (m n : ℕ) (xs : List ℕ) → m ≤ n → take m (take n xs) ≡ take m xs
take_prefix zero n xs less = refl
take_prefix (suc m) zero xs less = absurd (omega (arith, less))
take_prefix (suc m) (suc n) [] less = refl
take_prefix (suc m) (suc n) (x ∷ xs) less = ap (λ ys. x ∷ ys) (take_prefix m n xs (omega (arith, less)))

-- the word of a row that begins with an ID and its IED
word_checked : (word : ℕ) (row : List ℕ) → word < 2 ^ 32 → take 6 row ≡ word_bytes word ++ ied_of word → checked_word row ≡ Some word
word_checked word row fits begins =
    let right : has_check (take 6 row) ≡ true = ap has_check begins ∙ ied_right word in
    let four : take 4 row ≡ word_bytes word =
    sym (take_prefix 4 6 row (omega arith)) ∙ ap (take 4) begins ∙ take_at (word_bytes word) (ied_of word) 4 refl in
    let found : found_word row ≡ word = ap (λ (l : List ℕ). from_be_bytes w32 l) four ∙ from_be_bytes-to_be_bytes_4 word fits in
    ap (λ (r : Bool). if r then Some (found_word row) else None) right ∙ ap (λ w. Some w) found

-- the first row of a frame is that of its block
first_is : (f : ℕ) → f < 16 → row_at (13 * f + 0) ≡ 12 * f
first_is f below = grind (arith, nat_tests)

-- the law: a frame that was captured of a mastered one has its home there
pub come_home : CapturedFramesComeHome
unfolding home id_word_in
come_home layout k f block frame within below names captured =
    let word : List ℕ = line block (12 * f) in
    let row : List ℕ = line frame.rows 0 in
    let marks : List Bool = marks_line frame.marks 0 in
    let codeword : IsCodeword 182 10 word = names.product.rows (12 * f) [] (omega (arith, names.product.height, below)) in
    let agrees : AgreeUnmarked marks row word = subst (λ i. AgreeUnmarked marks row (line block i)) (first_is f below) (captured.agrees 0 (omega arith)) in
    let size = captured.size 0 (omega arith) in
    let near : near_of 182 10 row marks ≡ Some word =
    near_of-some 182 10 row word marks (omega arith)
    (filling_near 182 10 row marks word size.0 size.1 (record { codeword = codeword; agrees = agrees; within = captured.few })) in
    ap (λ found. option_and_then (home_in layout) (option_and_then checked_word found)) near
    ∙ ap (λ found. option_and_then (home_in layout) found) (word_checked (word_for layout k f) word (word_for-lt layout k f within below) (names.named f below))
    ∙ own_home layout k f within below

-- what is known by a row whose unmarked places are right
row_tells : (bytes : List ℕ) (marks : List Bool) (right : ℕ → ℕ)
    → ((j : ℕ) → j < length marks → get_or marks j false ≡ false → right j ≡ get_or bytes j 0)
    → (j : ℕ) → (get_or (zip2 seen bytes marks) j Unseen ≡ Unseen) ⊎ (get_or (zip2 seen bytes marks) j Unseen ≡ Value (right j))
row_tells [] marks right agrees j = inl refl
row_tells (byte ∷ bytes) [] right agrees j = inl refl
row_tells (byte ∷ bytes) (true ∷ marks) right agrees zero = inl refl
row_tells (byte ∷ bytes) (false ∷ marks) right agrees zero = inr (ap Value (sym (agrees 0 (omega arith) refl)))
row_tells (byte ∷ bytes) (mark ∷ marks) right agrees (suc j) =
    row_tells bytes marks (λ i. right (suc i)) (λ i within free. agrees (suc i) (omega (arith, within)) free) j

-- the table of a captured frame is of the block
module _ (f : ℕ) (block : List (List ℕ)) (frame : Frame) (captured : IsCaptureOf f block frame) where
  -- what the frame says of row i: its own row, or nothing where the row isn't of this frame
  abbrev row_told : ℕ → List Place
  row_told i = if record_at i / 13 == f then frame_row frame (record_at i % 13) else replicate 182 Unseen

  -- place j of a row isn't seen, or has the byte of row i of the block
  abbrev Has : ℕ → ℕ → List Place → Type 0
  Has i j row = (get_or row j Unseen ≡ Unseen) ⊎ (get_or row j Unseen ≡ Value (place block i j))

  -- each place of row i of which the frame says something has the byte of the block
  row_has : (i j : ℕ) → i < 208 → Has i j (row_told i)
  row_has i j below = by_frame (eqb_tells (record_at i / 13) f)
    where
      q : ℕ
      q = record_at i % 13

      by_frame : Tells (record_at i / 13) f → Has i j (row_told i)
      by_frame (inl here) =
          let number : 13 * f + q ≡ record_at i = omega (arith, here.1) in
          let row : row_at (13 * f + q) ≡ i = ap row_at number ∙ row_at-record_at i below in
          let agrees = subst (λ m. AgreeUnmarked (marks_line frame.marks q) (line frame.rows q) (line block m)) row (captured.agrees q (omega arith)) in
          rw here.0 (row_tells (line frame.rows q) (marks_line frame.marks q) (λ p. place block i p) agrees j)
      by_frame (inr elsewhere) = rw elsewhere.0 (inl (unseen_place 182 j))

  -- so the table of the frame is of the block
  table_has : IsTableOf block (frame_table f frame)
  unfolding frame_table
  table_has i j = by_side (cases_lt i 208)
    where
      by_side : (i < 208) ⊎ (208 ≤ i) → Has i j (get_or (map row_told (range_with_len 0 208)) i [])
      by_side (inl below) =
          subst (Has i j) (sym (get_or-map-range_with_len row_told 0 208 i i [] below (omega arith))) (row_has i j below)
      by_side (inr past) =
          inl (ap (λ (row : List Place). get_or row j Unseen)
          (get_or_past (map row_told (range_with_len 0 208)) i [] (omega (arith, past, length-map-range_with_len row_told 0 208))))

-- what it says of any block
told_has : (layout : Layout) (blocks : ℕ → List (List ℕ)) (k : ℕ) (frame : Frame) → AreNamed layout blocks → IsCaptured layout blocks frame
    → IsTableOf (blocks k) (table_of_frame layout k frame)
unfolding table_of_frame
told_has layout blocks k frame named (at, f, within, below, captured) =
    subst (λ found. IsTableOf (blocks k) (option_map_or (table_for k frame) found unseen)) (sym home_is) (by_block (eqb_tells ((16 * at + f) / 16) k))
  where
    home_is : home layout frame ≡ Some (16 * at + f)
    home_is = come_home layout at f (blocks at) frame within below (named at within) captured

    by_block : Tells ((16 * at + f) / 16) k → IsTableOf (blocks k) (table_for k frame (16 * at + f))
    by_block (inl here) =
        let block : at ≡ k = omega (arith, here.1, below) in
        let number : (16 * at + f) % 16 ≡ f = omega (arith, below) in
        rw here.0 (subst (λ g. IsTableOf (blocks k) (frame_table g frame)) (sym number)
        (subst (λ b. IsTableOf (blocks b) (frame_table f frame)) block (table_has f (blocks at) frame captured)))
    by_block (inr elsewhere) = rw elsewhere.0 (is_of-unseen (blocks k))

-- what all of them say of a block
block_has : (layout : Layout) (blocks : ℕ → List (List ℕ)) (frames : List Frame) (k : ℕ) → AreNamed layout blocks → All (IsCaptured layout blocks) frames
    → IsTableOf (blocks k) (block_at layout frames k)
unfolding joined
block_has layout blocks frames k named captured =
    is_of-fold (blocks k) unseen (map (table_of_frame layout k) frames) (is_of-unseen (blocks k))
    (λ m d inside.
    let there : m < length frames = omega (arith, inside, length-map frames (table_of_frame layout k)) in
    subst (IsTableOf (blocks k)) (sym (get_or-map (table_of_frame layout k) frames m blank d there)) (told_has layout blocks k (get_or frames m blank) named (captured m blank there)))
  where
    blank : Frame
    blank = record { rows = []; marks = [] }

-- the law: each place of such frames that is seen has the byte of its block
pub agree : CapturedFramesAgree
agree layout blocks frames named captured k within =
    subst (IsTableOf (blocks k)) (sym (assembled-at layout frames k unseen within)) (block_has layout blocks frames k named captured)
