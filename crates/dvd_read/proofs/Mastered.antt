-- The frames of a block that was made of sixteen data frames are read back from it.
use Rattle.std.proofs.Common.{◌≡◌, ◌∙◌, ℕ, zero, suc, ◌+◌, ◌-◌, ◌*◌, ◌^◌, ◌<◌, ◌≤◌, min, Bool, true, false, List, [], ◌++◌, length, map, take, drop, inl, inr, refl, sym, ap, subst, arith, None}
use Rattle.std.specs.Prelude.{bit_and}
use Rattle.std.specs.Int.{bit_at}
use Rattle.std.specs.List.{range_with_len}
use Rattle.std.specs.Option.{option_map}
use Rattle.std.proofs.lemmas.Bool.{cases_lt}
use Rattle.std.proofs.lemmas.Nat.Bits.{bit_at_and, bit_at_above, bit_at_cat_low, same_from_bits}
use Rattle.std.proofs.lemmas.List.FromFn.{length-map-range_with_len, get_or-map-range_with_len}
use Rattle.std.proofs.lemmas.List.{get_or-take, get_or-drop, length-take-le, length-drop}
use Rattle.std.proofs.lemmas.Grind.{same_number_lists}
use Rattle.coding.specs.Product.{HoldsFrame, IsBlockOf, IsProduct, line}
use Rattle.std.proofs.Math.Seq.{take-add}
use Rattle.std.proofs.lemmas.List.{take_all, length-append}
use Rattle.dvd_frame.specs.Edc.{edc_of}
use Rattle.dvd_frame.specs.Scrambling.{masked}
use Rattle.dvd_frame.proofs.Masking.{length-masked}
use Rattle.dvd_frame.proofs.IdChecks.{length-ied_of}
use Rattle.dvd_frame.specs.declared.id.Area.TheVariants.{DataZone, LeadIn, LeadOut, Middle}
use Rattle.dvd_frame.specs.Id.{area_number, id_word, ied_of, word_bytes}
use Rattle.dvd_frame.specs.Frame.{data_frame, frame_cause, frame_head, main_in}
use Rattle.dvd_frame.specs.declared.id.Area.{Area}
use Rattle.dvd_frame.specs.declared.scrambling.Rule.{Rule}
use Rattle.dvd_frame.proofs.ReadBack.{read_back}
use Rattle.dvd_layout.specs.declared.entry.BlockPlan.{BlockPlan}
use Rattle.dvd_layout.specs.Place.{HasNumbers, rule_for}
use Rattle.dvd_decoding.specs.Frames.{cause_in, fault_at, frame_of, frames_cause, main_data, wanted_word}
use Rattle.coding.specs.Within.{IsWithin}
use Rattle.dvd_capture.proofs.Bound.{within_agrees}
use Rattle.dvd_decoding.specs.Made.{IsMadeOf, IsReceived}
use Rattle.dvd_decoding.specs.Reading.{block_cause, block_sectors, IsReadAs}
use Rattle.dvd_read.proofs.BlockRead.{read-determined}
use Rattle.dvd_read.proofs.FrameFaults.{fault-none, prefixes, prefixes-more, mains-all}

-- b29 plays no part in the place that an ID names
place-of_dim : (w : ℕ) → w < 2 ^ 29 → bit_and (1 * 2 ^ 29 + w) 0x0DFFFFFF ≡ bit_and w 0x0DFFFFFF
place-of_dim w small =
    same_from_bits _ _
    (λ i. rw (bit_at_and, bit_at_and) (elim (cases_lt i 29) [
      | inl low ↦ ap (λ (b : ℕ). min b (bit_at 0x0DFFFFFF i)) (bit_at_cat_low 1 29 w i low)
      | inr high ↦
          let none : bit_at 0x0DFFFFFF i ≡ 0 = bit_at_above 0x0DFFFFFF 29 i (omega arith) high in
          rw none (omega arith)
    ]))

-- the number of an area has two bits
area_small : (area : Area) → area_number area < 4
area_small DataZone = omega arith
area_small LeadIn = omega arith
area_small LeadOut = omega arith
area_small Middle = omega arith

-- the ID that is wanted has nothing above bit 28
word_small : (entry : BlockPlan) (f : ℕ) → HasNumbers entry → f < 16 → wanted_word entry f < 2 ^ 29
word_small entry f numbers below = omega (arith, area_small entry.area, numbers.numbers, numbers.layers)

-- an ID of a disk of one or of two layers names the place that is wanted
pub same_place : (entry : BlockPlan) (dim : Bool) (f : ℕ) → HasNumbers entry → f < 16
    → bit_and (wanted_word entry f) 0x0DFFFFFF ≡ bit_and (id_word entry.area entry.layer dim (entry.first + f)) 0x0DFFFFFF
same_place entry false f numbers below = refl
same_place entry true f numbers below =
    let w = wanted_word entry f in
    let word : id_word entry.area entry.layer true (entry.first + f) ≡ 1 * 2 ^ 29 + w = omega arith in
    sym (place-of_dim w (word_small entry f numbers below)) ∙ ap (λ (n : ℕ). bit_and n 0x0DFFFFFF) (sym word)

-- the ID of a frame has 32 bits
full_word : (entry : BlockPlan) (dim : Bool) (f : ℕ) → HasNumbers entry → f < 16 → id_word entry.area entry.layer dim (entry.first + f) < 2 ^ 32
full_word entry false f numbers below = omega (arith, word_small entry f numbers below)
full_word entry true f numbers below = omega (arith, word_small entry f numbers below)

-- the cause of a frame depends on the place alone that is wanted
cause-by_place : (frame : List ℕ) (want other : ℕ) (rule : Rule) → bit_and want 0x0DFFFFFF ≡ bit_and other 0x0DFFFFFF → frame_cause frame want rule ≡ frame_cause frame other rule
unfolding frame_cause
cause-by_place frame want other rule same = rw same refl

-- a row begins with its part of the frame
row_prefix : (block : List (List ℕ)) (frame : List ℕ) (f q : ℕ) → IsProduct block → HoldsFrame f frame block → f < 16 → q < 12 → length frame ≡ 2064
    → take 172 (line block (12 * f + q)) ≡ take 172 (drop (172 * q) frame)
unfolding HoldsFrame
row_prefix block frame f q product holds f_below q_below size =
    let inside : 12 * f + q < length block = omega (arith, product.height) in
    let width : length (line block (12 * f + q)) ≡ 182 = (product.rows (12 * f + q) [] inside).size in
    let rest : length (drop (172 * q) frame) ≡ 2064 - 172 * q = length-drop (172 * q) frame ∙ ap (λ (n : ℕ). n - 172 * q) size in
    let prefix : length (take 172 (line block (12 * f + q))) ≡ 172 = length-take-le 172 (line block (12 * f + q)) (omega arith) in
    let part : length (take 172 (drop (172 * q) frame)) ≡ 172 = length-take-le 172 (drop (172 * q) frame) (omega arith) in
    same_number_lists (take 172 (line block (12 * f + q))) (take 172 (drop (172 * q) frame)) (prefix ∙ sym part)
    (λ p within.
    let below : p < 172 = omega arith in
    get_or-take 172 (line block (12 * f + q)) p 0 below ∙ holds q p q_below below
    ∙ sym (get_or-take 172 (drop (172 * q) frame) p 0 below ∙ get_or-drop (172 * q) frame p 0))

-- the fronts of the first rows of frame f are the first bytes of the frame that it was made of
prefixes-are : (block : List (List ℕ)) (frame : List ℕ) (f q : ℕ) → IsProduct block → HoldsFrame f frame block → f < 16 → q ≤ 12 → length frame ≡ 2064
    → prefixes block f q ≡ take (172 * q) frame
prefixes-are block frame f zero product holds f_below most size = refl
prefixes-are block frame f (suc q) product holds f_below most size =
    let more : 172 * suc q ≡ 172 * q + 172 = omega arith in
    let next : suc q ≡ q + 1 = omega arith in
    rw (more, take-add)
    (ap (prefixes block f) next ∙ prefixes-more block f q
    ∙ ap (λ l. l ++ take 172 (line block (12 * f + q))) (prefixes-are block frame f q product holds f_below (omega arith) size)
    ∙ ap (λ l. take (172 * q) frame ++ l) (row_prefix block frame f q product holds f_below (omega arith) size))

-- frame f of a block is the frame that it was made of
pub frame_of-made : (block : List (List ℕ)) (frame : List ℕ) (f : ℕ) → IsProduct block → HoldsFrame f frame block → f < 16 → length frame ≡ 2064 → frame_of block f ≡ frame
unfolding frame_of
frame_of-made block frame f product holds below size = prefixes-are block frame f 12 product holds below (omega arith) size ∙ take_all (172 * 12) frame (omega arith)

-- a data frame has 2,064 bytes
length-data_frame : (word : ℕ) (cpr main : List ℕ) (rule : Rule) → length cpr ≡ 6 → length main ≡ 2048 → length (data_frame word cpr rule main) ≡ 2064
unfolding edc_of
length-data_frame word cpr main rule cpr_size size =
    let head = frame_head word cpr in
    let check = edc_of (head ++ main) in
    omega (
      arith,
      length-append (head ++ masked word rule main) check,
      length-append head (masked word rule main),
      length-masked word rule main,
      length-append (word_bytes word ++ ied_of word) cpr,
      length-append (word_bytes word) (ied_of word),
      length-ied_of word,
    )

-- frame f of a block that was made has no cause, and its Main Data are those that it was made of
pub frame_fine : (entry : BlockPlan) (dim : Bool) (cpr : List ℕ) (main : ℕ → List ℕ) (frames block : List (List ℕ)) (f : ℕ) → HasNumbers entry
    → IsMadeOf entry dim cpr main frames → IsBlockOf frames block → f < 16
    → (fault_at block entry f ≡ None) × (main_in (frame_of block f) (rule_for entry.content f) ≡ main f)
frame_fine entry dim cpr main frames block f numbers made is below =
    let word = id_word entry.area entry.layer dim (entry.first + f) in
    let rule = rule_for entry.content f in
    let frame = data_frame word cpr rule (main f) in
    let size : length frame ≡ 2064 = length-data_frame word cpr (main f) rule made.cpr_size (made.sizes f below) in
    let holds : HoldsFrame f frame block = subst (λ (l : List ℕ). HoldsFrame f l block) (made.are f below) (is.holds f below) in
    let same : frame_of block f ≡ frame = frame_of-made block frame f is.product holds below size in
    let read = read_back word rule cpr (main f) (full_word entry dim f numbers below) made.cpr_size (made.sizes f below) in
    let right : frame_cause frame (wanted_word entry f) rule ≡ None = cause-by_place frame (wanted_word entry f) word rule (same_place entry dim f numbers below) ∙ read.1 in (
      ap (option_map (cause_in f)) (ap (λ (l : List ℕ). frame_cause l (wanted_word entry f) rule) same ∙ right),
      ap (λ (l : List ℕ). main_in l rule) same ∙ read.0,
    )

-- no frame has a cause, and their Main Data are those that the frames were made of
pub made-read : (entry : BlockPlan) (dim : Bool) (cpr : List ℕ) (main : ℕ → List ℕ) (frames block : List (List ℕ)) → HasNumbers entry
    → IsMadeOf entry dim cpr main frames → IsBlockOf frames block
    → (frames_cause block entry ≡ None) × (main_data block entry ≡ map main (range_with_len 0 16))
made-read entry dim cpr main frames block numbers made is = (
  fault-none block entry (λ k below. (frame_fine entry dim cpr main frames block k numbers made is below).0),
  sym (mains-all block entry (map main (range_with_len 0 16)) (length-map-range_with_len main 0 16)
      (λ k below. get_or-map-range_with_len main 0 16 k k [] below (omega arith) ∙ sym (frame_fine entry dim cpr main frames block k numbers made is below).1)),
)

-- Within the bound, a received block has no cause, and its sectors are those that were recorded.
pub within-read : (entry : BlockPlan) (dim : Bool) (cpr : List ℕ) (main : ℕ → List ℕ) (frames block received : List (List ℕ)) (marks : List (List Bool)) → HasNumbers entry
    → IsMadeOf entry dim cpr main frames → IsBlockOf frames block → IsReceived received marks → IsWithin block received marks
    → (block_cause received marks entry ≡ None) × (block_sectors received marks entry ≡ map main (range_with_len 0 16))
within-read entry dim cpr main frames block received marks numbers made is size within =
    let back = made-read entry dim cpr main frames block numbers made is in
    let read : IsReadAs received marks entry (map main (range_with_len 0 16)) = record {
      block = block;
      agrees = within_agrees block received marks is.product size.widths size.marks_widths within;
      right = back.0;
      main = sym back.1;
    } in
    let determined = read-determined received marks entry (map main (range_with_len 0 16)) size.height size.marks_height read in
    (determined.0, sym determined.1)
