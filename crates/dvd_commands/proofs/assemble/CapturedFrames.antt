-- Frames that were captured of what `master` makes.
use Rattle.std.proofs.Common.{◌≡◌, ◌∙◌, sym, ap, subst, ℕ, ◌+◌, ◌*◌, ◌<◌, List, [], ◌++◌, length, get_or, take, Some, slice_get, arith}
use Rattle.std.proofs.lemmas.List.{ext_get_or, get_or_append_left, get_or-take, length-append, length-take-le}
use Rattle.std.proofs.lemmas.Option.{get_or_from_slice_get, slice_get-get_or, slice_get_within}
use Rattle.coding.specs.Words.{IsCodeword}
use Rattle.coding.specs.Product.{HoldsFrame, IsBlockOf, line}
use Rattle.dvd_frame.specs.Edc.{edc_of}
use Rattle.dvd_frame.specs.Frame.{data_frame, frame_head}
use Rattle.dvd_frame.specs.Id.{ied_of, word_bytes}
use Rattle.dvd_frame.specs.Scrambling.{masked}
use Rattle.dvd_frame.specs.declared.scrambling.Rule.{Rule}
use Rattle.dvd_frame.proofs.IdChecks.{length-ied_of}
use Rattle.dvd_layout.specs.Plan.{plan_of}
use Rattle.dvd_layout.specs.declared.entry.BlockPlan.{BlockPlan}
use Rattle.dvd_layout.specs.declared.layout.Layout.{Layout}
use Rattle.dvd_layout.specs.declared.layout.Zones.TheVariants.{DataOnly}
use Rattle.dvd_assemble.specs.Mastered.{AreNamed, NamesItsFrames, word_for}
use Rattle.dvd_assemble.proofs.Homes.{some_entry, word-at, word_of}
use Rattle.dvd_assemble.proofs.Mastered.{agree, come_home}
use Rattle.dvd_commands.specs.Master.{filled_block, frame_for, frames_of}
use Rattle.dvd_commands.specs.Laws.{CapturedFramesAreAssembled}
use Rattle.dvd_commands.proofs.BlockFrames.{line-frames_of}

-- the first six bytes of a data frame, one by one
prefix_byte : (word : ℕ) (cpr : List ℕ) (rule : Rule) (main : List ℕ) (p : ℕ) → p < 6
    → get_or (data_frame word cpr rule main) p 0 ≡ get_or (word_bytes word ++ ied_of word) p 0
prefix_byte word cpr rule main p few =
    let six : List ℕ = word_bytes word ++ ied_of word in
    let head : List ℕ = frame_head word cpr in
    let size : length six ≡ 6 = length-append (word_bytes word) (ied_of word) ∙ ap (λ n. 4 + n) (length-ied_of word) in
    let more : length head ≡ 6 + length cpr = length-append six cpr ∙ ap (λ n. n + length cpr) size in
    let most : length (head ++ masked word rule main) ≡ length head + length (masked word rule main) = length-append head (masked word rule main) in
    get_or_append_left (head ++ masked word rule main) (edc_of (head ++ main)) 0 p (omega (arith, few, more, most))
    ∙ get_or_append_left head (masked word rule main) 0 p (omega (arith, few, more))
    ∙ get_or_append_left six cpr 0 p (omega (arith, few, size))

-- a row that holds the front of a frame begins with its ID and IED
begins_so : (word : ℕ) (cpr : List ℕ) (rule : Rule) (main row : List ℕ) → length row ≡ 182
    → ((p : ℕ) → p < 172 → get_or row p 0 ≡ get_or (data_frame word cpr rule main) p 0) → take 6 row ≡ word_bytes word ++ ied_of word
begins_so word cpr rule main row size holds =
    let six : length (word_bytes word ++ ied_of word) ≡ 6 = length-append (word_bytes word) (ied_of word) ∙ ap (λ n. 4 + n) (length-ied_of word) in
    let prefix_size : length (take 6 row) ≡ 6 = length-take-le 6 row (omega (arith, size)) in
    ext_get_or 0 (take 6 row) (word_bytes word ++ ied_of word) (prefix_size ∙ sym six)
    (λ p within. let few : p < 6 = omega (arith, within, prefix_size) in
    get_or-take 6 row p 0 few ∙ holds p (omega (arith, few)) ∙ prefix_byte word cpr rule main p few)

-- the bytes of its first row
first_row : (f : ℕ) (block : List (List ℕ)) (frame : List ℕ) → HoldsFrame f frame block → (p : ℕ) → p < 172 → get_or (line block (12 * f)) p 0 ≡ get_or frame p 0
unfolding HoldsFrame
first_row f block frame holds p few =
    let row : 12 * f + 0 ≡ 12 * f = omega arith in
    let place : 172 * 0 + p ≡ p = omega arith in
    ap (λ i. get_or (line block i) p 0) (sym row) ∙ holds 0 p (omega arith) few ∙ ap (λ i. get_or frame i 0) place

-- a block that was mastered names its frames
names : (layout : Layout) (cpr sectors : List ℕ) (k : ℕ) (entry : BlockPlan) (block : List (List ℕ)) → slice_get (plan_of layout DataOnly) k ≡ Some entry
    → IsBlockOf (frames_of layout entry cpr sectors) block → NamesItsFrames layout k block
names layout cpr sectors k entry block is_there is = record { product = is.product; named = named }
  where
    within : k < length (plan_of layout DataOnly)
    within = slice_get_within (plan_of layout DataOnly) k entry is_there

    word_is : (f : ℕ) → f < 16 → word_for layout k f ≡ word_of layout entry f
    word_is f below =
        word-at layout k f some_entry within below
        ∙ ap (λ (e : BlockPlan). word_of layout e f) (get_or_from_slice_get (plan_of layout DataOnly) k entry some_entry is_there)

    holds : (f : ℕ) → f < 16 → HoldsFrame f (frame_for layout entry cpr sectors f) block
    holds f below = subst (λ (frame : List ℕ). HoldsFrame f frame block) (line-frames_of layout entry cpr sectors f below) (is.holds f below)

    named : (f : ℕ) → f < 16 → take 6 (line block (12 * f)) ≡ word_bytes (word_for layout k f) ++ ied_of (word_for layout k f)
    named f below =
        let codeword : IsCodeword 182 10 (line block (12 * f)) = is.product.rows (12 * f) [] (omega (arith, is.product.height, below)) in
        subst (λ w. take 6 (line block (12 * f)) ≡ word_bytes w ++ ied_of w) (sym (word_is f below))
        (begins_so (word_of layout entry f) _ _ _ (line block (12 * f)) codeword.size (first_row f block _ (holds f below)))

-- the law: frames captured of mastered blocks come home, and each place that is seen has its byte
pub assembled_so : CapturedFramesAreAssembled
assembled_so layout cpr parts blocks mastered = (
  λ k f frame within below captured. come_home layout k f (blocks k) frame within below (named k within) captured,
  λ frames captured k within. agree layout blocks frames named captured k within,
)
  where
    named : AreNamed layout blocks
    named k within =
        let entry = get_or (plan_of layout DataOnly) k some_entry in
        let is_there = slice_get-get_or (plan_of layout DataOnly) k some_entry within in
        names layout cpr (filled_block (parts k)) k entry (blocks k) is_there (mastered k entry is_there)
