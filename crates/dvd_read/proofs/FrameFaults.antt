-- The frames of a block, one after the other.
use Rattle.std.proofs.Common.{◌≡◌, ◌∙◌, ℕ, zero, suc, ◌+◌, ◌*◌, ◌<◌, ◌≤◌, List, [], ◌∷◌, ◌++◌, length, take, get_or, slice_get, set, inl, inr, refl, sym, ap, arith, Some, None}
use Rattle.std.specs.List.{filter_map, flat_map, range_with_len}
use Rattle.std.specs.Option.{option_map}
use Rattle.std.specs.declared.option.Option.{Option}
use Rattle.std.proofs.lemmas.Bool.{cases_eq}
use Rattle.std.proofs.lemmas.List.{append-nil, get_or-set_same, get_or-set_other, map-id, take_all}
use Rattle.std.proofs.lemmas.List.Concat.{flat_map-append}
use Rattle.std.proofs.lemmas.List.FromFn.{fill_by_all, map-range_with_len_more}
use Rattle.coding.specs.Product.{line}
use Rattle.dvd_frame.specs.Frame.{frame_cause, main_in}
use Rattle.dvd_frame.specs.declared.reading.FrameCause.{FrameCause}
use Rattle.dvd_frame.specs.declared.scrambling.Rule.{Rule}
use Rattle.dvd_layout.specs.declared.entry.BlockPlan.{BlockPlan}
use Rattle.dvd_layout.specs.Place.{rule_for}
use Rattle.dvd_decoding.specs.declared.cause.Cause.{Cause}
use Rattle.dvd_decoding.specs.Frames.{cause_in, fault_at, frame_of, frames_cause, main_data, wanted_word}

-- places 0 to 171 of the first n rows of frame f
abbrev pub prefixes : List (List ℕ) → ℕ → ℕ → List ℕ
prefixes block f n = flat_map (λ q. take 172 (line block (12 * f + q))) (range_with_len 0 n)

-- what a function gives of n + 1 numbers
flat_map-next : {X : Type 0} (h : ℕ → List X) (n : ℕ) → flat_map h (range_with_len 0 (n + 1)) ≡ flat_map h (range_with_len 0 n) ++ h n
flat_map-next h n =
    let more : range_with_len 0 (n + 1) ≡ range_with_len 0 n ++ n ∷ [] =
    sym (map-id (range_with_len 0 (n + 1))) ∙ map-range_with_len_more (λ k. k) 0 n n (omega arith) ∙ ap (λ l. l ++ n ∷ []) (map-id (range_with_len 0 n)) in
    ap (flat_map h) more ∙ flat_map-append h (range_with_len 0 n) (n ∷ []) ∙ ap (λ l. flat_map h (range_with_len 0 n) ++ l) (append-nil (h n))

-- the front of one row more comes after the others
pub prefixes-more : (block : List (List ℕ)) (f q : ℕ) → prefixes block f (q + 1) ≡ prefixes block f q ++ take 172 (line block (12 * f + q))
prefixes-more block f q = flat_map-next (λ q. take 172 (line block (12 * f + q))) q

-- the front of one row more is written
pub prefixes-next : (block : List (List ℕ)) (f q : ℕ) (old new row : List ℕ) → take (172 * q + 172) new ≡ take (172 * q) old ++ take 172 row
    → take (172 * q) old ≡ prefixes block f q → row ≡ line block (12 * f + q) → take (172 * (q + 1)) new ≡ prefixes block f (q + 1)
prefixes-next block f q old new row put prefix is =
    let size : 172 * (q + 1) ≡ 172 * q + 172 = omega arith in
    rw (size, prefixes-more block f q) (put ∙ ap (λ (l : List ℕ). l ++ take 172 row) prefix ∙ ap (λ (r : List ℕ). prefixes block f q ++ take 172 r) is)

-- a list of 2,064 bytes that are the fronts of all twelve rows is the frame
pub prefixes-all : (block : List (List ℕ)) (f q : ℕ) (frame : List ℕ) → length frame ≡ 2064 → q ≡ 12 → take (172 * q) frame ≡ prefixes block f q → frame ≡ frame_of block f
unfolding frame_of
prefixes-all block f q frame size last prefix =
    sym (take_all 2064 frame (omega arith)) ∙ ap (λ (n : ℕ). take (172 * n) frame) (sym last) ∙ prefix ∙ ap (prefixes block f) last

-- one row more has 182 bytes
pub width-next : (block : List (List ℕ)) (f q : ℕ) (row : List ℕ) → row ≡ line block (12 * f + q) → length row ≡ 182
    → ((k : ℕ) → k < q → length (line block (12 * f + k)) ≡ 182) → (k : ℕ) → k < q + 1 → length (line block (12 * f + k)) ≡ 182
width-next block f q row is width before k below = elim (cases_eq k q) [
  | inl same ↦ ap (λ n. length (line block (12 * f + n))) same ∙ ap length (sym is) ∙ width
  | inr other ↦ before k (omega arith)
]

-- the fronts of the same rows are the same
prefixes-same : (a b : List (List ℕ)) (f n : ℕ) → n ≤ 12 → ((q : ℕ) → q < 12 → line a (12 * f + q) ≡ line b (12 * f + q)) → prefixes a f n ≡ prefixes b f n
prefixes-same a b f zero within same = refl
prefixes-same a b f (suc n) within same =
    let more : suc n ≡ n + 1 = omega arith in
    ap (prefixes a f) more ∙ prefixes-more a f n
    ∙ ap (λ (l : List ℕ). l ++ take 172 (line a (12 * f + n))) (prefixes-same a b f n (omega arith) same)
    ∙ ap (λ (row : List ℕ). prefixes b f n ++ take 172 row) (same n (omega arith))
    ∙ sym (ap (prefixes b f) more ∙ prefixes-more b f n)

-- frames of the same rows are the same
pub frames-same : (a b : List (List ℕ)) (f : ℕ) → ((q : ℕ) → q < 12 → line a (12 * f + q) ≡ line b (12 * f + q)) → frame_of a f ≡ frame_of b f
unfolding frame_of
frames-same a b f same = prefixes-same a b f 12 (omega arith) same

-- the cause of frame f by that of its bytes
pub fault_by : (block : List (List ℕ)) (entry : BlockPlan) (f : ℕ) (frame : List ℕ) (cause : Option FrameCause) → frame ≡ frame_of block f
    → frame_cause frame (wanted_word entry f) (rule_for entry.content f) ≡ cause → fault_at block entry f ≡ option_map (cause_in f) cause
fault_by block entry f frame cause is caused =
    ap (λ (l : List ℕ). option_map (cause_in f) (frame_cause l (wanted_word entry f) (rule_for entry.content f))) (sym is) ∙ ap (option_map (cause_in f)) caused

-- no frame before frame f has a cause
abbrev pub NoFaultBefore : List (List ℕ) → BlockPlan → ℕ → Type 0
NoFaultBefore block entry f = (k : ℕ) → k < f → fault_at block entry k ≡ None

-- the first value that a function gives of the numbers from a on
first_at : {X : Type 0} (h : ℕ → Option X) (a n k : ℕ) (x : X) → a ≤ k → k < a + n → ((i : ℕ) → i < k → h i ≡ None) → h k ≡ Some x
    → slice_get (filter_map h (range_with_len a n)) 0 ≡ Some x
first_at h a zero k x from below before here = absurd (omega arith)
first_at h a (suc n) k x from below before here = elim (cases_eq a k) [
  | inl same ↦
      let first : h a ≡ Some x = ap h same ∙ here in
      rw first refl
  | inr other ↦ rw (before a (omega arith)) (first_at h (a + 1) n k x (omega arith) (omega arith) before here)
]

-- where it gives none, none is first
first_none : {X : Type 0} (h : ℕ → Option X) (a n : ℕ) → ((i : ℕ) → i < a + n → h i ≡ None) → slice_get (filter_map h (range_with_len a n)) 0 ≡ None
first_none h a zero none = refl
first_none h a (suc n) none = rw (none a (omega arith)) (first_none h (a + 1) n (λ i below. none i (omega arith)))

-- where no frame before frame f has a cause, and frame f has none, no frame before the next has one
pub fault-passed : (block : List (List ℕ)) (entry : BlockPlan) (f : ℕ) → NoFaultBefore block entry f → fault_at block entry f ≡ None → NoFaultBefore block entry (f + 1)
fault-passed block entry f before right k below = elim (cases_eq k f) [
  | inl same ↦ ap (fault_at block entry) same ∙ right
  | inr other ↦ before k (omega arith)
]

-- the same by the bytes of frame f
pub fault-next : (block : List (List ℕ)) (entry : BlockPlan) (f : ℕ) (frame : List ℕ) → NoFaultBefore block entry f → frame ≡ frame_of block f
    → frame_cause frame (wanted_word entry f) (rule_for entry.content f) ≡ None → NoFaultBefore block entry (f + 1)
fault-next block entry f frame before is right = fault-passed block entry f before (fault_by block entry f frame None is right)

-- the cause of the first frame that has one is the cause of the sixteen
pub fault-first : (block : List (List ℕ)) (entry : BlockPlan) (f : ℕ) (cause : Cause) → f < 16 → NoFaultBefore block entry f → fault_at block entry f ≡ Some cause
    → frames_cause block entry ≡ Some cause
unfolding frames_cause
fault-first block entry f cause below before here = first_at (fault_at block entry) 0 16 f cause (omega arith) (omega arith) before here

-- the same by the bytes of that frame
pub fault-here : (block : List (List ℕ)) (entry : BlockPlan) (f : ℕ) (frame : List ℕ) (cause : FrameCause) → f < 16 → NoFaultBefore block entry f → frame ≡ frame_of block f
    → frame_cause frame (wanted_word entry f) (rule_for entry.content f) ≡ Some cause → frames_cause block entry ≡ Some (cause_in f cause)
fault-here block entry f frame cause below before is caused =
    fault-first block entry f (cause_in f cause) below before (fault_by block entry f frame (Some cause) is caused)

-- where no frame has a cause, the sixteen have none
pub fault-none : (block : List (List ℕ)) (entry : BlockPlan) → NoFaultBefore block entry 16 → frames_cause block entry ≡ None
unfolding frames_cause
fault-none block entry before = first_none (fault_at block entry) 0 16 (λ i below. before i (omega arith))

-- the sectors before frame f are its Main Data
abbrev pub AreMainsBefore : List (List ℕ) → BlockPlan → List (List ℕ) → ℕ → Type 0
AreMainsBefore block entry sectors f = (k : ℕ) → k < f → get_or sectors k [] ≡ main_in (frame_of block k) (rule_for entry.content k)

-- the Main Data of one frame more are written
pub mains-next : (block : List (List ℕ)) (entry : BlockPlan) (sectors : List (List ℕ)) (f : ℕ) (frame main : List ℕ) → f < length sectors
    → AreMainsBefore block entry sectors f → frame ≡ frame_of block f → main ≡ main_in frame (rule_for entry.content f)
    → AreMainsBefore block entry (set sectors f main) (f + 1)
mains-next block entry sectors f frame main within before is main_is k below = elim (cases_eq k f) [
  | inl same ↦
      ap (λ (n : ℕ). get_or (set sectors f main) n []) same ∙ get_or-set_same sectors f main [] within
      ∙ main_is ∙ ap (λ (l : List ℕ). main_in l (rule_for entry.content f)) is ∙ ap (λ (n : ℕ). main_in (frame_of block n) (rule_for entry.content n)) (sym same)
  | inr other ↦ get_or-set_other sectors f k main [] other ∙ before k (omega arith)
]

-- once all sixteen frames are done, the sectors are their Main Data
pub mains-all : (block : List (List ℕ)) (entry : BlockPlan) (sectors : List (List ℕ)) → length sectors ≡ 16 → AreMainsBefore block entry sectors 16
    → sectors ≡ main_data block entry
unfolding main_data
mains-all block entry sectors size mains = fill_by_all (λ f. main_in (frame_of block f) (rule_for entry.content f)) sectors 16 [] size mains

-- a frame has the same cause against an equal ID and by an equal rule
pub cause_as : (frame : List ℕ) (want word : ℕ) (rule wanted_rule : Rule) (cause : Option FrameCause) → want ≡ word → rule ≡ wanted_rule
    → frame_cause frame want rule ≡ cause → frame_cause frame word wanted_rule ≡ cause
cause_as frame want word rule wanted_rule cause same_word same_rule is =
    ap (λ (w : ℕ). frame_cause frame w wanted_rule) (sym same_word) ∙ ap (frame_cause frame want) (sym same_rule) ∙ is
