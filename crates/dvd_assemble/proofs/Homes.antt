-- The home of a frame by its sector number.
use Rattle.std.proofs.Common.{◌≡◌, ◌⊎◌, inl, inr, ◌∙◌, sym, ap, subst, refl, ℕ, zero, suc, ◌+◌, ◌-◌, ◌*◌, ◌/◌, ◌%◌, ◌^◌, ◌<◌, ◌≤◌, ◌==◌, nat_lt, bit_and, true, false, Bool, if◌then◌else◌, arith}
use Rattle.std.proofs.Common.{List, [], ◌∷◌, ◌++◌, length, get_or, Option, None, Some, slice_get, position, length-append, append-nil}
use Rattle.std.specs.Int.{bit_at}
use Rattle.std.specs.Option.{option_map}
use Rattle.std.specs.List.{flat_map, filter}
use Rattle.std.specs.Prelude.{IsTrue, ◌↔◌}
use Rattle.std.proofs.lemmas.Bool.{cases_lt, eqb-true, false≢true}
use Rattle.std.proofs.lemmas.Bool.Decides.{eqb_tells, nat_tests}
use Rattle.std.specs.List.{position_or_len}
use Rattle.std.proofs.lemmas.List.Sums.{position_or_len_is}
use Rattle.std.proofs.lemmas.Nat.{and_mod, and_mask}
use Rattle.std.proofs.lemmas.Nat.Bits.{bit_at_and, bit_at-lt}
use Rattle.std.proofs.lemmas.List.{get_or_append_left, get_or-append-add}
use Rattle.std.proofs.lemmas.List.FromFn.{length-map-range_with_len, get_or-map-range_with_len}
use Rattle.std.proofs.lemmas.List.Quantifiers.{position-Some}
use Rattle.std.proofs.lemmas.Option.{get_or_from_slice_get, slice_get_within}
use Rattle.dvd_frame.specs.Id.{IsSamePlace, id_word, is_same_place}
use Rattle.dvd_frame.specs.declared.id.Area.{Area}
use Rattle.dvd_frame.specs.declared.id.Area.TheVariants.{DataZone}
use Rattle.dvd_layout.specs.Lengths.{blocks_of, has_two_layers}
use Rattle.dvd_layout.specs.Plan.{entries_of, entry_of, first_data, is_data, plan_of, second_data, second_first, zones_by}
use Rattle.dvd_layout.specs.Place.{HasNumbers}
use Rattle.dvd_layout.specs.declared.entry.BlockPlan.{BlockPlan}
use Rattle.dvd_layout.specs.declared.entry.Content.TheVariants.{Zero}
use Rattle.dvd_layout.specs.declared.layout.Layout.{Layout}
use Rattle.dvd_layout.specs.declared.layout.Shape.{Shape}
use Rattle.dvd_layout.specs.declared.layout.Shape.TheVariants.{Single, Parallel, Opposite}
use Rattle.dvd_layout.specs.declared.layout.Zones.TheVariants.{DataOnly}
use Rattle.dvd_layout.proofs.Blocks.{length-entries_of}
use Rattle.dvd_layout.proofs.Ranges.{plan_of-numbers}
use Rattle.dvd_assemble.specs.Home.{block_and_frame, block_words, home_in, id_words}

-- the Data Zone of layer 1 has no blocks where there is no such layer
no_entries : (layout : Layout) → layout.sectors1 ≡ 0 → entries_of (second_data layout) ≡ []
no_entries layout none = rw none refl

-- the data blocks of a disk of each shape are those of its first Data Zone, and after them those of its second
plan_by : (layout : Layout) (shape : Shape) → layout.shape ≡ shape
    → flat_map entries_of (filter (λ zone. is_data zone.area) (zones_by layout shape)) ≡ entries_of (first_data layout) ++ entries_of (second_data layout)
plan_by layout Single is = ap (λ l. entries_of (first_data layout) ++ l) (sym (no_entries layout (layout.one_layer (ap has_two_layers is))))
plan_by layout Parallel is = ap (λ l. entries_of (first_data layout) ++ l) (append-nil (entries_of (second_data layout)))
plan_by layout Opposite is = ap (λ l. entries_of (first_data layout) ++ l) (append-nil (entries_of (second_data layout)))

-- so are those of the plan of a layout
data_plan : (layout : Layout) → plan_of layout DataOnly ≡ entries_of (first_data layout) ++ entries_of (second_data layout)
unfolding plan_of
data_plan layout = plan_by layout layout.shape refl

-- there are as many as the sectors of both layers fill
pub length-plan : (layout : Layout) → length (plan_of layout DataOnly) ≡ blocks_of layout.sectors0 + blocks_of layout.sectors1
length-plan layout =
    ap length (data_plan layout) ∙ length-append (entries_of (first_data layout)) (entries_of (second_data layout))
    ∙ omega (arith, length-entries_of (first_data layout), length-entries_of (second_data layout))

-- block k of the plan is in one of the zones
abbrev pub IsEntryAt : Layout → ℕ → BlockPlan → Type 0
IsEntryAt layout k entry =
    ((entry.layer ≡ 0) × (k < blocks_of layout.sectors0) × (entry.first ≡ 0x30000 + 16 * k))
    ⊎ ((entry.layer ≡ 1) × (blocks_of layout.sectors0 ≤ k) × (entry.first ≡ second_first layout + 16 * (k - blocks_of layout.sectors0)))

-- each block of the plan is in the Data Zone of its layer, at the sector number that its place gives
pub is_entry_at : (layout : Layout) (k : ℕ) (d : BlockPlan) → k < length (plan_of layout DataOnly) → IsEntryAt layout k (get_or (plan_of layout DataOnly) k d)
is_entry_at layout k d within = by_side (cases_lt k (blocks_of layout.sectors0))
  where
    prefix : List BlockPlan
    prefix = entries_of (first_data layout)

    back : List BlockPlan
    back = entries_of (second_data layout)

    prefix_size : length prefix ≡ blocks_of layout.sectors0
    prefix_size = length-entries_of (first_data layout)

    here : get_or (plan_of layout DataOnly) k d ≡ get_or (prefix ++ back) k d
    here = ap (λ l. get_or l k d) (data_plan layout)

    by_side : (k < blocks_of layout.sectors0) ⊎ (blocks_of layout.sectors0 ≤ k) → IsEntryAt layout k (get_or (plan_of layout DataOnly) k d)
    by_side (inl less) =
        let is : get_or (prefix ++ back) k d ≡ entry_of (first_data layout) k =
        get_or_append_left prefix back d k (omega (arith, prefix_size, less))
        ∙ get_or-map-range_with_len (entry_of (first_data layout)) 0 (blocks_of layout.sectors0) k k d less (omega arith) in
        subst (IsEntryAt layout k) (sym (here ∙ is)) (inl (refl, less, refl))
    by_side (inr more) =
        let b : ℕ = k - blocks_of layout.sectors0 in
        let whole = length-plan layout in
        let offset : length prefix + b ≡ k = omega (arith, prefix_size, more) in
        let is : get_or (prefix ++ back) k d ≡ entry_of (second_data layout) b =
        ap (λ n. get_or (prefix ++ back) n d) (sym offset) ∙ get_or-append-add prefix back b d
        ∙ get_or-map-range_with_len (entry_of (second_data layout)) 0 (blocks_of layout.sectors1) b b d (omega (arith, whole, within, more)) (omega arith) in
        subst (IsEntryAt layout k) (sym (here ∙ is)) (inr (refl, more, refl))

-- pieces of sixteen elements
module _ {X A : Type 0} (f : X → List A) (sixteen : (x : X) → length (f x) ≡ 16) where
  -- they are sixteen times as many elements as pieces
  pub length-pieces : (xs : List X) → length (flat_map f xs) ≡ 16 * length xs
  length-pieces [] = refl
  length-pieces (x ∷ xs) = length-append (f x) (flat_map f xs) ∙ omega (arith, sixteen x, length-pieces xs)

  -- element 16 k + n of all is element n of piece k
  pub piece-at : (xs : List X) (k n : ℕ) (e : X) (d : A) → k < length xs → n < 16 → get_or (flat_map f xs) (16 * k + n) d ≡ get_or (f (get_or xs k e)) n d
  piece-at [] k n e d within below = absurd (omega (arith, within))
  piece-at (x ∷ xs) zero n e d within below =
      let place : 16 * zero + n ≡ n = omega arith in
      rw place (get_or_append_left (f x) (flat_map f xs) d n (omega (arith, sixteen x, below)))
  piece-at (x ∷ xs) (suc k) n e d within below =
      let place : 16 * suc k + n ≡ length (f x) + (16 * k + n) = omega (arith, sixteen x) in
      ap (λ m. get_or (f x ++ flat_map f xs) m d) place ∙ get_or-append-add (f x) (flat_map f xs) (16 * k + n) d
      ∙ piece-at xs k n e d (omega (arith, within)) below

-- the ID word of frame f of a block
abbrev pub word_of : Layout → BlockPlan → ℕ → ℕ
word_of layout entry f = id_word entry.area entry.layer (has_two_layers layout.shape) (entry.first + f)

-- a block has sixteen ID words
sixteen_words : (layout : Layout) (entry : BlockPlan) → length (block_words layout entry) ≡ 16
sixteen_words layout entry = length-map-range_with_len (word_of layout entry) 0 16

-- a plan has sixteen for each block
pub length-words : (layout : Layout) → length (id_words layout) ≡ 16 * length (plan_of layout DataOnly)
unfolding id_words
length-words layout = length-pieces (block_words layout) (sixteen_words layout) (plan_of layout DataOnly)

-- word 16k + f is that of frame f of block k
pub word-at : (layout : Layout) (k f : ℕ) (e : BlockPlan) → k < length (plan_of layout DataOnly) → f < 16
    → get_or (id_words layout) (16 * k + f) 0 ≡ word_of layout (get_or (plan_of layout DataOnly) k e) f
unfolding id_words
word-at layout k f e within below =
    piece-at (block_words layout) (sixteen_words layout) (plan_of layout DataOnly) k f e 0 within below
    ∙ get_or-map-range_with_len (word_of layout (get_or (plan_of layout DataOnly) k e)) 0 16 f f 0 below (omega arith)

-- IDs of one place have one sector number
same_number : (a b : ℕ) → IsSamePlace a b → a % 2 ^ 24 ≡ b % 2 ^ 24
same_number a b same =
    sym (masked a) ∙ ap (λ n. n % 2 ^ 24) same ∙ masked b
  where
    masked : (n : ℕ) → bit_and n 0x0DFFFFFF % 2 ^ 24 ≡ n % 2 ^ 24
    masked n = and_mod n 0x0DFFFFFF 24 ∙ and_mask (n % 2 ^ 24) 24 ∙ omega arith

-- and one layer
same_layer : (a b : ℕ) → IsSamePlace a b → a / 2 ^ 24 % 2 ≡ b / 2 ^ 24 % 2
same_layer a b same = sym (masked a) ∙ ap (λ n. bit_at n 24) same ∙ masked b
  where
    masked : (n : ℕ) → bit_at (bit_and n 0x0DFFFFFF) 24 ≡ bit_at n 24
    masked n = bit_at_and n 0x0DFFFFFF 24 ∙ omega (arith, bit_at-lt n 24)

-- an ID word has the sector number that it was made for
word_number : (area : Area) (layer number : ℕ) (dim : Bool) → layer < 2 → number < 2 ^ 24 → id_word area layer dim number % 2 ^ 24 ≡ number
word_number area layer number true two low = omega arith
word_number area layer number false two low = omega arith

-- and the layer
word_layer : (area : Area) (layer number : ℕ) (dim : Bool) → layer < 2 → number < 2 ^ 24 → id_word area layer dim number / 2 ^ 24 % 2 ≡ layer
word_layer area layer number true two low = omega arith
word_layer area layer number false two low = omega arith

-- a block of zeros, for a place after those of the plan
pub some_entry : BlockPlan
some_entry = record { first = 0; area = DataZone; layer = 0; content = Zero }

-- the numbers and the layer of each block of the plan fit in an ID
pub has_numbers : (layout : Layout) (k : ℕ) (entry : BlockPlan) → slice_get (plan_of layout DataOnly) k ≡ Some entry → HasNumbers entry
has_numbers layout k entry is_there =
    subst HasNumbers (get_or_from_slice_get (plan_of layout DataOnly) k entry entry is_there)
    (plan_of-numbers layout DataOnly k entry (slice_get_within (plan_of layout DataOnly) k entry is_there))

-- the frame of number n has the place of this word
abbrev pub IsAt : Layout → ℕ → ℕ → Type 0
IsAt layout word n = (n < length (id_words layout)) × (is_same_place word (get_or (id_words layout) n 0) ≡ true)

-- the first block that may have the place, by the layer
abbrev pub first_block : Layout → ℕ → ℕ
first_block layout word = if word / 2 ^ 24 % 2 == 0 then 0 else blocks_of layout.sectors0

-- what its place says of its number
abbrev pub Sides : Layout → ℕ → ℕ → Type 0
Sides layout word n =
    ((word / 2 ^ 24 % 2 ≡ 0) × (word % 2 ^ 24 ≡ 0x30000 + n))
    ⊎ ((word / 2 ^ 24 % 2 ≡ 1) × (16 * blocks_of layout.sectors0 ≤ n) × (word % 2 ^ 24 ≡ second_first layout + (n - 16 * blocks_of layout.sectors0)))

-- a frame with the place of a word is in the Data Zone of the word's layer, as far after its first as the word says
pub sides : (layout : Layout) (word n : ℕ) → IsAt layout word n → Sides layout word n
sides layout word n at = by_zone (is_entry_at layout k some_entry within)
  where
    k : ℕ
    k = n / 16

    f : ℕ
    f = n % 16

    within : k < length (plan_of layout DataOnly)
    within = omega (arith, at.0, length-words layout)

    entry : BlockPlan
    entry = get_or (plan_of layout DataOnly) k some_entry

    numbers : HasNumbers entry
    numbers = plan_of-numbers layout DataOnly k some_entry within

    there : get_or (id_words layout) n 0 ≡ word_of layout entry f
    there =
        let place : n ≡ 16 * k + f = omega arith in
        ap (λ m. get_or (id_words layout) m 0) place ∙ word-at layout k f some_entry within (omega arith)

    same : IsSamePlace word (word_of layout entry f)
    same = eqb-true (bit_and word 0x0DFFFFFF) (bit_and (word_of layout entry f) 0x0DFFFFFF) (ap (is_same_place word) (sym there) ∙ at.1)

    number : word % 2 ^ 24 ≡ entry.first + f
    number =
        same_number word (word_of layout entry f) same
        ∙ word_number entry.area entry.layer (entry.first + f) (has_two_layers layout.shape) numbers.layers (omega (arith, numbers.numbers))

    layer : word / 2 ^ 24 % 2 ≡ entry.layer
    layer =
        same_layer word (word_of layout entry f) same
        ∙ word_layer entry.area entry.layer (entry.first + f) (has_two_layers layout.shape) numbers.layers (omega (arith, numbers.numbers))

    by_zone : IsEntryAt layout k entry → Sides layout word n
    by_zone (inl first) = inl (layer ∙ first.0, omega (arith, number, first.2))
    by_zone (inr second) = inr (layer ∙ second.0, omega (arith, second.1), omega (arith, number, second.1, second.2))

-- it isn't before the first block that may have it
pub after_first : (layout : Layout) (word n : ℕ) → IsAt layout word n → 16 * first_block layout word ≤ n
after_first layout word n at = by_side (sides layout word n at)
  where
    by_side : Sides layout word n → 16 * first_block layout word ≤ n
    by_side (inl first) = rw first.0 (omega arith)
    by_side (inr second) = rw second.0 second.1

-- and its sector number says how far after that
pub number_after : (layout : Layout) (word n : ℕ) (entry : BlockPlan) → slice_get (plan_of layout DataOnly) (first_block layout word) ≡ Some entry
    → IsAt layout word n → word % 2 ^ 24 ≡ entry.first + (n - 16 * first_block layout word)
number_after layout word n entry is_there at = by_side (sides layout word n at)
  where
    k : ℕ
    k = first_block layout word

    zone : IsEntryAt layout k entry
    zone =
        subst (IsEntryAt layout k) (get_or_from_slice_get (plan_of layout DataOnly) k entry entry is_there)
        (is_entry_at layout k entry (slice_get_within (plan_of layout DataOnly) k entry is_there))

    in_first : k ≡ 0 → IsEntryAt layout k entry → entry.first ≡ 0x30000
    in_first none (inl first) = omega (arith, first.2, none)
    in_first none (inr second) = absurd (omega (arith, second.1, none, layout.first_layer))

    in_second : k ≡ blocks_of layout.sectors0 → IsEntryAt layout k entry → entry.first ≡ second_first layout
    in_second is (inl first) = absurd (omega (arith, first.1, is))
    in_second is (inr second) = omega (arith, second.2, is)

    by_side : Sides layout word n → word % 2 ^ 24 ≡ entry.first + (n - 16 * k)
    by_side (inl first) =
        let none : k ≡ 0 = rw first.0 refl in
        let begins = in_first none zone in
        omega (arith, first.1, none, begins)
    by_side (inr second) =
        let is : k ≡ blocks_of layout.sectors0 = rw second.0 refl in
        let begins = in_second is zone in
        omega (arith, second.1, second.2, is, begins)

-- where no frame has the place of a word, the word has no home
pub home_none : (layout : Layout) (word : ℕ) → ((n : ℕ) → IsAt layout word n → ⊥) → home_in layout word ≡ None
unfolding home_in
home_none layout word none = by_answer (position (is_same_place word) (id_words layout)) refl
  where
    by_answer : (answer : Option ℕ) → position (is_same_place word) (id_words layout) ≡ answer → answer ≡ None
    by_answer None is = refl
    by_answer (Some n) is =
        let found = position-Some (is_same_place word) (id_words layout) n 0 is in
        absurd (none n (found.0, found.1))

-- where one element alone passes a test, its place is the first that passes
first_place : {X : Type 0} (p : X → Bool) (xs : List X) (n : ℕ) (d : X) → n < length xs → p (get_or xs n d) ≡ true
    → ((m : ℕ) → m < length xs → p (get_or xs m d) ≡ true → m ≡ n) → position p xs ≡ Some n
first_place p xs n d within passes only =
    let first : position_or_len p xs ≡ n =
    position_or_len_is p xs n d (omega (arith, within)) (λ k less. fails k less (p (get_or xs k d)) refl) (λ _. passes) in
    let test : nat_lt n (length xs) ≡ true = grind (arith, nat_tests) in
    ap (λ m. if nat_lt m (length xs) then Some m else None) first ∙ ap (λ t. if t then Some n else None) test
  where
    fails : (k : ℕ) → k < n → (answer : Bool) → p (get_or xs k d) ≡ answer → p (get_or xs k d) ≡ false
    fails k less false is = is
    fails k less true is = let same = only k (omega (arith, less, within)) is in absurd (omega (arith, less, same))

-- where one frame alone has the place of a word, it is the word's home
pub home_some : (layout : Layout) (word n : ℕ) → IsAt layout word n → ((m : ℕ) → IsAt layout word m → m ≡ n) → home_in layout word ≡ Some n
unfolding home_in
home_some layout word n at only = first_place (is_same_place word) (id_words layout) n 0 at.0 at.1 (λ m within passes. only m (within, passes))

-- a test of whether two IDs have one place answers as `is_same_place` does
pub tells_place : (answer : Bool) (a b : ℕ) → IsTrue answer ↔ IsSamePlace a b → answer ≡ is_same_place a b
tells_place answer a b decides = by_test answer (eqb_tells (bit_and a 0x0DFFFFFF) (bit_and b 0x0DFFFFFF)) decides
  where
    by_test : (said : Bool) → ((((bit_and a 0x0DFFFFFF == bit_and b 0x0DFFFFFF) ≡ true) × IsSamePlace a b) ⊎ (((bit_and a 0x0DFFFFFF == bit_and b 0x0DFFFFFF) ≡ false) × (IsSamePlace a b → ⊥)))
        → IsTrue said ↔ IsSamePlace a b → said ≡ is_same_place a b
    by_test true (inl is) iff = sym is.0
    by_test false (inl is) iff = absurd (false≢true (iff.1 is.1))
    by_test true (inr is) iff = absurd (is.1 (iff.0 refl))
    by_test false (inr is) iff = sym is.0

-- The code's steps: the block `before` from which on the place is looked for, that block's entry, and the sectors
-- after its first.
pub before_is : (layout : Layout) (word layer before : ℕ) → before ≡ (if layer == 0 then 0 else blocks_of layout.sectors0)
    → layer ≡ word / 2 ^ 24 % 2 → before ≡ first_block layout word
before_is layout word layer before is layer_is = is ∙ ap (λ (l : ℕ). if l == 0 then 0 else blocks_of layout.sectors0) layer_is

-- a word has no home where the plan ends before the first block that may have it
pub none_after : (layout : Layout) (word before : ℕ) → before ≡ first_block layout word → length (plan_of layout DataOnly) ≤ before
    → home_in layout word ≡ None
none_after layout word before is least =
    home_none layout word (λ n at. omega (arith, after_first layout word n at, is, at.0, length-words layout, least))

-- the block that the search begins with is the first that may have the place
entry_is_there : (layout : Layout) (word before : ℕ) (entry : BlockPlan) → before ≡ first_block layout word
    → slice_get (plan_of layout DataOnly) before ≡ Some entry → slice_get (plan_of layout DataOnly) (first_block layout word) ≡ Some entry
entry_is_there layout word before entry is is_there = ap (slice_get (plan_of layout DataOnly)) (sym is) ∙ is_there

-- a word has no home where its sector number is below that of the first block that may have it
pub none_below : (layout : Layout) (word before : ℕ) (entry : BlockPlan) → before ≡ first_block layout word
    → slice_get (plan_of layout DataOnly) before ≡ Some entry → (entry.first ≤ word % 2 ^ 24 → ⊥) → home_in layout word ≡ None
none_below layout word before entry is is_there below =
    home_none layout word (λ n at.
    let number = number_after layout word n entry (entry_is_there layout word before entry is is_there) at in
    below (omega (arith, number)))

-- any frame that has the place is this one
pub only_there : (layout : Layout) (word before offset : ℕ) (entry : BlockPlan) → before ≡ first_block layout word
    → slice_get (plan_of layout DataOnly) before ≡ Some entry → entry.first ≤ word % 2 ^ 24 → offset ≡ word % 2 ^ 24 - entry.first
    → (n : ℕ) → IsAt layout word n → n ≡ 16 * (before + offset / 16) + offset % 16
only_there layout word before offset entry is is_there least behind_is n at =
    let number = number_after layout word n entry (entry_is_there layout word before entry is is_there) at in
    let far = after_first layout word n at in
    omega (arith, number, far, is, least, behind_is)

-- the one frame that may have the place is the home, where the test of its ID word passes
pub home_there : (layout : Layout) (word k f : ℕ) → k < length (plan_of layout DataOnly) → f < 16
    → is_same_place word (get_or (id_words layout) (16 * k + f) 0) ≡ true → ((n : ℕ) → IsAt layout word n → n ≡ 16 * k + f)
    → option_map block_and_frame (home_in layout word) ≡ Some (k, f)
home_there layout word k f within below passes only =
    let at : IsAt layout word (16 * k + f) = (omega (arith, length-words layout, within, below), passes) in
    let block : (16 * k + f) / 16 ≡ k = omega (arith, below) in
    let frame : (16 * k + f) % 16 ≡ f = omega (arith, below) in
    ap (option_map block_and_frame) (home_some layout word (16 * k + f) at only)
    ∙ ap (λ b. Some (b, (16 * k + f) % 16)) block ∙ ap (λ g. Some (k, g)) frame

-- and where the test fails or the plan ends before it, there is none
pub none_there : (layout : Layout) (word k f : ℕ) → ((n : ℕ) → IsAt layout word n → n ≡ 16 * k + f)
    → (k < length (plan_of layout DataOnly) → is_same_place word (get_or (id_words layout) (16 * k + f) 0) ≡ false) → f < 16
    → home_in layout word ≡ None
none_there layout word k f only fails below =
    home_none layout word (λ n at.
    let place = only n at in
    let inside : k < length (plan_of layout DataOnly) = omega (arith, place, at.0, length-words layout, below) in
    false≢true (sym (fails inside) ∙ sym (ap (λ m. is_same_place word (get_or (id_words layout) m 0)) place) ∙ at.1))
