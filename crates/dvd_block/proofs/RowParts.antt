-- Rows of a block that were lent, whole or in part, and written.
use Rattle.std.proofs.Common.{◌≡◌, ℕ, ◌+◌, ◌-◌, ◌*◌, ◌<◌, ◌≤◌, ◌⊎◌, inl, inr, List, [], ◌++◌, length, get_or, take, drop, sym, ◌∙◌, ap, arith}
use Rattle.std.proofs.lemmas.List.{take_at, get_or-take, get_or-drop, get_or_append_left, get_or-append_right, length-append, length-drop, length-take-le}
use Rattle.std.proofs.lemmas.Bool.{cases_lt}
use Rattle.coding.specs.Product.{line, place, HoldsFrame}

-- a list that was lent whole and came back as long as it was
pub lent_whole : {X : Type 0} (n : ℕ) (was now : List X) → length now ≡ n → take n (now ++ drop (length now) was) ≡ now
lent_whole n was now size = take_at now (drop (length now) was) n size

module _ {X : Type 0} (a k : ℕ) (was part : List X) where
  -- the list with a part of it written
  abbrev pub part_written : List X
  part_written = take a was ++ (part ++ drop k (drop a was))

  -- a list with a part written is as long as before
  pub length-part_written : a + k ≤ length was → length part ≡ k → length part_written ≡ length was
  length-part_written inside size =
      omega (
        arith,
        length-append (take a was) (part ++ drop k (drop a was)),
        length-append part (drop k (drop a was)),
        length-drop k (drop a was),
        length-drop a was,
        length-take-le a was (omega arith),
      )

  -- inside the part the elements are those written
  pub get_or-part_written : (d : X) (q : ℕ) → a + k ≤ length was → length part ≡ k → q < k → get_or part_written (a + q) d ≡ get_or part q d
  get_or-part_written d q inside size below =
      let prefix : length (take a was) ≡ a = length-take-le a was (omega arith) in
      let place : a + q - a ≡ q = omega arith in
      get_or-append_right (take a was) (part ++ drop k (drop a was)) a (a + q) d prefix (omega arith)
      ∙ ap (λ (i : ℕ). get_or (part ++ drop k (drop a was)) i d) place
      ∙ get_or_append_left part (drop k (drop a was)) d q (omega arith)

  -- before the part and after it the elements are as they were
  pub get_or-part_kept : (d : X) (i : ℕ) → a + k ≤ length was → length part ≡ k → (i < a) ⊎ (a + k ≤ i) → get_or part_written i d ≡ get_or was i d
  get_or-part_kept d i inside size (inl before) =
      let prefix : length (take a was) ≡ a = length-take-le a was (omega arith) in
      get_or_append_left (take a was) (part ++ drop k (drop a was)) d i (omega arith) ∙ get_or-take a was i d before
  get_or-part_kept d i inside size (inr farther) =
      let prefix : length (take a was) ≡ a = length-take-le a was (omega arith) in
      let place : a + (k + (i - a - k)) ≡ i = omega arith in
      get_or-append_right (take a was) (part ++ drop k (drop a was)) a i d prefix (omega arith)
      ∙ get_or-append_right part (drop k (drop a was)) k (i - a) d size (omega arith)
      ∙ get_or-drop k (drop a was) (i - a - k) d
      ∙ get_or-drop a was (k + (i - a - k)) d
      ∙ ap (λ (j : ℕ). get_or was j d) place

-- Twelve rows with their fronts set to a frame.
pub record PrefixesSet (frame : List ℕ) (was now : List (List ℕ)) : Type 0 where
  pub size : length now ≡ 12
  pub each : (q : ℕ) → q < 12 → line now q ≡ take 172 (drop (172 * q) frame) ++ drop 172 (line was q)

-- each front of a row is 172 bytes of the frame
length-prefix : (frame : List ℕ) (q : ℕ) → length frame ≡ 2064 → q < 12 → length (take 172 (drop (172 * q) frame)) ≡ 172
length-prefix frame q size below = length-take-le 172 (drop (172 * q) frame) (omega (arith, length-drop (172 * q) frame))

-- the front of row q has the bytes of the frame from 172 q on
pub prefix_set : (frame : List ℕ) (was now : List (List ℕ)) (q p : ℕ) → length frame ≡ 2064 → PrefixesSet frame was now → q < 12 → p < 172
    → place now q p ≡ get_or frame (172 * q + p) 0
prefix_set frame was now q p size prefixes below within =
    let prefix : List ℕ = take 172 (drop (172 * q) frame) in
    let prefix_size : length prefix ≡ 172 = length-prefix frame q size below in
    ap (λ (row : List ℕ). get_or row p 0) (prefixes.each q below)
    ∙ get_or_append_left prefix (drop 172 (line was q)) 0 p (omega arith)
    ∙ get_or-take 172 (drop (172 * q) frame) p 0 within
    ∙ get_or-drop (172 * q) frame p 0

-- after their fronts the rows are as they were
pub after_prefix : (frame : List ℕ) (was now : List (List ℕ)) (q j : ℕ) → length frame ≡ 2064 → PrefixesSet frame was now → q < 12 → 172 ≤ j
    → place now q j ≡ place was q j
after_prefix frame was now q j size prefixes below farther =
    let prefix : List ℕ = take 172 (drop (172 * q) frame) in
    let prefix_size : length prefix ≡ 172 = length-prefix frame q size below in
    let there : 172 + (j - 172) ≡ j = omega arith in
    ap (λ (row : List ℕ). get_or row j 0) (prefixes.each q below)
    ∙ get_or-append_right prefix (drop 172 (line was q)) 172 j 0 prefix_size farther
    ∙ get_or-drop 172 (line was q) (j - 172) 0
    ∙ ap (λ (i : ℕ). get_or (line was q) i 0) there

-- What the rows of a block are after a part of them was lent and written: `old` has the rows that a lend fills up with.
module _ (a k n : ℕ) (rows part old : List (List ℕ)) where
  -- the rows of the block once the part, written, is back in its place
  abbrev pub rows_back : List (List ℕ)
  rows_back = take n (part_written a k rows part ++ drop (length (part_written a k rows part)) old)

  -- rows that came back as many as they were are the old ones with the part written
  back_is : a + k ≤ length rows → length part ≡ k → length rows ≡ n → rows_back ≡ part_written a k rows part
  back_is inside size number = lent_whole n old (part_written a k rows part) (length-part_written a k rows part inside size ∙ number)

  -- row q of those written
  pub back_written : a + k ≤ length rows → length part ≡ k → length rows ≡ n → (q : ℕ) → q < k → line rows_back (a + q) ≡ line part q
  back_written inside size number q within =
      ap (λ (b : List (List ℕ)). line b (a + q)) (back_is inside size number) ∙ get_or-part_written a k rows part [] q inside size within

  -- a row before the part or after it is as it was
  pub back_kept : a + k ≤ length rows → length part ≡ k → length rows ≡ n → (i : ℕ) → (i < a) ⊎ (a + k ≤ i) → line rows_back i ≡ line rows i
  back_kept inside size number i elsewhere =
      ap (λ (b : List (List ℕ)). line b i) (back_is inside size number) ∙ get_or-part_kept a k rows part [] i inside size elsewhere

  -- the rows before the part
  pub back_prefix : a + k ≤ length rows → length part ≡ k → length rows ≡ n → take a rows_back ≡ take a rows
  back_prefix inside size number =
      ap (λ (b : List (List ℕ)). take a b) (back_is inside size number)
      ∙ take_at (take a rows) (part ++ drop k (drop a rows)) a (length-take-le a rows (omega arith))

-- twelve rows that had their fronts set to a frame
module _ (f k n : ℕ) (frame : List ℕ) (rows part old : List (List ℕ)) where
  -- the rows of the block once the fronts of the twelve of frame f are set
  abbrev frame_rows : List (List ℕ)
  frame_rows = rows_back (12 * f) k n rows part old

  -- the rows of the other frames are as they were
  pub other_rows_kept : f < 16 → k ≡ 12 → length rows ≡ 208 → n ≡ 208 → length part ≡ 12 → rows ≡ old
      → (i : ℕ) → (i < 12 * f) ⊎ (12 * f + 12 ≤ i) → line frame_rows i ≡ line old i
  other_rows_kept below twelve height number size same i elsewhere =
      back_kept (12 * f) k n rows part old (omega arith) (omega arith) (omega arith) i (apart elsewhere) ∙ ap (λ (b : List (List ℕ)). line b i) same
    where
      apart : (i < 12 * f) ⊎ (12 * f + 12 ≤ i) → (i < 12 * f) ⊎ (12 * f + k ≤ i)
      apart (inl before) = inl before
      apart (inr farther) = inr (omega arith)

  -- row q of frame f is row q of the twelve written
  row_written : f < 16 → k ≡ 12 → length rows ≡ 208 → n ≡ 208 → length part ≡ 12 → (q : ℕ) → q < 12 → line frame_rows (12 * f + q) ≡ line part q
  row_written below twelve height number size q within =
      back_written (12 * f) k n rows part old (omega arith) (omega arith) (omega arith) q (omega arith)

  -- the block holds frame f, in the fronts of its twelve rows
  pub frame_held : f < 16 → k ≡ 12 → length rows ≡ 208 → n ≡ 208 → length frame ≡ 2064 → PrefixesSet frame (take k (drop (12 * f) rows)) part → HoldsFrame f frame frame_rows
  unfolding HoldsFrame
  frame_held below twelve height number long prefixes = λ q p within inside.
      ap (λ (row : List ℕ). get_or row p 0) (row_written below twelve height number prefixes.size q within)
      ∙ prefix_set frame (take k (drop (12 * f) rows)) part q p long prefixes within inside

  -- after their fronts all rows, those of frame f too, are as they were
  pub inner_parity_kept : f < 16 → k ≡ 12 → length rows ≡ 208 → n ≡ 208 → length frame ≡ 2064 → PrefixesSet frame (take k (drop (12 * f) rows)) part → rows ≡ old
      → (i j : ℕ) → 172 ≤ j → place frame_rows i j ≡ place old i j
  inner_parity_kept below twelve height number long prefixes same i j farther =
      elim (cases_lt i (12 * f)) [
        | inl before ↦ ap (λ (row : List ℕ). get_or row j 0) (other_rows_kept below twelve height number prefixes.size same i (inl before))
        | inr from ↦ elim (cases_lt i (12 * f + 12)) [
          | inr past ↦ ap (λ (row : List ℕ). get_or row j 0) (other_rows_kept below twelve height number prefixes.size same i (inr past))
          | inl inside ↦ written (i - 12 * f) (omega arith) (omega arith)
        ]
      ]
    where
      written : (q : ℕ) → q < 12 → 12 * f + q ≡ i → place frame_rows i j ≡ place old i j
      written q within is =
          ap (λ (m : ℕ). place frame_rows m j) (sym is)
          ∙ ap (λ (row : List ℕ). get_or row j 0) (row_written below twelve height number prefixes.size q within)
          ∙ after_prefix frame (take k (drop (12 * f) rows)) part q j long prefixes within farther
          ∙ ap (λ (row : List ℕ). get_or row j 0) (get_or-take k (drop (12 * f) rows) q [] (omega arith) ∙ get_or-drop (12 * f) rows q [])
          ∙ ap (λ (m : ℕ). place rows m j) is
          ∙ ap (λ (b : List (List ℕ)). place b i j) same

-- a row of twelve that were lent for reading
pub lent_row : (a k : ℕ) (rows : List (List ℕ)) (q p : ℕ) → q < k → place (take k (drop a rows)) q p ≡ place rows (a + q) p
lent_row a k rows q p below = ap (λ (row : List ℕ). get_or row p 0) (get_or-take k (drop a rows) q [] below ∙ get_or-drop a rows q [])

-- one row more read into a frame
pub got_more : (q k : ℕ) (frame part : List ℕ) (rows : List (List ℕ)) → k ≡ 172 → length frame ≡ 2064 → q < 12 → length part ≡ 172
    → ((p : ℕ) → p < 172 → get_or part p 0 ≡ place rows q p)
    → ((r p : ℕ) → r < q → p < 172 → get_or frame (172 * r + p) 0 ≡ place rows r p)
    → (r p : ℕ) → r < q + 1 → p < 172 → get_or (part_written (172 * q) k frame part) (172 * r + p) 0 ≡ place rows r p
got_more q k frame part rows whole size below part_size read before r p within inside =
    elim (cases_lt r q) [
      | inl earlier ↦ get_or-part_kept (172 * q) k frame part 0 (172 * r + p) (omega arith) (omega arith) (inl (omega arith)) ∙ before r p earlier inside
      | inr last ↦
          let same : r ≡ q = omega arith in
          ap (λ (m : ℕ). get_or (part_written (172 * q) k frame part) (172 * m + p) 0) same
          ∙ get_or-part_written (172 * q) k frame part 0 p (omega arith) (omega arith) (omega arith)
          ∙ read p inside
          ∙ ap (λ (m : ℕ). place rows m p) (sym same)
    ]
