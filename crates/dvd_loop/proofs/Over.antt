-- What a run writes and reports over an input that is whole, unit by unit.
use Rattle.std.proofs.Common.{◌≡◌, inl, inr, ℕ, zero, suc, ◌+◌, ◌<◌, ◌≤◌, nat_eq, cond, List, [], ◌∷◌, ◌++◌, length, length-append, take, drop, refl, ap, sym, subst, ◌∙◌, add-one, append_assoc, arith}
use Rattle.std.specs.List.{flat_map, range_with_len}
use Rattle.std.proofs.Math.Seq.{drop-append_seam, take-append_seam}
use Rattle.std.proofs.lemmas.Bool.{cases_lt, eq-eqb, ne_eqb}
use Rattle.dvd_loop.specs.Laws.{IsFaultless}
use Rattle.dvd_loop.specs.Machine.{Performs, EndsAfterLast, Continues, IsOutcome, IsUnit, Outcome, Step, Units, bad_of, sized}
use Rattle.dvd_loop.specs.UnitCommand.{reported, written}
use Rattle.dvd_loop.specs.declared.ends.AfterLast.TheVariants.{EndOfInput}
use Rattle.dvd_loop.specs.declared.ends.LoopEnd.TheVariants.{Done}
use Rattle.dvd_loop.specs.declared.ends.UnitKind.{UnitKind}
use Rattle.dvd_loop.specs.declared.ends.UnitKind.TheVariants.{Good, Last}
use Rattle.dvd_loop.proofs.EndLemmas.{empty}
use Rattle.dvd_loop.proofs.Faultless.{not_by_fault}
use Rattle.dvd_loop.proofs.Sizes.{goes_one}
use Rattle.dvd_loop.proofs.StepLemmas.{onto}

-- where unit k begins, after units of those sizes
unfoldable pub start : (ℕ → ℕ) → ℕ → ℕ
start size zero = 0
start size (suc k) = start size k + size k

-- unit 0 begins at the front
pub start-zero : (size : ℕ → ℕ) → start size 0 ≡ 0
unfolding start
start-zero size = refl

-- the next unit begins after unit k
pub start-suc : (size : ℕ → ℕ) (k : ℕ) → start size (suc k) ≡ start size k + size k
unfolding start
start-suc size k = refl

-- later units begin later
pub start-le : (size : ℕ → ℕ) (k n : ℕ) → start size k ≤ start size (k + n)
start-le size k zero = let is : k ≡ k + 0 = omega arith in subst (λ m. start size k ≤ start size m) is (omega arith)
start-le size k (suc n) =
    let is : suc (k + n) ≡ k + suc n = omega arith in
    subst (λ m. start size k ≤ start size m) is (omega (arith, start-le size k n, start-suc size (k + n)))

-- pieces that are the same one by one
pub same_pieces : (f g : ℕ → List ℕ) (a n : ℕ) → ((k : ℕ) → a ≤ k → k < a + n → f k ≡ g k)
    → flat_map f (range_with_len a n) ≡ flat_map g (range_with_len a n)
same_pieces f g a zero same = refl
same_pieces f g a (suc n) same =
    ap (λ l. l ++ flat_map f (range_with_len (a + 1) n)) (same a (omega arith) (omega arith))
    ∙ ap (λ l. g a ++ l) (same_pieces f g (a + 1) n (λ k le lt. same k (omega arith) (omega arith)))

-- that piece at k, and the others elsewhere
abbrev with_piece : ℕ → List ℕ → (ℕ → List ℕ) → ℕ → List ℕ
with_piece k piece others j = cond (nat_eq j k) piece (others j)

-- at k it is that piece
piece_at : (k : ℕ) (piece : List ℕ) (others : ℕ → List ℕ) → with_piece k piece others k ≡ piece
piece_at k piece others = ap (λ b. cond b piece (others k)) (eq-eqb k k refl)

-- and after k it is one of the others
other_piece : (k : ℕ) (piece : List ℕ) (others : ℕ → List ℕ) (j : ℕ) → k < j → with_piece k piece others j ≡ others j
other_piece k piece others j lt = ap (λ b. cond b piece (others j)) (ne_eqb j k (λ is. omega arith))

-- the pieces from k on: that one, and then the others
first_piece : (k : ℕ) (piece : List ℕ) (others : ℕ → List ℕ) (n : ℕ) (all : List ℕ) → all ≡ piece ++ flat_map others (range_with_len (k + 1) n)
    → all ≡ flat_map (with_piece k piece others) (range_with_len k (suc n))
first_piece k piece others n all is =
    is ∙ ap (λ l. l ++ flat_map others (range_with_len (k + 1) n)) (sym (piece_at k piece others))
    ∙ ap (λ l. with_piece k piece others k ++ l) (same_pieces others (with_piece k piece others) (k + 1) n (λ j le lt. sym (other_piece k piece others j (omega arith))))

-- For units of known sizes, all good, each with P of its own bytes, of what it writes and of what it reports.
pub record AreGood (units : Units) (size : ℕ → ℕ) (P : ℕ → List ℕ → List ℕ → List ℕ → Type 0) : Type 0 where
  pub begins : (k : ℕ) (bytes : List ℕ) → units.begins k bytes ≡ sized (size k) bytes
  pub opens : units.opens ≡ []
  pub does : (before : List (List ℕ)) (own : List ℕ) (steps : List Step) (kind : UnitKind) → length before < units.count
      → IsUnit units before own steps kind
      → (kind ≡ Good) × P (length before) own (written steps) (reported steps)
  pub closes : (before : List (List ℕ)) (steps : List Step) → units.closes before steps → steps ≡ []
  pub asks : units.after_last ≡ EndOfInput

-- What n units from unit k on write and report, piece by piece: these are the bytes of all units, and those left from
-- unit k on.
pub record InPieces (size : ℕ → ℕ) (P : ℕ → List ℕ → List ℕ → List ℕ → Type 0) (k n : ℕ) (all left : List ℕ) (outcome : Outcome) : Type 0 where
  pub outs : ℕ → List ℕ
  pub lines : ℕ → List ℕ
  pub each : (j : ℕ) → k ≤ j → j < k + n → P j (take (size j) (drop (start size j) all)) (outs j) (lines j)
  pub out_is : outcome.out ≡ flat_map outs (range_with_len k n)
  pub lines_are : outcome.lines ≡ flat_map lines (range_with_len k n)
  pub end : outcome.end ≡ Done
  pub taken : outcome.taken ≡ left

module _ (units : Units) (size : ℕ → ℕ) (P : ℕ → List ℕ → List ℕ → List ℕ → Type 0) (are : AreGood units size P) where
  -- an outcome that equals another goes over the same pieces
  pieces_as : (k n : ℕ) (all left : List ℕ) (a x : Outcome) → a ≡ x → InPieces size P k n all left x → InPieces size P k n all left a
  pieces_as k n all left a x is pieces = subst (InPieces size P k n all left) (sym is) pieces

  -- with no units to come and no bytes left, there are no pieces, and the run is done
  no_more : (k : ℕ) (all : List ℕ) (a : Outcome) → EndsAfterLast EndOfInput 0 [] a → IsFaultless a.end → InPieces size P k 0 all [] a
  no_more k all a ends none = elim ends [
    | inr fault ↦ absurd (not_by_fault a _ fault (λ f. f) none)
    | inl is ↦ pieces_as k 0 all [] a _ is (record {
      outs = λ j. [];
      lines = λ j. [];
      each = λ j le lt. absurd (omega arith);
      out_is = refl;
      lines_are = refl;
      end = refl;
      taken = refl;
    })
  ]

  -- the bytes of unit k, after those of the units before it
  own_bytes : (k : ℕ) (all prefix own left : List ℕ) → all ≡ prefix ++ (own ++ left) → length prefix ≡ start size k → length own ≡ size k
      → own ≡ take (size k) (drop (start size k) all)
  own_bytes k all prefix own left is at whole =
      sym (take-append_seam own left) ∙ ap (λ n. take n (own ++ left)) whole
      ∙ ap (take (size k)) (sym (drop-append_seam prefix (own ++ left)) ∙ ap (λ n. drop n (prefix ++ (own ++ left))) at ∙ ap (drop (start size k)) (sym is))

  -- one unit before those to come adds its piece to theirs
  one_more : (k n : ℕ) (all own left w t : List ℕ) (after : Outcome) → P k (take (size k) (drop (start size k) all)) w t
      → InPieces size P (k + 1) n all left after
      → InPieces size P k (suc n) all (own ++ left) (onto own w t after)
  one_more k n all own left w t after here r = record {
    outs = with_piece k w r.outs;
    lines = with_piece k t r.lines;
    each = λ j le lt. elim (cases_lt k j) [
      | inl later ↦
          let own = take (size j) (drop (start size j) all) in
          subst (λ l. P j own l (with_piece k t r.lines j)) (sym (other_piece k w r.outs j later))
          (subst (P j own (r.outs j)) (sym (other_piece k t r.lines j later)) (r.each j (omega arith) (omega arith)))
      | inr not ↦
          let is : k ≡ j = omega arith in
          subst (λ i. P i (take (size i) (drop (start size i) all)) (with_piece k w r.outs i) (with_piece k t r.lines i)) is
          (subst (λ l. P k (take (size k) (drop (start size k) all)) l (with_piece k t r.lines k)) (sym (piece_at k w r.outs))
          (subst (P k (take (size k) (drop (start size k) all)) w) (sym (piece_at k t r.lines)) here))
    ];
    out_is = first_piece k w r.outs n (w ++ after.out) (ap (λ l. w ++ l) r.out_is);
    lines_are = first_piece k t r.lines n (t ++ after.lines) (ap (λ l. t ++ l) r.lines_are);
    end = r.end;
    taken = ap (λ l. own ++ l) r.taken;
  }

  -- with n units to come and their bytes left, each writes and reports its piece, and the run is done
  goes_over : (n : ℕ) (before : List (List ℕ)) (all prefix left : List ℕ) (a : Outcome) → all ≡ prefix ++ left
      → length prefix ≡ start size (length before) → length before + n ≡ units.count
      → length all ≡ start size units.count → Continues units n before 0 left a → IsFaultless a.end → InPieces size P (length before) n all left a
  unfolding Continues
  goes_over zero before all prefix left a is at count whole (steps, closes, does) none =
      let here : length before ≡ units.count = omega arith in
      let nothing : left ≡ [] = empty left (omega (arith, ap length is, length-append prefix left, ap (start size) here)) in
      let ends = subst (λ b. EndsAfterLast b 0 left a) are.asks (subst (λ l. Performs l (EndsAfterLast units.after_last 0 left) a) (are.closes before steps closes) does) in
      subst (λ l. InPieces size P (length before) 0 all l a) (sym nothing) (no_more (length before) all a (subst (λ l. EndsAfterLast EndOfInput 0 l a) nothing ends) none)
  goes_over (suc n) before all prefix left a is at count whole goes none =
      let lt : length before < units.count = omega arith in
      let next : suc (length before) + n ≡ units.count = omega arith in
      let enough : start size (length before) + size (length before) ≤ start size units.count =
      subst (λ m. start size (length before) + size (length before) ≤ start size m) next (omega (arith, start-le size (suc (length before)) n, start-suc size (length before))) in
      elim (goes_one units size are.begins n before (λ own steps unit. let no : Last ≡ Good = (are.does before own steps Last lt unit).0 in cc) 0 left a goes none) [
        | inl short ↦ absurd (omega (arith, short.fewer, ap length is, length-append prefix left))
        | inr t ↦
            let does = are.does before t.own t.steps t.kind lt t.unit in
            let good : 0 + bad_of t.kind ≡ 0 = ap (λ u. 0 + bad_of u) does.0 in
            let one : length (before ++ t.own ∷ []) ≡ length before + 1 = length-append before (t.own ∷ []) in
            let parts : all ≡ prefix ++ (t.own ++ t.left) = is ∙ ap (λ l. prefix ++ l) t.prefix in
            let further : length (prefix ++ t.own) ≡ start size (length (before ++ t.own ∷ [])) =
            length-append prefix t.own ∙ omega (arith, at, t.size_is, start-suc size (length before)) ∙ ap (start size) (sym (one ∙ add-one (length before))) in
            let r = goes_over n (before ++ t.own ∷ []) all (prefix ++ t.own) t.left t.after (parts ∙ sym (append_assoc prefix t.own t.left)) further (omega arith) whole
            (subst (λ b. Continues units n (before ++ t.own ∷ []) b t.left t.after) good t.goes) t.faultless in
            let mine = own_bytes (length before) all prefix t.own t.left parts at t.size_is in
            pieces_as (length before) (suc n) all left a _ t.is (subst (λ l. InPieces size P (length before) (suc n) all l (onto t.own (written t.steps) (reported t.steps) t.after)) (sym t.prefix)
            (one_more (length before) n all t.own t.left (written t.steps) (reported t.steps) t.after (subst (λ l. P (length before) l (written t.steps) (reported t.steps)) mine does.1)
            (subst (λ k. InPieces size P k n all t.left t.after) one r)))
      ]

  -- A run without a fault over exactly the bytes of all units: each does its own, and the run ends as done.
  pub over : (bytes : List ℕ) (a : Outcome) → IsOutcome units bytes a → IsFaultless a.end → length bytes ≡ start size units.count
      → InPieces size P 0 units.count bytes bytes a
  over bytes a runs none whole =
      goes_over units.count [] bytes [] bytes a refl (sym (start-zero size)) (omega arith) whole
      (subst (λ l. Performs l (Continues units units.count [] 0 bytes) a) are.opens runs) none

-- The same where each unit's bytes and lines are known by its own bytes.
pub over_is : (units : Units) (size : ℕ → ℕ) (f g : ℕ → List ℕ → List ℕ) → AreGood units size (λ k own out lines. (out ≡ f k own) × (lines ≡ g k own))
    → (bytes : List ℕ) (a : Outcome) → IsOutcome units bytes a → IsFaultless a.end → length bytes ≡ start size units.count
    → (a.out ≡ flat_map (λ k. f k (take (size k) (drop (start size k) bytes))) (range_with_len 0 units.count))
    × (a.lines ≡ flat_map (λ k. g k (take (size k) (drop (start size k) bytes))) (range_with_len 0 units.count))
    × (a.end ≡ Done) × (a.taken ≡ bytes)
over_is units size f g are bytes a runs none whole =
    let r = over units size (λ k own out lines. (out ≡ f k own) × (lines ≡ g k own)) are bytes a runs none whole in (
      r.out_is ∙ same_pieces r.outs _ 0 units.count (λ k le lt. (r.each k le lt).0),
      r.lines_are ∙ same_pieces r.lines _ 0 units.count (λ k le lt. (r.each k le lt).1),
      r.end,
      r.taken,
    )
