-- A captured frame joined to a block, row by row.
use Rattle.std.proofs.Common.{◌≡◌, ◌≢◌, ◌⊎◌, inl, inr, ◌∙◌, sym, ap, ℕ, ◌+◌, ◌*◌, ◌/◌, ◌%◌, ◌<◌, ◌≤◌, ◌==◌, if◌then◌else◌, List, [], length, set, refl, arith}
use Rattle.std.proofs.lemmas.Bool.Decides.{eqb_tells}
use Rattle.std.proofs.lemmas.List.{get_or-set_same, get_or-set_other, length-set}
use Rattle.coding.specs.Recording.{record_at, row_at}
use Rattle.dvd_capture.proofs.Fetching.{record_at-row_at, row_at-lt, row_at-record_at}
use Rattle.dvd_capture.proofs.Mapped.{mapped}
use Rattle.dvd_merge.specs.Join.{Table, join_rows, known_row}
use Rattle.dvd_merge.specs.declared.place.Place.{Place}
use Rattle.dvd_merge.proofs.Places.{Tells}
use Rattle.dvd_assemble.specs.Assembled.{frame_row, with_frame}
use Rattle.dvd_assemble.specs.Frames.{Frame}

-- the first q rows of a frame are joined to a block as its recording frame f
pub record IsPartlyJoined (f : ℕ) (frame : Frame) (old now : Table) (q : ℕ) : Type 0 where
  pub size : length now ≡ 208
  pub taken : (i : ℕ) → i < 208 → record_at i / 13 ≡ f → record_at i % 13 < q → known_row now i ≡ join_rows (known_row old i) (frame_row frame (record_at i % 13))
  pub rest : (i : ℕ) → i < 208 → (record_at i / 13 ≢ f) ⊎ (q ≤ record_at i % 13) → known_row now i ≡ known_row old i

-- before the first row the block is as it was
pub none_joined : (f : ℕ) (frame : Frame) (old : Table) → length old ≡ 208 → IsPartlyJoined f frame old old 0
none_joined f frame old size = record { size = size; taken = λ i below here few. absurd (omega arith); rest = λ i below other. refl }

-- one row more
pub row_joined : (f q : ℕ) (frame : Frame) (old before now : Table) → f < 16 → q < 13 → IsPartlyJoined f frame old before q
    → now ≡ set before (row_at (13 * f + q)) (join_rows (known_row before (row_at (13 * f + q))) (frame_row frame q))
    → IsPartlyJoined f frame old now (q + 1)
row_joined f q frame old before now frames rows part is = record {
  size = ap length is ∙ length-set before at row ∙ part.size;
  taken = λ i below here few. taken i below here few (eqb_tells i at);
  rest = λ i below other. rest i below other (eqb_tells i at);
}
  where
    m : ℕ
    m = 13 * f + q

    at : ℕ
    at = row_at m

    row : List Place
    row = join_rows (known_row before at) (frame_row frame q)

    within : at < length before
    within = omega (arith, part.size, row_at-lt m (omega arith))

    back : record_at at ≡ m
    back = record_at-row_at m (omega arith)

    -- the row is as it was
    first : known_row before at ≡ known_row old at
    first = part.rest at (omega (arith, part.size, within)) (inr (omega (arith, back)))

    taken : (i : ℕ) → i < 208 → record_at i / 13 ≡ f → record_at i % 13 < q + 1 → Tells i at
        → known_row now i ≡ join_rows (known_row old i) (frame_row frame (record_at i % 13))
    taken i below here few (inl same) =
        let last : record_at at % 13 ≡ q = omega (arith, back) in
        rw same.1
        (ap (λ t. known_row t at) is ∙ get_or-set_same before at row [] within
        ∙ ap (λ r. join_rows r (frame_row frame q)) first ∙ ap (λ k. join_rows (known_row old at) (frame_row frame k)) (sym last))
    taken i below here few (inr apart) =
        ap (λ t. known_row t i) is ∙ get_or-set_other before at i row [] apart.1
        ∙ part.taken i below here (less apart.1)
      where
        less : i ≢ at → record_at i % 13 < q
        less other = by_test (eqb_tells (record_at i % 13) q)
          where
            by_test : Tells (record_at i % 13) q → record_at i % 13 < q
            by_test (inl last) =
                let number : record_at i ≡ m = omega (arith, here, last.1) in
                absurd (other (sym (row_at-record_at i below) ∙ ap row_at number))
            by_test (inr not_last) = omega (arith, few, not_last.1)

    rest : (i : ℕ) → i < 208 → (record_at i / 13 ≢ f) ⊎ (q + 1 ≤ record_at i % 13) → Tells i at → known_row now i ≡ known_row old i
    rest i below (inl elsewhere) (inl same) =
        let here : record_at i / 13 ≡ f = ap (λ k. record_at k / 13) same.1 ∙ omega (arith, back) in
        absurd (elsewhere here)
    rest i below (inr later) (inl same) =
        let last : record_at i % 13 ≡ q = ap (λ k. record_at k % 13) same.1 ∙ omega (arith, back) in
        absurd (omega (arith, later, last))
    rest i below (inl elsewhere) (inr apart) = ap (λ t. known_row t i) is ∙ get_or-set_other before at i row [] apart.1 ∙ part.rest i below (inl elsewhere)
    rest i below (inr later) (inr apart) =
        ap (λ t. known_row t i) is ∙ get_or-set_other before at i row [] apart.1 ∙ part.rest i below (inr (omega (arith, later)))

-- all of them
pub all_joined : (f : ℕ) (frame : Frame) (old now : Table) → IsPartlyJoined f frame old now 13 → now ≡ with_frame f frame old
unfolding with_frame
all_joined f frame old now part =
    mapped at now 208 [] part.size (λ i below. by_frame i below (eqb_tells (record_at i / 13) f))
  where
    at : ℕ → List Place
    at i = if record_at i / 13 == f then join_rows (known_row old i) (frame_row frame (record_at i % 13)) else known_row old i

    by_frame : (i : ℕ) → i < 208 → Tells (record_at i / 13) f → known_row now i ≡ at i
    by_frame i below (inl here) = rw here.0 (part.taken i below here.1 (omega arith))
    by_frame i below (inr elsewhere) = rw elsewhere.0 (part.rest i below (inl elsewhere.1))
