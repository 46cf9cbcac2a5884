-- Captures of the same number of blocks each, without a fault.
use Rattle.std.proofs.Common.{◌≡◌, ◌∙◌, inl, inr, ◌*◌, ◌<◌, ◌≤◌, ℕ, suc, List, [], ◌++◌, length, slice_index_or, refl, ap, sym, subst, arith, append-nil, length-append, Option, Some, None}
use Rattle.std.proofs.Math.Nat.{mul-le-mul_left, mul-suc}
use Rattle.std.proofs.lemmas.Bool.{cases_lt}
use Rattle.std.specs.Io.KnownBytes.{Consumes as LosesKnown, IsAtEnd as IsKnownEnd}
use Rattle.dvd_ports.specs.Bytes.{Appends}
use Rattle.dvd_ports.specs.Seen.{Seen}
use Rattle.cap_interleave.specs.Blocks.{CaptureBytes, Task, capture_block, units_of}
use Rattle.cap_interleave.specs.Interleaved.{HasGiven, HaveSome, IsInterleaved}
use Rattle.cap_interleave.specs.Laws.{WholeCapturesComeWhole}
use Rattle.cap_interleave.specs.declared.ends.InterleaveEnd.TheVariants.{Done, Long, ReadFault, Short, WriteFault}
use Rattle.cap_interleave.proofs.LoopLemmas.{any}
use Rattle.cap_interleave.proofs.UnitLemmas.{units_kept}

-- what came of known bytes is a front of them
prefix : (old new : Option (List ℕ)) (capture came : List ℕ) → old ≡ Some capture → LosesKnown old new came
    → (left : List ℕ) × (new ≡ Some left) × (capture ≡ came ++ left)
prefix old None capture came said reads = let no : LosesKnown (Some capture) None came = subst (λ o. LosesKnown o None came) said reads in absurd no
prefix old (Some left) capture came said reads = (left, refl, subst (λ o. LosesKnown o (Some left) came) said reads)

none_after : (new : Option (List ℕ)) (left : List ℕ) → new ≡ Some left → IsKnownEnd new → left ≡ []
none_after new left is end = subst IsKnownEnd is end

-- a capture that gave less than it was asked for gave all
all_came : (size m : ℕ) (capture came : List ℕ) (old new : Seen) → old.bytes.left ≡ Some capture → HasGiven size m came old new → length came < size * m → came ≡ capture
all_came size m capture came old new said given few =
    let parts = prefix old.bytes.left new.bytes.left capture came said given.reads.loses in
    elim given.answers [
      | inl (whole, on) ↦ absurd (omega (arith, whole, few))
      | inr (fewer, end, met) ↦ sym (parts.2 ∙ ap (λ l. came ++ l) (none_after new.bytes.left parts.0 parts.1 end) ∙ append-nil came)
    ]

-- and never more
no_more : (size m : ℕ) (capture came : List ℕ) (old new : Seen) → old.bytes.left ≡ Some capture → HasGiven size m came old new → length came ≤ length capture
no_more size m capture came old new said given =
    let parts = prefix old.bytes.left new.bytes.left capture came said given.reads.loses in
    omega (arith, ap length parts.2, length-append came parts.0)

module _ (S : Type 0) (seen : S → Seen) (task : Task) (olds news : List S) (captures : CaptureBytes) (n : ℕ)
    (said : (c : ℕ) (d : S) → c < task.count → (seen (slice_index_or olds c d)).bytes.left ≡ Some (captures c))
    (sizes : (c : ℕ) → c < task.count → length (captures c) ≡ task.size * n) (enough : task.count ≤ length olds) where
  -- no capture has a byte of a unit from the n-th on
  none_past : (m k : ℕ) (came : CaptureBytes) → ((c : ℕ) (d : S) → c < task.count → HasGiven task.size m (came c) (seen (slice_index_or olds c d)) (seen (slice_index_or news c d)))
      → n ≤ k → HaveSome task came k → ⊥
  none_past m k came given past some =
      let d = any olds some.0 (omega (arith, some.1, enough)) in
      absurd (omega (arith, some.2, no_more task.size m (captures some.0) (came some.0) _ _ (said some.0 d some.1) (given some.0 d some.1), sizes some.0 some.1, mul-le-mul_left task.size past))

  done_whole : (old new : Seen) → 0 < task.size → 0 < task.count → IsInterleaved seen task olds news old new Done → Appends old.bytes new.bytes (units_of task captures n)
  done_whole old new some_size some_count is =
      let d = λ (c : ℕ) (inside : c < task.count). any olds c (omega (arith, inside, enough)) in
      let same : (c : ℕ) → c < task.count → is.came c ≡ captures c = λ c inside.
      all_came task.size (suc is.units) (captures c) (is.came c) _ _ (said c (d c inside) inside) (is.gives c (d c inside) inside) (omega (arith, is.ends c inside, mul-suc task.size is.units, some_size)) in
      let reached : n ≤ is.units = elim (cases_lt is.units n) [
        | inl fewer ↦
            let next : suc is.units ≤ n = omega (arith, fewer) in
            absurd (omega (arith, is.ends 0 some_count, ap length (same 0 some_count), sizes 0 some_count, mul-suc task.size is.units, mul-le-mul_left task.size next, some_size))
        | inr enough_units ↦ enough_units
      ] in
      let none : is.units ≤ n = elim (cases_lt n is.units) [
        | inl more ↦ absurd (none_past (suc is.units) n is.came is.gives (omega arith) (is.due n more).some)
        | inr few ↦ few
      ] in
      let units : is.units ≡ n = omega (arith, reached, none) in
      subst (Appends old.bytes new.bytes) (ap (units_of task is.came) units ∙ units_kept task is.came captures n (λ c k inside below. ap (capture_block task.size k) (same c inside))) is.writes.0

pub whole_captures : {S : Type 0} (seen : S → Seen) → WholeCapturesComeWhole seen
whole_captures {S} seen task olds news old new Done captures n said sizes some_size some_count enough few is sound =
    (refl, done_whole S seen task olds news captures n said sizes enough old new some_size some_count is)
whole_captures {S} seen task olds news old new (Short c k bytes) captures n said sizes some_size some_count enough few is sound =
    let short = is.ends.1 in
    let d = any olds c (omega (arith, short.capture, enough)) in
    let ended : is.came c ≡ captures c = all_came task.size (suc is.units) (captures c) (is.came c) _ _ (said c d short.capture) (is.gives c d short.capture) (omega (arith, short.held, short.fewer, mul-suc task.size is.units)) in
    let past : n ≤ is.units = elim (cases_lt is.units n) [
      | inl fewer ↦
          let next : suc is.units ≤ n = omega (arith, fewer) in
          absurd (omega (arith, ap length ended, sizes c short.capture, short.held, short.fewer, mul-suc task.size is.units, mul-le-mul_left task.size next))
      | inr enough_units ↦ enough_units
    ] in
    absurd (none_past S seen task olds news captures n said sizes enough (suc is.units) is.units is.came is.gives past short.some)
whole_captures {S} seen task olds news old new Long captures n said sizes some_size some_count enough few is sound =
    absurd (none_past S seen task olds news captures n said sizes enough is.units n is.came is.gives (omega arith) (is.due n (omega (arith, is.ends, few))).some)
whole_captures {S} seen task olds news old new (ReadFault c) captures n said sizes some_size some_count enough few is sound = absurd sound
whole_captures {S} seen task olds news old new WriteFault captures n said sizes some_size some_count enough few is sound = absurd sound
