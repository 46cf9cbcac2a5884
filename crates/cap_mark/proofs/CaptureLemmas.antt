-- A run without a fault marks each whole frame of the capture.
use Rattle.std.proofs.Common.{◌≡◌, ◌∙◌, inl, inr, ◌+◌, ◌-◌, ◌*◌, ◌/◌, ◌%◌, ◌^◌, ◌<◌, ℕ, zero, suc, List, [], ◌∷◌, ◌++◌, length, take, drop, ap, sym, subst, arith, length-append, append-nil, zero-add}
use Rattle.std.proofs.Math.Seq.{drop-append_seam, take-append_seam}
use Rattle.std.proofs.lemmas.Bool.{cases_lt}
use Rattle.dvd_loop.specs.Laws.{IsFaultless}
use Rattle.dvd_loop.specs.Machine.{Performs, EndsWithin, Continues, ContinuesAfter, Outcome, sized, bad_of, stepping, taking, ended}
use Rattle.dvd_loop.specs.Machine.Prefix.{Cut, Whole}
use Rattle.dvd_loop.specs.Machine.Step.{Write}
use Rattle.dvd_loop.proofs.Sizes.{sized_enough, sized_fewer, sized_whole}
use Rattle.dvd_loop.specs.declared.ends.LoopEnd.{LoopEnd}
use Rattle.dvd_loop.specs.declared.ends.LoopEnd.TheVariants.{Short}
use Rattle.cap_map.specs.declared.span.Span.{Span}
use Rattle.cap_mark.specs.Capture.{MarksWhole, marked_frames}
use Rattle.cap_mark.specs.Frames.{mark_units, marked_frame}

-- What comes of the frames from frame k on, of which these bytes are left.
record IsDone (spans : List Span) (k : ℕ) (bytes : List ℕ) (o : Outcome) : Type 0 where
  writes : o.out ≡ marked_frames spans k (length bytes / 2366) bytes
  reports : o.lines ≡ []
  reads : o.taken ≡ bytes
  ends : o.end ≡ Short (k + length bytes / 2366) (length bytes % 2366)

-- bytes that are a whole frame, and bytes that aren't
whole_size : (own : List ℕ) → sized 2366 own ≡ Whole (length own) → length own ≡ 2366
whole_size own is = (sized_whole 2366 own).0 is

cut_size : (own : List ℕ) (k held : ℕ) (left : List ℕ) (end : LoopEnd) → EndsWithin (sized 2366 own) k held left end → IsFaultless end
    → (length own < 2366) × (end ≡ Short k held) × (left ≡ [])
cut_size own k held left end ends sound = elim (cases_lt (length own) 2366) [
  | inl fewer ↦
      let within : EndsWithin Cut k held left end = subst (λ p. EndsWithin p k held left end) (sized_fewer 2366 own fewer) ends in
      elim within [
        | inl (is, none) ↦ (fewer, is, none)
        | inr fault ↦ absurd (subst IsFaultless fault sound)
      ]
  | inr enough ↦ absurd (subst (λ p. EndsWithin p k held left end) (sized_enough 2366 own enough) ends)
]

-- the run ends within frame k
ended_done : (spans : List Span) (k : ℕ) (own : List ℕ) (o : Outcome) → length own < 2366 → o.end ≡ Short k (length own) → o ≡ taking own (ended o.end) → IsDone spans k own o
unfolding marked_frames
ended_done spans k own o fewer ends takes =
    let none : length own / 2366 ≡ 0 = omega arith in
    let rest : length own % 2366 ≡ length own = omega arith in record {
      writes = ap (λ (x : Outcome). x.out) takes ∙ ap (λ n. marked_frames spans k n own) (sym none);
      reports = ap (λ (x : Outcome). x.lines) takes;
      reads = ap (λ (x : Outcome). x.taken) takes ∙ append-nil own;
      ends = ends ∙ ap (λ n. Short n (length own)) (omega (arith, none)) ∙ ap (λ n. Short (k + length own / 2366) n) (sym rest);
    }

-- frame k is written, and then the others
taken_done : (spans : List Span) (k : ℕ) (own left : List ℕ) (after : Outcome) → length own ≡ 2366 → IsDone spans (suc k) left after
    → IsDone spans k (own ++ left) (taking own (stepping (Write (marked_frame spans k own)) after))
unfolding marked_frames
taken_done spans k own left after size done =
    let more : length (own ++ left) / 2366 ≡ suc (length left / 2366) = omega (arith, length-append own left) in
    let same : length (own ++ left) % 2366 ≡ length left % 2366 = omega (arith, length-append own left) in record {
      writes = ap (λ l. marked_frame spans k own ++ l) done.writes
          ∙ ap (λ l. marked_frame spans k l ++ marked_frames spans (suc k) (length left / 2366) left) (sym (ap (λ n. take n (own ++ left)) (sym size) ∙ take-append_seam own left))
          ∙ ap (λ l. marked_frame spans k (take 2366 (own ++ left)) ++ marked_frames spans (suc k) (length left / 2366) l) (sym (ap (λ n. drop n (own ++ left)) (sym size) ∙ drop-append_seam own left))
          ∙ ap (λ n. marked_frames spans k n (own ++ left)) (sym more);
      reports = done.reports;
      reads = ap (λ l. own ++ l) done.reads;
      ends = done.ends ∙ ap (λ n. Short n (length left % 2366)) (omega (arith, more)) ∙ ap (λ n. Short (k + length (own ++ left) / 2366) n) (sym same);
    }

module _ (spans : List Span) where
  goes_done : (n : ℕ) (before : List (List ℕ)) (bad : ℕ) (bytes : List ℕ) (o : Outcome) → length bytes < 2366 * n → Continues (mark_units spans) n before bad bytes o
      → IsFaultless o.end → IsDone spans (length before) bytes o
  unfolding Continues
  goes_done zero before bad bytes o fewer goes sound = absurd (omega arith)
  goes_done (suc n) before bad bytes o fewer goes sound = elim goes [
    | inl w ↦
        let cut = cut_size w.own (length before) (length w.own) w.left o.end w.ends sound in
        let is : bytes ≡ w.own = w.prefix ∙ ap (λ l. w.own ++ l) cut.2 ∙ append-nil w.own in
        subst (λ b. IsDone spans (length before) b o) (sym is) (ended_done spans (length before) w.own o cut.0 cut.1 w.takes)
    | inr t ↦
        let size = whole_size t.own t.unit.whole in
        let Next : Outcome → Type 0 = Continues (mark_units spans) n (before ++ t.own ∷ []) (bad + bad_of t.kind) t.left in
        let frame = marked_frame spans (length before) t.own in
        let does : Performs (Write frame ∷ []) (ContinuesAfter t.kind Next) t.after = subst (λ s. Performs s (ContinuesAfter t.kind Next) t.after) t.unit.does.writes t.does in
        elim does [
          | inl (prefix, left, whole, some, fails) ↦
              absurd (subst IsFaultless (ap (λ (x : Outcome). x.end) t.takes ∙ ap (λ (x : Outcome). x.end) fails) sound)
          | inr (next, goes_on, is) ↦
              let goes : Next next = subst (λ kind. ContinuesAfter kind Next next) t.unit.does.good goes_on in
              let same : o ≡ taking t.own (stepping (Write frame) next) = t.takes ∙ ap (taking t.own) is in
              let fewer_left : length t.left < 2366 * n = omega (arith, length-append t.own t.left, ap length t.prefix) in
              let number : length (before ++ t.own ∷ []) ≡ suc (length before) = length-append before (t.own ∷ []) ∙ omega arith in
              let done = goes_done n (before ++ t.own ∷ []) (bad + bad_of t.kind) t.left next fewer_left goes (subst IsFaultless (ap (λ (x : Outcome). x.end) same) sound) in
              subst (λ b. IsDone spans (length before) b o) (sym t.prefix)
              (subst (IsDone spans (length before) (t.own ++ t.left)) (sym same)
              (taken_done spans (length before) t.own t.left next size (subst (λ k. IsDone spans k t.left next) number done)))
        ]
  ]

pub marks_whole : MarksWhole
marks_whole spans bytes outcome fewer runs sound =
    let done = goes_done spans (2 ^ 32 - 1) [] 0 bytes outcome fewer runs sound in
    record { writes = done.writes; reports = done.reports; reads = done.reads; ends = done.ends ∙ ap (λ n. Short n (length bytes % 2366)) (zero-add (length bytes / 2366)) }
