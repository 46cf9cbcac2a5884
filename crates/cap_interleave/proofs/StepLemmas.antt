-- One more block of one capture.
use Rattle.std.proofs.Common.{◌≡◌, ◌∙◌, ◌⊎◌, inl, inr, ◌+◌, ◌*◌, ◌<◌, ◌≤◌, ℕ, suc, List, [], ◌++◌, length, take, drop, ap, sym, subst, arith, append-nil, length-append, length-drop}
use Rattle.std.proofs.Math.Nat.{mul-le-mul_left, mul-suc}
use Rattle.std.proofs.Math.Seq.{drop-append_seam}
use Rattle.std.proofs.lemmas.List.{drop-append-le, drop_all, take-append-le, take_all}
use Rattle.dvd_ports.specs.Bytes.{Consumes}
use Rattle.dvd_ports.proofs.KnownLemmas.{Consumes-then}
use Rattle.dvd_ports.proofs.StopLemmas.{ends_after, goes_on}
use Rattle.dvd_ports.specs.Causes.{HasGoneOn}
use Rattle.dvd_ports.specs.Seen.{Seen}
use Rattle.cap_interleave.specs.Blocks.{capture_block}
use Rattle.cap_interleave.specs.Inner.{GivesBlock}
use Rattle.cap_interleave.specs.Interleaved.{HasGiven}

-- the block that comes after whole blocks, and one that comes after the end
pub block_now : (size k : ℕ) (came own : List ℕ) → length came ≡ size * k → length own ≤ size → capture_block size k (came ++ own) ≡ own
block_now size k came own whole few =
    ap (λ n. take size (drop n (came ++ own))) (sym whole) ∙ ap (take size) (drop-append_seam came own) ∙ take_all size own few

pub block_past : (size k : ℕ) (came : List ℕ) → length came ≤ size * k → capture_block size k came ≡ []
block_past size k came few = ap (take size) (drop_all (size * k) came few) ∙ take_all size [] (omega arith)

-- a block before it stays
pub block_before : (size k j : ℕ) (came own : List ℕ) → j < k → size * k ≤ length came → capture_block size j (came ++ own) ≡ capture_block size j came
block_before size k j came own before whole =
    let below : suc j ≤ k = omega arith in
    let inside : size * j + size ≤ size * k = omega (arith, mul-suc size j, mul-le-mul_left size below) in
    ap (take size) (drop-append-le (size * j) came own (omega arith)) ∙ take-append-le size (drop (size * j) came) own (omega (arith, length-drop (size * j) came))

-- So many bytes came of the last block of a capture: all of its blocks came so far, or it ended before.
abbrev pub Stands : ℕ → ℕ → ℕ → List ℕ → Type 0
Stands size k held came = ((size ≤ held) × (length came ≡ size * k)) ⊎ ((held < size) × (length came < size * k))

-- These bytes are what came of block k of a capture, after those that came before.
pub record IsStepped (size k : ℕ) (came own : List ℕ) (old new : Seen) : Type 0 where
  pub now : capture_block size k (came ++ own) ≡ own
  pub before : (j : ℕ) → j < k → capture_block size j (came ++ own) ≡ capture_block size j came
  pub is_there : Stands size (suc k) (length own) (came ++ own)
  pub given : HasGiven size (suc k) (came ++ own) old new
  pub some : 0 < length own → size * k < length (came ++ own)
  pub over : length own ≡ 0 → length (came ++ own) ≤ size * k
  pub whole : size ≤ length own → size * suc k ≤ length (came ++ own)
  pub exact : size * k ≤ length came → length (came ++ own) ≡ size * k + length own

-- no call went wrong while whole blocks came
on_so_far : (size k : ℕ) (came : List ℕ) (old new : Seen) → HasGiven size k came old new → length came ≡ size * k → HasGoneOn old new
on_so_far size k came old new given whole = elim given.answers [
  | inl (same, on) ↦ on
  | inr (fewer, end, met) ↦ absurd (omega (arith, whole, fewer))
]

-- the capture had ended, and nothing was asked of it
ended_step : (size k held : ℕ) (came : List ℕ) (old new : Seen) → held < size → length came < size * k → HasGiven size k came old new → IsStepped size k came [] old new
ended_step size k held came old new ended few given =
    let same : came ++ [] ≡ came = append-nil came in
    let size_same : length (came ++ []) ≡ length came = ap length same in
    let next : size * suc k ≡ size * k + size = mul-suc size k in
    record {
      now = ap (capture_block size k) same ∙ block_past size k came (omega (arith, few));
      before = λ j before. ap (capture_block size j) same;
      is_there = inr (omega (arith, ended), omega (arith, size_same, next, few));
      given = record {
        reads = subst (Consumes old.bytes new.bytes) (sym same) given.reads;
        answers = elim given.answers [
          | inl (whole, on) ↦ absurd (omega (arith, whole, few))
          | inr (fewer, end, met) ↦ inr (omega (arith, size_same, next, few), end, met)
        ];
      };
      some = λ some. absurd (omega (arith, some));
      over = λ none. omega (arith, size_same, few);
      whole = λ whole. absurd (omega (arith, whole, ended));
      exact = λ whole. absurd (omega (arith, whole, few));
    }

-- it was asked for a block, after whole ones
asked_step : (size k held : ℕ) (came own : List ℕ) (old mid new : Seen) → size ≤ held → length came ≡ size * k → HasGiven size k came old mid → GivesBlock size held own mid new
    → IsStepped size k came own old new
asked_step size k held came own old mid new asked whole given gives =
    let grown : length (came ++ own) ≡ size * k + length own = length-append came own ∙ ap (λ n. n + length own) whole in
    let next : size * suc k ≡ size * k + size = mul-suc size k in
    let on = on_so_far size k came old mid given whole in
    let reads = Consumes-then old.bytes mid.bytes new.bytes came own given.reads (gives.reads asked) in
    elim (gives.answers asked) [
      | inl (full, went) ↦ record {
        now = block_now size k came own whole (omega (arith, full));
        before = λ j before. block_before size k j came own before (omega (arith, whole));
        is_there = inl (omega (arith, full), omega (arith, grown, next, full));
        given = record { reads = reads; answers = inl (omega (arith, grown, next, full), goes_on old mid new on went) };
        some = λ some. omega (arith, grown, some);
        over = λ none. omega (arith, grown, none);
        whole = λ enough. omega (arith, grown, next, full);
        exact = λ enough. grown;
      }
      | inr (fewer, end, met) ↦ record {
        now = block_now size k came own whole (omega (arith, fewer));
        before = λ j before. block_before size k j came own before (omega (arith, whole));
        is_there = inr (fewer, omega (arith, grown, next, fewer));
        given = record { reads = reads; answers = inr (omega (arith, grown, next, fewer), end, ends_after old mid new on met) };
        some = λ some. omega (arith, grown, some);
        over = λ none. omega (arith, grown, none);
        whole = λ enough. absurd (omega (arith, enough, fewer));
        exact = λ enough. grown;
      }
    ]

pub stepped : (size k held : ℕ) (came own : List ℕ) (old mid new : Seen) → Stands size k held came → HasGiven size k came old mid → GivesBlock size held own mid new
    → IsStepped size k came own old new
stepped size k held came own old mid new (inl (asked, whole)) given gives = asked_step size k held came own old mid new asked whole given gives
stepped size k held came own old mid new (inr (ended, few)) given gives =
    let is = gives.ended ended in
    subst (λ o. IsStepped size k came o old new) (sym is.0) (subst (λ n. IsStepped size k came [] old n) (sym is.1) (ended_step size k held came old mid ended few given))
