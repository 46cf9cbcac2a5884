-- The Main Data of a block's frames, one sector after the other.
use Rattle.std.proofs.Common.{◌≡◌, ◌≢◌, ◌⊎◌, ◌∙◌, ℕ, ◌+◌, ◌*◌, ◌<◌, List, [], ◌∷◌, ◌++◌, length, map, take, get_or, replicate, inl, inr, sym, ap, arith}
use Rattle.std.specs.List.{flat_map, range_with_len}
use Rattle.std.proofs.lemmas.List.{append-nil, get_or-replicate, length-replicate, take_all}
use Rattle.std.proofs.Math.Seq.{take-append_seam}
use Rattle.std.proofs.lemmas.Bool.{cases_eq}
use Rattle.std.proofs.lemmas.Grind.{same_number_lists}
use Rattle.std.proofs.lemmas.List.Concat.{flat_map-append}
use Rattle.std.proofs.lemmas.List.FromFn.{map-range_with_len_more}
use Rattle.dvd_layout.specs.declared.entry.BlockPlan.{BlockPlan}
use Rattle.dvd_decoding.specs.Frames.{main_at, main_data}

-- the Main Data of the first n frames
abbrev pub mains : List (List ℕ) → BlockPlan → ℕ → List ℕ
mains block entry n = flat_map (λ sector. sector) (map (main_at block entry) (range_with_len 0 n))

-- one sector more comes after those before it
mains-more : (block : List (List ℕ)) (entry : BlockPlan) (f : ℕ) → mains block entry (f + 1) ≡ mains block entry f ++ main_at block entry f
mains-more block entry f =
    ap (flat_map (λ sector. sector)) (map-range_with_len_more (main_at block entry) 0 f f (omega arith))
    ∙ flat_map-append (λ sector. sector) (map (main_at block entry) (range_with_len 0 f)) (main_at block entry f ∷ [])
    ∙ ap (λ l. mains block entry f ++ l) (append-nil (main_at block entry f))

-- one frame more
pub mains-next : (block : List (List ℕ)) (entry : BlockPlan) (f : ℕ) (old new main : List ℕ) → take (2048 * f + 2048) new ≡ take (2048 * f) old ++ main
    → take (2048 * f) old ≡ mains block entry f → main ≡ main_at block entry f → take (2048 * (f + 1)) new ≡ mains block entry (f + 1)
mains-next block entry f old new main put before is =
    let size : 2048 * (f + 1) ≡ 2048 * f + 2048 = omega arith in
    rw (size, mains-more block entry f) (put ∙ ap (λ (l : List ℕ). l ++ main) before ∙ ap (λ l. mains block entry f ++ l) is)

-- all of them
pub mains-all : (block : List (List ℕ)) (entry : BlockPlan) (out : List ℕ) → length out ≡ 32_768 → take (2048 * 16) out ≡ mains block entry 16
    → out ≡ flat_map (λ sector. sector) (main_data block entry)
unfolding main_data
mains-all block entry out size all = sym (take_all 32_768 out (omega arith)) ∙ all

-- a list with 0 at each place is one of zeros
pub all-zeros : (xs : List ℕ) → length xs ≡ 32_768 → ((k : ℕ) → k < 32_767 → get_or xs k 0 ≡ 0) → ((k : ℕ) → k ≡ 32_767 → get_or xs k 0 ≡ 0)
    → xs ≡ replicate 32_768 0
all-zeros xs size before last =
    same_number_lists xs (replicate 32_768 0) (size ∙ sym (length-replicate {A = ℕ} 32_768 0))
    (λ k within. at-place k (omega arith) (cases_eq k 32_767) ∙ sym (get_or-replicate 32_768 k 0 0 (omega arith))) where
      -- by whether the place is the last
      at-place : (k : ℕ) → k < 32_768 → ((k ≡ 32_767) ⊎ (k ≢ 32_767)) → get_or xs k 0 ≡ 0
      at-place k below (inl same) = last k same
      at-place k below (inr other) = before k (omega arith)

-- what is written over a whole list
pub all-written : (n : ℕ) (new rest : List ℕ) → length new ≡ n → take n (new ++ rest) ≡ new
all-written n new rest size = ap (λ k. take k (new ++ rest)) (sym size) ∙ take-append_seam new rest
