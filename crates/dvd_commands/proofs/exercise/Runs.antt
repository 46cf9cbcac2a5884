-- The blocks that are drawn from a seed are there, and they are one.
use Rattle.std.proofs.Common.{◌≡◌, ◌∙◌, ℕ, zero, suc, ◌+◌, ◌*◌, ◌/◌, ◌%◌, ◌^◌, ◌<◌, true, false, cond, List, [], ◌∷◌, ◌++◌, length, length-append, get_or, replicate, refl, sym, ap, subst, arith, add-one, bit_xor}
use Rattle.std.proofs.Math.Nat.{mod-lt}
use Rattle.std.proofs.lemmas.List.{ext_get_or, length-replicate}
use Rattle.std.proofs.lemmas.List.Elements.{All-from_get_or}
use Rattle.std.proofs.lemmas.Nat.{xor_lt}
use Rattle.dvd_block.proofs.OneBlock.{one_block_at_most, some_block}
use Rattle.coding.specs.Product.{line}
use Rattle.dvd_exercise.specs.Damage.{IsHurt, drawn_errors, is_hit, row_state}
use Rattle.dvd_exercise.specs.Generator.{drawn_byte, bytes_from, state_after, step}
use Rattle.dvd_exercise.proofs.Draws.{get_or-bytes_from, length-bytes_from}
use Rattle.dvd_exercise.proofs.OnlyOne.{hurt_once}
use Rattle.dvd_exercise.proofs.SomeHurt.{some_hurt}
use Rattle.dvd_loop.specs.Machine.{Step}
use Rattle.dvd_loop.specs.Machine.Step.{Write}
use Rattle.dvd_commands.specs.Exercise.{AreTrials, IsExercised, IsHurtBlock, Trial, drawn_frames, drawn_sector, exercise_line, failed_in, fixed_in, no_marks, state_at}
use Rattle.dvd_commands.proofs.exercise.Blocks.{line-drawn}
use Rattle.dvd_commands.proofs.exercise.Trials.{trials_more}
use Rattle.dvd_commands.proofs.FrameBytes.{HasBytes, IsByte, bytes-frame, bytes-part, bytes-replicate}

-- a block that is used nowhere
no_trial : Trial
no_trial = record { block = []; rows = []; marks = [] }

-- one state makes and hurts a block in one way
trial_is_one : (k x : ℕ) (a b : Trial) → IsHurtBlock k x a.block a.rows a.marks → IsHurtBlock k x b.block b.rows b.marks → a ≡ b
trial_is_one k x a b p q =
    let block : a.block ≡ b.block = one_block_at_most (drawn_frames k (bytes_from x 32768)) a.block b.block p.made q.made in
    let hurt = hurt_once (state_after x 32768) b.block no_marks a.rows b.rows a.marks b.marks q.made.product.height
    (subst (λ l. IsHurt (state_after x 32768) l no_marks a.rows a.marks) block p.hurt) q.hurt in
    λ i. record { block = block i; rows = hurt.0 i; marks = hurt.1 i }

-- and one seed makes one list of blocks
trials_are_one : (seed : ℕ) (a b : List Trial) → length a ≡ length b → AreTrials seed a → AreTrials seed b → a ≡ b
trials_are_one seed a b size p q =
    ext_get_or no_trial a b size (λ k below. trial_is_one k (state_at seed k) (get_or a k no_trial) (get_or b k no_trial) (p k no_trial below) (q k no_trial (omega (arith, size))))

-- so is the line
pub exercised_is_one : (seed blocks : ℕ) (steps others : List Step) → IsExercised seed blocks steps → IsExercised seed blocks others → steps ≡ others
exercised_is_one seed blocks steps others p q =
    let trials = trials_are_one seed p.trials q.trials (p.count ∙ sym q.count) p.are q.are in
    p.writes ∙ ap (λ t. Write (exercise_line seed blocks blocks (fixed_in t) (failed_in t)) ∷ []) trials ∙ sym q.writes

-- numbers of 64 bits
abbrev IsState : ℕ → Type 0
IsState x = x < 2 ^ 64

-- a step of the generator leaves such a number
step-lt : (x : ℕ) → IsState x → IsState (step x)
unfolding step
step-lt x below =
    let y = bit_xor x (x * 2 ^ 13 % 2 ^ 64) in
    let y_below : IsState y = xor_lt 64 x (x * 2 ^ 13 % 2 ^ 64) below (mod-lt (x * 2 ^ 13) (omega arith)) in
    let z = bit_xor y (y / 2 ^ 7) in
    let z_below : IsState z = xor_lt 64 y (y / 2 ^ 7) y_below (omega (arith, y_below)) in
    xor_lt 64 z (z * 2 ^ 17 % 2 ^ 64) z_below (mod-lt (z * 2 ^ 17) (omega arith))

-- and so do several steps
state_after-lt : (x n : ℕ) → IsState x → IsState (state_after x n)
unfolding state_after
state_after-lt x zero below = below
state_after-lt x (suc n) below = step-lt (state_after x n) (state_after-lt x n below)

-- the states that the rows of a block begin with are such numbers
row_state-lt : (start n y row : ℕ) → IsState y → IsState (row_state start n y row)
unfolding row_state
row_state-lt start n y zero below = below
row_state-lt start n y (suc row) below =
    let before = row_state-lt start n y row below in
    let words = 2 + drawn_errors (row_state start n y row) in
    elim (is_hit start n row) as (λ hit. IsState (cond hit (row_state start n y row) (state_after (row_state start n y row) words))) [
      | true ↦ before
      | false ↦ state_after-lt (row_state start n y row) words before
    ]

-- and those that the blocks begin with
state_at-lt : (seed k : ℕ) → IsState (state_at seed k)
unfolding state_at
state_at-lt seed zero = mod-lt (seed + 1) (omega arith)
state_at-lt seed (suc k) =
    row_state-lt _ _ _ 208 (state_after-lt _ _ (state_after-lt _ 3 (state_after-lt (state_at seed k) 32768 (state_at-lt seed k))))

-- what is drawn are bytes
byte_at-lt : (x k : ℕ) → IsState x → drawn_byte x k < 256
unfolding drawn_byte
byte_at-lt x k below = let drawn = state_after-lt x (k + 1) below in omega (arith, drawn)

-- a list that is drawn has so many bytes
bytes-drawn : (x n : ℕ) → IsState x → HasBytes n (bytes_from x n)
bytes-drawn x n below = record {
  size = length-bytes_from x n;
  bytes = All-from_get_or IsByte (bytes_from x n) 0 (λ k within.
      subst IsByte (sym (get_or-bytes_from x n k (omega (arith, length-bytes_from x n)))) (byte_at-lt x k below));
}

-- the frames of a block are made of bytes
bytes-drawn_frame : (k x f : ℕ) → IsState x → f < 16 → HasBytes 2064 (line (drawn_frames k (bytes_from x 32768)) f)
bytes-drawn_frame k x f below within =
    subst (HasBytes 2064) (sym (line-drawn k f (bytes_from x 32768) within))
    (bytes-frame _ (replicate 6 0) _ (drawn_sector (bytes_from x 32768) f) (bytes-replicate 6 0 (omega arith))
    (bytes-part (2048 * f) 2048 32768 (bytes_from x 32768) (omega arith) (bytes-drawn x 32768 below)))

-- so it has a block, which can be hurt
some_trial : (k x : ℕ) → IsState x → (trial : Trial) × IsHurtBlock k x trial.block trial.rows trial.marks
some_trial k x below =
    let frames = drawn_frames k (bytes_from x 32768) in
    let made = some_block frames (λ f within. (bytes-drawn_frame k x f below within).size) (λ f within. (bytes-drawn_frame k x f below within).bytes) in
    let product = made.1.product in
    let hurt = some_hurt (state_after x 32768) made.0 no_marks product.height (length-replicate 208 (replicate 182 false)) (λ i default inside. (product.rows i default inside).size) in
    (record { block = made.0; rows = hurt.0; marks = hurt.1 }, record { made = made.1; hurt = hurt.2 })

-- and so there are any number of blocks
some_trials : (seed n : ℕ) → (trials : List Trial) × (length trials ≡ n) × AreTrials seed trials
some_trials seed zero = ([], refl, λ k default below. absurd (omega arith))
some_trials seed (suc n) =
    let before = some_trials seed n in
    let last = some_trial n (state_at seed n) (state_at-lt seed n) in (
      before.0 ++ last.0 ∷ [],
      length-append before.0 (last.0 ∷ []) ∙ ap (λ m. m + 1) before.1 ∙ add-one n,
      trials_more seed n before.0 last.0 before.1 before.2 last.1,
    )

-- and so is the line
pub exercised_some : (seed blocks : ℕ) → (steps : List Step) × IsExercised seed blocks steps
exercised_some seed blocks = let all = some_trials seed blocks in (_, record { trials = all.0; count = all.1; are = all.2; writes = refl })
