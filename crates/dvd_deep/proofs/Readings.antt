-- What is read by rounds, compared with what two passes answer.
use Rattle.std.proofs.Common.{◌≡◌, ◌∙◌, ℕ, Bool, true, List, length, refl, sym, ap, Some, None, is_some}
use Rattle.std.specs.Option.{option_map, option_or}
use Rattle.std.specs.declared.option.Option.{Option}
use Rattle.coding.specs.TwoPass.{answers_of}
use Rattle.dvd_capture.proofs.Columns.{length-answers_of}
use Rattle.dvd_layout.specs.declared.entry.BlockPlan.{BlockPlan}
use Rattle.dvd_decoding.specs.Causes.{two_pass_cause}
use Rattle.dvd_decoding.specs.Frames.{frames_cause, main_data}
use Rattle.dvd_decoding.specs.Reading.{IsReadAs, block_cause, block_in, block_sectors}
use Rattle.dvd_decoding.specs.declared.cause.Cause.{Cause}
use Rattle.dvd_read.proofs.BlockRead.{no_cause-read}
use Rattle.dvd_read.proofs.Outcomes.{no_cause-agrees}
use Rattle.dvd_deep.specs.Reading.{IsDeep, cause_by, deep_cause}
use Rattle.dvd_deep.specs.Rounds.{after_rounds, deep_block, deep_round, state_in}
use Rattle.dvd_deep.proofs.RoundOne.{two_pass_first}

-- the cause, by the block that was found
pub cause-found : (received : List (List ℕ)) (marks : List (List Bool)) (entry : BlockPlan) (block : List (List ℕ)) → deep_block received marks ≡ Some block
    → deep_cause received marks entry ≡ frames_cause block entry
unfolding deep_cause
cause-found received marks entry block is = ap (cause_by received marks entry) is

-- or where none was
pub cause-none : (received : List (List ℕ)) (marks : List (List Bool)) (entry : BlockPlan) → deep_block received marks ≡ None
    → deep_cause received marks entry ≡ block_cause received marks entry
unfolding deep_cause
cause-none received marks entry is = ap (cause_by received marks entry) is

-- where no round finishes, the cause is that of two passes
pub cause-unfound : (received : List (List ℕ)) (marks : List (List Bool)) (entry : BlockPlan) → deep_round received marks ≡ None
    → deep_cause received marks entry ≡ block_cause received marks entry
cause-unfound received marks entry is =
    cause-none received marks entry (ap (option_map (λ n. (after_rounds n (state_in received marks)).rows)) is)

-- what is read by two passes is read by round 1
pub read-deep : (received : List (List ℕ)) (marks : List (List Bool)) (entry : BlockPlan) (sectors : List (List ℕ)) → length received ≡ 208 → length marks ≡ 208
    → IsReadAs received marks entry sectors → IsDeep received marks entry 1 sectors
read-deep received marks entry sectors height marks_height read =
    let found = two_pass_first received marks read.block height marks_height read.agrees in
    record { block = read.block; first = found.0; gives = found.1; right = read.right; main = read.main }

-- what is read by rounds is one
pub deep-once : (received : List (List ℕ)) (marks : List (List Bool)) (entry : BlockPlan) (s t : ℕ) (one other : List (List ℕ)) → IsDeep received marks entry s one
    → IsDeep received marks entry t other → (s ≡ t) × (one ≡ other)
deep-once received marks entry s t one other p q =
    let rounds : s ≡ t = (let is : Some s ≡ Some t = sym p.first ∙ q.first in cc) in
    let blocks : p.block ≡ q.block = (let is : Some p.block ≡ Some q.block = sym p.gives ∙ q.gives in cc) in
    (rounds, p.main ∙ ap (λ block. main_data block entry) blocks ∙ sym q.main)

-- and has no cause
pub deep-no_cause : (received : List (List ℕ)) (marks : List (List Bool)) (entry : BlockPlan) (t : ℕ) (sectors : List (List ℕ)) → IsDeep received marks entry t sectors
    → deep_cause received marks entry ≡ None
deep-no_cause received marks entry t sectors read = cause-found received marks entry read.block read.gives ∙ read.right

-- a block that two passes refuse for its frames is refused by rounds too
refused-by : (received : List (List ℕ)) (marks : List (List Bool)) (entry : BlockPlan) (cause : Cause) (block : List (List ℕ)) (passes : Option Cause)
    → length received ≡ 208 → length marks ≡ 208 → two_pass_cause (answers_of received marks) ≡ passes → block_cause received marks entry ≡ Some cause
    → deep_block received marks ≡ Some block → frames_cause block entry ≡ None → is_some passes ≡ true
unfolding block_cause
refused-by received marks entry cause block (Some first) height marks_height is refused gives right = refl
refused-by received marks entry cause block None height marks_height is refused gives right =
    let agrees = no_cause-agrees (answers_of received marks) (length-answers_of received marks 208 height marks_height) is in
    let found = (two_pass_first received marks (block_in received marks) height marks_height agrees).1 in
    let same : block ≡ block_in received marks = (let are : Some block ≡ Some (block_in received marks) = sym gives ∙ found in cc) in
    let none : frames_cause (block_in received marks) entry ≡ None = ap (λ b. frames_cause b entry) (sym same) ∙ right in
    let two : None ≡ Some cause = sym (ap (λ first. option_or first (frames_cause (block_in received marks) entry)) is ∙ none) ∙ refused in
    cc

-- so what rounds give back of a block that was refused, the two passes refused
pub deep-refused : (received : List (List ℕ)) (marks : List (List Bool)) (entry : BlockPlan) (cause : Cause) (block : List (List ℕ))
    → length received ≡ 208 → length marks ≡ 208 → block_cause received marks entry ≡ Some cause
    → deep_block received marks ≡ Some block → frames_cause block entry ≡ None → is_some (two_pass_cause (answers_of received marks)) ≡ true
deep-refused received marks entry cause block height marks_height refused gives right =
    refused-by received marks entry cause block (two_pass_cause (answers_of received marks)) height marks_height refl refused gives right

-- what rounds have no cause for is read
some-by : (received : List (List ℕ)) (marks : List (List Bool)) (entry : BlockPlan) (found : Option ℕ) → length received ≡ 208 → length marks ≡ 208
    → deep_round received marks ≡ found → deep_cause received marks entry ≡ None → (t : ℕ) × (sectors : List (List ℕ)) × IsDeep received marks entry t sectors
some-by received marks entry (Some t) height marks_height is none =
    let block : List (List ℕ) = (after_rounds t (state_in received marks)).rows in
    let gives : deep_block received marks ≡ Some block = ap (option_map (λ n. (after_rounds n (state_in received marks)).rows)) is in
    (t, main_data block entry, record { block = block; first = is; gives = gives; right = sym (cause-found received marks entry block gives) ∙ none; main = refl })
some-by received marks entry None height marks_height is none =
    let gives : deep_block received marks ≡ None = ap (option_map (λ n. (after_rounds n (state_in received marks)).rows)) is in
    let read = no_cause-read received marks entry height marks_height (sym (cause-none received marks entry gives) ∙ none) in
    (1, block_sectors received marks entry, read-deep received marks entry (block_sectors received marks entry) height marks_height read)

-- a block that rounds have no cause for is read, by a round and with sectors
pub deep-some : (received : List (List ℕ)) (marks : List (List Bool)) (entry : BlockPlan) → length received ≡ 208 → length marks ≡ 208
    → deep_cause received marks entry ≡ None → (t : ℕ) × (sectors : List (List ℕ)) × IsDeep received marks entry t sectors
deep-some received marks entry height marks_height none = some-by received marks entry (deep_round received marks) height marks_height refl none
