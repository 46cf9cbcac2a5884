-- The proof of `decode_after_zeros` in src/general.rt.
use Rattle.std.proofs.Common.{◌≡◌, ℕ, ◌+◌, ◌-◌, Bool, false, List, length, take, drop, replicate, refl, subst, sym, ap, ◌∙◌, arith}
use Rattle.std.proofs.lemmas.List.{length-drop, length-replicate, length-take-le, take_all, take_at}
use Rattle.std.proofs.lemmas.Bool.{false≢true}
use Rattle.std.specs.Prelude.{IsTrue, Some, None, unwrap_or}
use Rattle.coding.specs.Filling.{marked}
use Rattle.coding.specs.Nearest.{near_of}
use Rattle.rs_decode.specs.Errors.{error_count}
use Rattle.dvdecc_c.specs.Words.{lost_marks, with_correction, word_status}
use Rattle.dvdecc_c.specs.declared.words.Correction.{Correction}
use Rattle.dvdecc_c.proofs.AfterZeros.{begins-zeros, errors-zeros_and, found, found-none, kept_and, length-lost_marks, marked-kept_and, marks-zeros_and, status-some, status-word, zeros_and}
use Rattle.dvdecc_c.proofs.general.decode_after_zeros.Given.{Over}
use Rattle.dvdecc_c.proofs.general.decode_after_zeros.Goals as goal

-- the codeword near the longer word, by the word that it ends with
longer : (k n r : ℕ) (word lost whole whole_lost : List ℕ) → 255 ≡ k + n → whole ≡ zeros_and k word → whole_lost ≡ zeros_and k lost
    → near_of 255 r whole (lost_marks whole_lost) ≡ near_of (k + n) r (zeros_and k word) (kept_and k (lost_marks lost))
longer k n r word lost whole whole_lost sum is lost_is =
    ap (λ t. near_of t r whole (lost_marks whole_lost)) sum
    ∙ ap (λ (received : List ℕ). near_of (k + n) r received (lost_marks whole_lost)) is
    ∙ ap (λ (marks : List Bool). near_of (k + n) r (zeros_and k word) marks) (ap lost_marks lost_is ∙ marks-zeros_and k lost)

-- what was found, where the status is 0 and the front is zeros
accepted : (k n r : ℕ) (word lost whole whole_lost full : List ℕ) → 255 ≡ k + n → length word ≡ n → length lost ≡ n
    → whole ≡ zeros_and k word → whole_lost ≡ zeros_and k lost
    → word_status (near_of 255 r whole (lost_marks whole_lost)) ≡ 0 → full ≡ unwrap_or (near_of 255 r whole (lost_marks whole_lost)) whole
    → take k full ≡ replicate k 0 → near_of n r word (lost_marks lost) ≡ Some (drop k full)
accepted k n r word lost whole whole_lost full sum size lost_size is lost_is status full_is prefix =
    found k n r word full (lost_marks lost) (omega arith) size (length-lost_marks lost ∙ lost_size)
    (sym (longer k n r word lost whole whole_lost sum is lost_is)
    ∙ status-some (near_of 255 r whole (lost_marks whole_lost)) whole status ∙ ap Some (sym full_is))
    prefix

-- and that nothing was, where the status isn't 0
refused-status : (k n r : ℕ) (word lost whole whole_lost : List ℕ) → 255 ≡ k + n → length word ≡ n → length lost ≡ n
    → whole ≡ zeros_and k word → whole_lost ≡ zeros_and k lost
    → (word_status (near_of 255 r whole (lost_marks whole_lost)) ≡ 0 → ⊥) → near_of n r word (lost_marks lost) ≡ None
refused-status k n r word lost whole whole_lost sum size lost_size is lost_is status =
    found-none k n r word (lost_marks lost) (omega arith) size (length-lost_marks lost ∙ lost_size)
    (λ other there. status (status-word _ (zeros_and k other) (longer k n r word lost whole whole_lost sum is lost_is ∙ there)))

-- or the front isn't zeros
refused-zeros : (k n r : ℕ) (word lost whole whole_lost full : List ℕ) → 255 ≡ k + n → length word ≡ n → length lost ≡ n
    → whole ≡ zeros_and k word → whole_lost ≡ zeros_and k lost → full ≡ unwrap_or (near_of 255 r whole (lost_marks whole_lost)) whole
    → (take k full ≡ replicate k 0 → ⊥) → near_of n r word (lost_marks lost) ≡ None
refused-zeros k n r word lost whole whole_lost full sum size lost_size is lost_is full_is prefix =
    found-none k n r word (lost_marks lost) (omega arith) size (length-lost_marks lost ∙ lost_size)
    (λ other there.
    let full_ends : full ≡ zeros_and k other =
    full_is ∙ ap (λ near. unwrap_or near whole) (longer k n r word lost whole whole_lost sum is lost_is ∙ there) in
    prefix (ap (take k) full_ends ∙ take_at (replicate {A = ℕ} k 0) other k (length-replicate {A = ℕ} k 0)))

-- what is reported of the longer word is reported of the word
told-zeros : (k n r : ℕ) (word lost whole whole_lost full : List ℕ) (before : Correction) → 255 ≡ k + n → length word ≡ n → length lost ≡ n
    → whole ≡ zeros_and k word → whole_lost ≡ zeros_and k lost
    → word_status (near_of 255 r whole (lost_marks whole_lost)) ≡ 0 → full ≡ unwrap_or (near_of 255 r whole (lost_marks whole_lost)) whole
    → take k full ≡ replicate k 0
    → with_correction (near_of 255 r whole (lost_marks whole_lost)) whole (lost_marks whole_lost) before
    ≡ with_correction (near_of n r word (lost_marks lost)) word (lost_marks lost) before
told-zeros k n r word lost whole whole_lost full before sum size lost_size is lost_is status full_is prefix =
    let is_found : near_of 255 r whole (lost_marks whole_lost) ≡ Some full =
    status-some (near_of 255 r whole (lost_marks whole_lost)) whole status ∙ ap Some (sym full_is) in
    let is_short : near_of n r word (lost_marks lost) ≡ Some (drop k full) =
    accepted k n r word lost whole whole_lost full sum size lost_size is lost_is status full_is prefix in
    let marks : lost_marks whole_lost ≡ kept_and k (lost_marks lost) = ap lost_marks lost_is ∙ marks-zeros_and k lost in
    let errors : error_count whole full (lost_marks whole_lost) ≡ error_count word (drop k full) (lost_marks lost) =
    ap (λ (received : List ℕ). error_count received full (lost_marks whole_lost)) is
    ∙ ap (λ (other : List ℕ). error_count (zeros_and k word) other (lost_marks whole_lost)) (begins-zeros k full prefix)
    ∙ ap (error_count (zeros_and k word) (zeros_and k (drop k full))) marks
    ∙ errors-zeros_and k word (drop k full) (lost_marks lost) in
    let erasures : marked (lost_marks whole_lost) ≡ marked (lost_marks lost) = ap marked marks ∙ marked-kept_and k (lost_marks lost) in
    ap (λ near. with_correction near whole (lost_marks whole_lost) before) is_found
    ∙ ap (λ (n : ℕ). record { errors = n; erasures = marked (lost_marks whole_lost) }) errors
    ∙ ap (λ (n : ℕ). record { errors = error_count word (drop k full) (lost_marks lost); erasures = n }) erasures
    ∙ sym (ap (λ near. with_correction near word (lost_marks lost) before) is_short)

-- the lost places of a word are as many as its bytes, so as many zeros come before them
lost_after : (word lost whole_lost : List ℕ) → length lost ≡ length word → whole_lost ≡ zeros_and (255 - length lost) lost
    → whole_lost ≡ zeros_and (255 - length word) lost
lost_after word lost whole_lost same is = is ∙ ap (λ (m : ℕ). zeros_and (255 - m) lost) same

-- a test isn't both
not_both : {b : Bool} → IsTrue b → b ≡ false → ⊥
not_both is_true is_false = false≢true (sym is_false ∙ is_true)

-- nothing is near, since nothing is near the longer word
none-Then-status-ne-OK : (g : Over) (c : goal.Then-status-ne-OK g) → near_of (length c.args.word.now) c.args.parity c.args.word.now (lost_marks c.args.lost.now) ≡ None
none-Then-status-ne-OK g c =
    let word = c.args.word.now in
    let lost = c.args.lost.now in
    let n : ℕ = length word in
    subst (λ (p : ℕ). near_of n p word (lost_marks lost) ≡ None) (sym c.requires.parity)
    (refused-status (255 - n) n g.row.R word lost c.after_zeros-whole.result c.after_zeros.result (omega arith) refl c.requires.lost c.after_zeros-whole.ensures
    (lost_after word lost c.after_zeros.result c.requires.lost c.after_zeros.ensures)
    (λ is. c.if-status-ne-OK.true (c.decode_word-status.ensures.status ∙ is)))

-- nothing is near, since what is near the longer word begins otherwise
none-Then-not-are_zeros : (g : Over) (c : goal.Then-not-are_zeros g) → near_of (length c.args.word.now) c.args.parity c.args.word.now (lost_marks c.args.lost.now) ≡ None
none-Then-not-are_zeros g c =
    let word = c.args.word.now in
    let lost = c.args.lost.now in
    let n : ℕ = length word in
    subst (λ (p : ℕ). near_of n p word (lost_marks lost) ≡ None) (sym c.requires.parity)
    (refused-zeros (255 - n) n g.row.R word lost c.after_zeros-whole.result c.after_zeros.result c.decode_word-status.new.word (omega arith) refl c.requires.lost c.after_zeros-whole.ensures
    (lost_after word lost c.after_zeros.result c.requires.lost c.after_zeros.ensures) c.decode_word-status.ensures.word
    (λ prefix. not_both (c.are_zeros.ensures.1 (prefix ∙ ap (λ (m : ℕ). replicate m 0)
    (sym (length-take-le (255 - n) c.decode_word-status.new.word (omega (arith, c.decode_word-status.array_long)))))) c.if-not-are_zeros.true))

pub returns-then-status-ne-OK-clause-status : goal.returns-then-status-ne-OK-clause-status
returns-then-status-ne-OK-clause-status g c = rw (none-Then-status-ne-OK g c) refl

pub returns-then-status-ne-OK-clause-word : goal.returns-then-status-ne-OK-clause-word
returns-then-status-ne-OK-clause-word g c = rw (none-Then-status-ne-OK g c) refl

pub returns-then-status-ne-OK-clause-correction : goal.returns-then-status-ne-OK-clause-correction
returns-then-status-ne-OK-clause-correction g c = rw (none-Then-status-ne-OK g c) refl

pub returns-then-not-are_zeros-clause-status : goal.returns-then-not-are_zeros-clause-status
returns-then-not-are_zeros-clause-status g c = rw (none-Then-not-are_zeros g c) refl

pub returns-then-not-are_zeros-clause-word : goal.returns-then-not-are_zeros-clause-word
returns-then-not-are_zeros-clause-word g c = rw (none-Then-not-are_zeros g c) refl

pub returns-then-not-are_zeros-clause-correction : goal.returns-then-not-are_zeros-clause-correction
returns-then-not-are_zeros-clause-correction g c = rw (none-Then-not-are_zeros g c) refl

-- what was found: the end of the longer word, whose front is zeros
module _ (g : Over) (c : goal.After-slice_known-2-1 g) where
  abbrev n : ℕ
  n = length c.args.word.now

  lost_is : c.after_zeros.result ≡ zeros_and (255 - n) c.args.lost.now
  lost_is = lost_after c.args.word.now c.args.lost.now c.after_zeros.result c.requires.lost c.after_zeros.ensures

  prefix : take (255 - n) c.decode_word-status.new.word ≡ replicate (255 - n) 0
  prefix =
      c.are_zeros.ensures.0 c.if-not-are_zeros.false
      ∙ ap (λ (m : ℕ). replicate m 0) (length-take-le (255 - n) c.decode_word-status.new.word (omega (arith, c.decode_word-status.array_long)))

  status : word_status (near_of 255 g.row.R c.after_zeros-whole.result (lost_marks c.after_zeros.result)) ≡ 0
  status = sym c.decode_word-status.ensures.status ∙ c.if-status-ne-OK.false

  end : c.copy_from_slice.new.self ≡ drop (255 - n) c.decode_word-status.new.word
  end = c.copy_from_slice.ensures.after
      ∙ take_all (255 - (255 - n)) (drop (255 - n) c.decode_word-status.new.word)
      (omega (arith, length-drop (255 - n) c.decode_word-status.new.word, c.decode_word-status.array_long))

  is_found : near_of n c.args.parity c.args.word.now (lost_marks c.args.lost.now) ≡ Some c.copy_from_slice.new.self
  is_found =
      subst (λ (p : ℕ). near_of n p c.args.word.now (lost_marks c.args.lost.now) ≡ Some c.copy_from_slice.new.self) (sym c.requires.parity)
      (accepted (255 - n) n g.row.R c.args.word.now c.args.lost.now c.after_zeros-whole.result c.after_zeros.result c.decode_word-status.new.word
      (omega arith) refl c.requires.lost c.after_zeros-whole.ensures lost_is status c.decode_word-status.ensures.word prefix
      ∙ ap Some (sym end))

  is_told : c.decode_word-status.new.correction
      ≡ with_correction (near_of n c.args.parity c.args.word.now (lost_marks c.args.lost.now)) c.args.word.now (lost_marks c.args.lost.now) c.args.correction.now
  is_told =
      subst (λ (p : ℕ). c.decode_word-status.new.correction
      ≡ with_correction (near_of n p c.args.word.now (lost_marks c.args.lost.now)) c.args.word.now (lost_marks c.args.lost.now) c.args.correction.now) (sym c.requires.parity)
      (c.decode_word-status.ensures.correction
      ∙ told-zeros (255 - n) n g.row.R c.args.word.now c.args.lost.now c.after_zeros-whole.result c.after_zeros.result c.decode_word-status.new.word
      c.args.correction.now (omega arith) refl c.requires.lost c.after_zeros-whole.ensures lost_is status c.decode_word-status.ensures.word prefix)

pub returns-clause-status : goal.returns-clause-status
returns-clause-status g c = rw (is_found g c) refl

pub returns-clause-word : goal.returns-clause-word
returns-clause-word g c = rw (is_found g c) refl

pub returns-clause-correction : goal.returns-clause-correction
returns-clause-correction g c = is_told g c
