-- One CD-ROM sector that is made, and one that is read: what is done for it is one thing, and there is something.
use Rattle.std.proofs.Common.{◌≡◌, ◌≢◌, ◌⊎◌, inl, inr, ℕ, zero, suc, ◌<◌, List, [], ◌∷◌, ◌++◌, length, take, drop, All, refl, ap, sym, subst, ◌∙◌, arith}
use Rattle.std.specs.Prelude.{replicate, slice_index}
use Rattle.std.proofs.lemmas.Bool.{cases_eq, cases_lt}
use Rattle.std.proofs.lemmas.List.Elements.{All-cons, All-nil}
use Rattle.coding.specs.Field.{alpha, power}
use Rattle.coding.specs.Words.{IsByte, IsCodeword, value}
use Rattle.cd_sector.specs.Causes.{AreRightBelow, IsCause, IsRightSector, found_header, found_number}
use Rattle.cd_sector.specs.Edc.{cd_edc_of}
use Rattle.cd_sector.specs.Repair.{repaired}
use Rattle.cd_sector.specs.Sector.{header, sync}
use Rattle.cd_sector.specs.Words.{IsRight, sector_word, word_size}
use Rattle.cd_sector.specs.declared.checking.CdCause.{CdCause}
use Rattle.cd_sector.specs.declared.checking.CdCause.TheVariants.{Parity, Mode, Address, Edc}
use Rattle.cd_sector.proofs.OneSector.{no_cause}
use Rattle.cd_sector.proofs.Places.{length-sector_word}
use Rattle.dvd_loop.specs.Machine.{Step}
use Rattle.dvd_loop.specs.Machine.Step.{Report, Write}
use Rattle.dvd_loop.specs.declared.ends.UnitKind.{UnitKind}
use Rattle.dvd_loop.specs.declared.ends.UnitKind.TheVariants.{Bad, Good}
use Rattle.dvd_commands.specs.CdLines.{damaged_sector_line}
use Rattle.dvd_commands.specs.CdRead.{IsSectorRead, user_data}

-- ONE THING. The least word that isn't right is one.
least_is_one : (sector : List ℕ) (a b : ℕ) → (IsRight sector a → ⊥) → AreRightBelow a sector → (IsRight sector b → ⊥) → AreRightBelow b sector → a ≡ b
least_is_one sector a b a_wrong a_below b_wrong b_below = elim (cases_lt a b) [
  | inl less ↦ absurd (a_wrong (b_below a less))
  | inr le ↦ elim (cases_lt b a) [
    | inl more ↦ absurd (b_wrong (a_below b more))
    | inr ge ↦ omega arith
  ]
]

-- A sector has one cause at most: the first that applies.
pub one_cause : (sector : List ℕ) (address : ℕ) (a b : CdCause) → IsCause sector address a → IsCause sector address b → a ≡ b
one_cause sector address (Parity v) (Parity w) p q = ap (λ n. Parity n) (least_is_one sector v w p.1 p.2 q.1 q.2)
one_cause sector address (Parity v) (Mode byte) p q = absurd (p.1 (q.0 v p.0))
one_cause sector address (Parity v) (Address found) p q = absurd (p.1 (q.0 v p.0))
one_cause sector address (Parity v) Edc p q = absurd (p.1 (q.0 v p.0))
one_cause sector address (Mode byte) (Parity w) p q = absurd (q.1 (p.0 w q.0))
one_cause sector address (Mode byte) (Mode other) p q = ap (λ n. Mode n) (sym p.1 ∙ q.1)
one_cause sector address (Mode byte) (Address found) p q = absurd (p.2 (sym p.1 ∙ q.1))
one_cause sector address (Mode byte) Edc p q = absurd (p.2 (sym p.1 ∙ q.1))
one_cause sector address (Address found) (Parity w) p q = absurd (q.1 (p.0 w q.0))
one_cause sector address (Address found) (Mode byte) p q = absurd (q.2 (sym q.1 ∙ p.1))
one_cause sector address (Address found) (Address other) p q = ap (λ n. Address n) (sym p.2 ∙ q.2)
one_cause sector address (Address found) Edc p q = absurd (p.3 q.2)
one_cause sector address Edc (Parity w) p q = absurd (q.1 (p.0 w q.0))
one_cause sector address Edc (Mode byte) p q = absurd (q.2 (sym q.1 ∙ p.1))
one_cause sector address Edc (Address found) p q = absurd (q.3 p.2)
one_cause sector address Edc Edc p q = refl

-- what is done for a sector that is read is one thing
pub read_is_one : (address k : ℕ) (read : List ℕ) (steps others : List Step) (kind other : UnitKind) → IsSectorRead address k read steps kind
    → IsSectorRead address k read others other → (steps ≡ others) × (kind ≡ other)
read_is_one address k read steps others kind other p q = elim p [
  | inl given ↦ elim q [
    | inl same ↦ (given.writes ∙ sym same.writes, given.good ∙ sym same.good)
    | inr refused ↦ absurd (no_cause (repaired read) address refused.cause given.faultless refused.is_cause)
  ]
  | inr refused ↦ elim q [
    | inl given ↦ absurd (no_cause (repaired read) address refused.cause given.faultless refused.is_cause)
    | inr same ↦ (
      refused.reports ∙ ap (λ c. Report (damaged_sector_line k c) ∷ Write (replicate 2048 0) ∷ []) (one_cause (repaired read) address refused.cause same.cause refused.is_cause same.is_cause) ∙ sym same.reports,
      refused.bad ∙ sym same.bad,
    )
  ]
]

-- SOMETHING. It can be found out of lists whether they are the same, of numbers whether they are bytes, and of words
-- whether they are codewords.
same_or_not : (xs ys : List ℕ) → (xs ≡ ys) ⊎ (xs ≢ ys)
same_or_not [] [] = inl refl
same_or_not [] (y ∷ ys) = inr (λ is. cc)
same_or_not (x ∷ xs) [] = inr (λ is. cc)
same_or_not (x ∷ xs) (y ∷ ys) = elim (cases_eq x y) [
  | inl first ↦ elim (same_or_not xs ys) [
    | inl rest ↦ inl (cc)
    | inr not ↦ inr (λ is. not (ap (drop 1) is))
  ]
  | inr not ↦ inr (λ is. not (let both : (x ∷ xs) ≡ (y ∷ ys) = is in cc))
]

-- numbers are all bytes, or they aren't
bytes_or_not : (xs : List ℕ) → All IsByte xs ⊎ (All IsByte xs → ⊥)
bytes_or_not [] = inl (All-nil IsByte)
bytes_or_not (x ∷ xs) = elim (cases_lt x 256) [
  | inl byte ↦ elim (bytes_or_not xs) [
    | inl rest ↦ inl (All-cons IsByte x xs byte rest)
    | inr not ↦ inr (λ all. not (λ i d within. all (suc i) d (omega arith)))
  ]
  | inr large ↦ inr (λ all. let byte : x < 256 = all 0 0 (omega arith) in omega arith)
]

-- a word is a codeword with two parity bytes, or it isn't
codeword_or_not : (n : ℕ) (word : List ℕ) → length word ≡ n → IsCodeword n 2 word ⊎ (IsCodeword n 2 word → ⊥)
codeword_or_not n word size = elim (bytes_or_not word) [
  | inr not ↦ inr (λ is. not is.bytes)
  | inl bytes ↦ elim (cases_eq (value word (power alpha 0)) 0) [
    | inr not ↦ inr (λ is. not (is.vanishes 0 (omega arith)))
    | inl first ↦ elim (cases_eq (value word (power alpha 1)) 0) [
      | inr not ↦ inr (λ is. not (is.vanishes 1 (omega arith)))
      | inl second ↦ inl (record { size = size; bytes = bytes; vanishes = both first second })
    ]
  ]
]
  where
    both : value word (power alpha 0) ≡ 0 → value word (power alpha 1) ≡ 0 → (k : ℕ) → k < 2 → value word (power alpha k) ≡ 0
    both first second zero below = first
    both first second (suc zero) below = second
    both first second (suc (suc k)) below = absurd (omega arith)

-- a word of a sector is right, or it isn't
right_or_not : (sector : List ℕ) (word : ℕ) → IsRight sector word ⊎ (IsRight sector word → ⊥)
unfolding IsRight
right_or_not sector word = codeword_or_not (word_size word) (sector_word sector word) (length-sector_word sector word)

-- so of the words below a number all are right, or one is the least that isn't
least_wrong : (sector : List ℕ) (end : ℕ)
    → AreRightBelow end sector ⊎ ((word : ℕ) × (word < end) × (IsRight sector word → ⊥) × AreRightBelow word sector)
least_wrong sector zero = inl (λ word below. absurd (omega arith))
least_wrong sector (suc end) = elim (least_wrong sector end) [
  | inr (word, below, wrong, before) ↦ inr (word, omega arith, wrong, before)
  | inl all ↦ elim (right_or_not sector end) [
    | inr wrong ↦ inr (end, omega arith, wrong, all)
    | inl right ↦ inl (λ word below. elim (cases_eq word end) [
      | inl is ↦ subst (IsRight sector) (sym is) right
      | inr not ↦ all word (omega arith)
    ])
  ]
]

-- A sector has nothing wrong, or it has a cause.
pub faultless_or_cause : (sector : List ℕ) (address : ℕ) → IsRightSector sector address ⊎ ((cause : CdCause) × IsCause sector address cause)
faultless_or_cause sector address = elim (least_wrong sector 138) [
  | inr (word, below, wrong, before) ↦ inr (Parity word, (below, wrong, before))
  | inl words ↦ elim (cases_eq (slice_index sector 15) 1) [
    | inr not ↦ inr (Mode (slice_index sector 15), (words, refl, not))
    | inl mode ↦ elim (same_or_not (found_header sector) (header address)) [
      | inr not ↦ inr (Address (found_number sector), (words, mode, refl, not))
      | inl header_is ↦ elim (same_or_not (take 4 (drop 2064 sector)) (cd_edc_of (sync ++ take 2052 (drop 12 sector)))) [
        | inr not ↦ inr (Edc, (words, mode, header_is, not))
        | inl edc ↦ inl (record { words = words; mode = mode; header_is = header_is; edc = edc })
      ]
    ]
  ]
]

-- something is done for every sector that is read
pub read_some : (address k : ℕ) (read : List ℕ) → (steps : List Step) × (kind : UnitKind) × IsSectorRead address k read steps kind
read_some address k read = elim (faultless_or_cause (repaired read) address) [
  | inl right ↦ (Write (user_data (repaired read)) ∷ [], Good, inl (record { faultless = right; writes = refl; good = refl }))
  | inr (cause, is) ↦ (Report (damaged_sector_line k cause) ∷ Write (replicate 2048 0) ∷ [], Bad, inr (record { cause = cause; is_cause = is; reports = refl; bad = refl }))
]

-- what is done for a sector by what `repair` answers
pub given : (address k : ℕ) (read sector : List ℕ) → sector ≡ repaired read → IsRightSector (repaired read) address
    → IsSectorRead address k read (Write (user_data sector) ∷ []) Good
given address k read sector is right = inl (record { faultless = right; writes = ap (λ s. Write (user_data s) ∷ []) is; good = refl })

-- a line and zeros are what is done for a sector with a cause
pub refused : (address k : ℕ) (read : List ℕ) (cause : CdCause) → IsCause (repaired read) address cause
    → IsSectorRead address k read (Report (damaged_sector_line k cause) ∷ Write (replicate 2048 0) ∷ []) Bad
refused address k read cause is = inr (record { cause = cause; is_cause = is; reports = refl; bad = refl })
