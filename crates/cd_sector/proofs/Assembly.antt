-- A sector whose parts are written one after the other.
use Rattle.std.proofs.Common.{◌≡◌, ◌⊎◌, inl, inr, ℕ, ◌+◌, ◌<◌, ◌≤◌, List, [], ◌∷◌, ◌++◌, length, get_or, take, refl, sym, ◌∙◌, ap, arith}
use Rattle.std.specs.Prelude.{replicate}
use Rattle.std.proofs.lemmas.Bool.{cases_lt}
use Rattle.std.proofs.lemmas.List.{get_or-take, length-take-le}
use Rattle.std.proofs.lemmas.Grind.{same_number_lists}
use Rattle.cd_sector.specs.Edc.{cd_edc_of}
use Rattle.cd_sector.specs.Sector.{sync, header, covered, data_part}

-- what is before a place, once a part is written there
put_part : (before part old new : List ℕ) (place after : ℕ) → take (place + length part) new ≡ take place old ++ part
    → take place old ≡ before → place + length part ≡ after → take after new ≡ before ++ part
put_part before part old new place after put was size =
    ap (λ (n : ℕ). take n new) (sym size) ∙ put ∙ ap (λ (l : List ℕ). l ++ part) was

-- sync, header, mode, user data, the EDC of all of these, and zeros
pub data_written : (address : ℕ) (user head check s1 s2 s3 s4 s5 s6 : List ℕ)
    → length user ≡ 2048 → length check ≡ 4 → head ≡ header address
    → take 12 s1 ≡ sync
    → take (12 + length head) s2 ≡ take 12 s1 ++ head
    → take (15 + 1) s3 ≡ take 15 s2 ++ 1 ∷ []
    → take (16 + length user) s4 ≡ take 16 s3 ++ user
    → take (2064 + length check) s5 ≡ take 2064 s4 ++ check
    → take (2068 + 8) s6 ≡ take 2068 s5 ++ replicate 8 0
    → check ≡ cd_edc_of (take 2064 s4) → take 2076 s6 ≡ data_part address user
unfolding data_part covered
data_written address user head check s1 s2 s3 s4 s5 s6 user_size check_size head_is put_sync put_head put_mode put_user put_check put_zeros check_is =
    let whole : List ℕ = covered address user in
    let head_there : take 15 s2 ≡ sync ++ head = put_part sync head s1 s2 12 15 put_head put_sync (omega (arith, ap length head_is)) in
    let mode_there : take 16 s3 ≡ (sync ++ head) ++ 1 ∷ [] = put_part (sync ++ head) (1 ∷ []) s2 s3 15 16 put_mode head_there refl in
    let user_there : take 2064 s4 ≡ whole =
    put_part ((sync ++ head) ++ 1 ∷ []) user s3 s4 16 2064 put_user mode_there (omega arith)
    ∙ ap (λ (h : List ℕ). ((sync ++ h) ++ 1 ∷ []) ++ user) head_is in
    let check_there : take 2068 s5 ≡ whole ++ check = put_part whole check s4 s5 2064 2068 put_check user_there (omega arith) in
    put_part (whole ++ check) (replicate 8 0) s5 s6 2068 2076 put_zeros check_there refl
    ∙ ap (λ (l : List ℕ). (whole ++ l) ++ replicate 8 0) (check_is ∙ ap cd_edc_of user_there)

-- lists that agree below a place begin alike
pub same_prefix : (n : ℕ) (xs ys : List ℕ) → n ≤ length xs → n ≤ length ys → ((at : ℕ) → at < n → get_or xs at 0 ≡ get_or ys at 0) → take n xs ≡ take n ys
same_prefix n xs ys xs_long ys_long each =
    same_number_lists (take n xs) (take n ys) (length-take-le n xs xs_long ∙ sym (length-take-le n ys ys_long))
    (λ k below. let within : k < n = omega (arith, length-take-le n xs xs_long) in
    get_or-take n xs k 0 within ∙ each k within ∙ sym (get_or-take n ys k 0 within))

-- what holds of P words and of Q words holds of all
pub all_words : (P : ℕ → Type 0) → ((word : ℕ) → word < 86 → P word) → ((word : ℕ) → 86 ≤ word → word < 138 → P word) → (word : ℕ) → word < 138 → P word
all_words P of_p of_q word below = either (cases_lt word 86)
  where
    either : (word < 86) ⊎ (86 ≤ word) → P word
    either (inl p) = of_p word p
    either (inr q) = of_q word q below
