-- A sector that was made has nothing wrong.
use Rattle.std.proofs.Common.{◌≡◌, ℕ, ◌+◌, List, ◌∷◌, ◌++◌, length, get_or, take, drop, refl, sym, ◌∙◌, ap, arith}
use Rattle.std.specs.Prelude.{replicate}
use Rattle.std.proofs.lemmas.List.{append_assoc, take-append-drop, take_at, drop_at}
use Rattle.cd_sector.specs.Edc.{cd_edc_of}
use Rattle.cd_sector.specs.Causes.{IsRightSector}
use Rattle.cd_sector.specs.Sector.{sync, header, covered, data_part, IsSector}

-- an EDC has four bytes
pub length-cd_edc_of : (bytes : List ℕ) → length (cd_edc_of bytes) ≡ 4
unfolding cd_edc_of
length-cd_edc_of bytes = refl

-- the EDC covers sixteen bytes and the user data
pub length-covered : (address : ℕ) (user : List ℕ) → length (covered address user) ≡ 16 + length user
unfolding covered
length-covered address user = omega arith

-- what comes after the sync of a list that begins with the bytes that the EDC covers
behind_sync : (address : ℕ) (user rest : List ℕ) → length user ≡ 2048
    → sync ++ take 2052 (drop 12 (covered address user ++ rest)) ≡ covered address user
unfolding covered
behind_sync address user rest size =
    ap (λ (l : List ℕ). sync ++ l) (take_at (header address ++ 0x01 ∷ user) rest 2052 (omega arith))

-- a list that begins with the bytes that the EDC covers has mode 1
mode_of : (address : ℕ) (user rest : List ℕ) → get_or (covered address user ++ rest) 15 0 ≡ 1
unfolding covered
mode_of address user rest = refl

-- and the header of its address
header_of : (address : ℕ) (user rest : List ℕ) → take 3 (drop 12 (covered address user ++ rest)) ≡ header address
unfolding covered
header_of address user rest = refl

-- a sector that was made begins with the bytes that the EDC covers, and after them come the EDC and eight zeros
pub made_whole : (address : ℕ) (user sector : List ℕ) → IsSector address user sector
    → sector ≡ covered address user ++ (cd_edc_of (covered address user) ++ (replicate 8 0 ++ drop 2076 sector))
unfolding data_part
made_whole address user sector made =
    let prefix : List ℕ = covered address user in
    let edc : List ℕ = cd_edc_of prefix in
    sym (take-append-drop 2076 sector) ∙ ap (λ (l : List ℕ). l ++ drop 2076 sector) made.begins
    ∙ append_assoc (prefix ++ edc) (replicate 8 0) (drop 2076 sector) ∙ append_assoc prefix edc (replicate 8 0 ++ drop 2076 sector)

-- a sector that was made for an address has no fault at this address
pub faultless : (address : ℕ) (user sector : List ℕ) → length user ≡ 2048 → IsSector address user sector → IsRightSector sector address
faultless address user sector size made =
    let prefix : List ℕ = covered address user in
    let edc : List ℕ = cd_edc_of prefix in
    let rest : List ℕ = edc ++ (replicate 8 0 ++ drop 2076 sector) in
    let whole : sector ≡ prefix ++ rest = made_whole address user sector made in
    let past : drop 2064 (prefix ++ rest) ≡ rest = drop_at prefix rest 2064 (omega (arith, length-covered address user)) in
    record {
      words = made.words;
      mode = ap (λ (l : List ℕ). get_or l 15 0) whole ∙ mode_of address user rest;
      header_is = ap (λ (l : List ℕ). take 3 (drop 12 l)) whole ∙ header_of address user rest;
      edc = ap (λ (l : List ℕ). take 4 (drop 2064 l)) whole ∙ ap (λ (l : List ℕ). take 4 l) past
          ∙ take_at edc (replicate 8 0 ++ drop 2076 sector) 4 (length-cd_edc_of prefix)
          ∙ sym (ap (λ (l : List ℕ). cd_edc_of (sync ++ take 2052 (drop 12 l))) whole ∙ ap cd_edc_of (behind_sync address user rest size));
    }
