-- A run of `cdread` gives back the user data of each CD-ROM sector whose damage is within the bound of its codes.
use Rattle.std.proofs.Common.{◌≡◌, ◌≢◌, ◌∙◌, inl, inr, ℕ, ◌+◌, ◌*◌, ◌≤◌, List, [], ◌∷◌, ◌++◌, length, take, drop, refl, ap, sym, subst, append-nil, length-append, arith}
use Rattle.std.specs.Prelude.{replicate}
use Rattle.std.proofs.lemmas.List.{length-drop, length-replicate, length-take-le, take_at}
use Rattle.cd_sector.specs.Causes.{IsRightSector}
use Rattle.cd_sector.specs.Edc.{cd_edc_of}
use Rattle.cd_sector.specs.Laws.{IsCorrectableHalf}
use Rattle.cd_sector.specs.Repair.{repaired, with_p_words, with_q_words}
use Rattle.cd_sector.specs.Sector.{IsSector, covered, sync}
use Rattle.cd_sector.proofs.Faultless.{faultless, made_whole}
use Rattle.cd_sector.proofs.GivenBack.{given_back}
use Rattle.cd_sector.proofs.OneSector.{no_cause}
use Rattle.cd_sector.proofs.Passes.{length-with_p_words, length-with_q_words}
use Rattle.dvd_loop.specs.Laws.{AreTotal, IsFaultless, IsPrefixOf, first}
use Rattle.dvd_loop.specs.Machine.{IsOutcome, IsUnit, Outcome, Step}
use Rattle.dvd_loop.specs.Machine.Step.{Write}
use Rattle.dvd_loop.specs.UnitCommand.{written}
use Rattle.dvd_loop.specs.declared.ends.LoopEnd.TheVariants.{Done}
use Rattle.dvd_loop.specs.declared.ends.UnitKind.{UnitKind}
use Rattle.dvd_loop.specs.declared.ends.UnitKind.TheVariants.{Bad, Good, Last}
use Rattle.dvd_loop.proofs.Apart.{takes_sized}
use Rattle.dvd_loop.proofs.Sizes.{begins_somehow, sized_whole}
use Rattle.dvd_commands.specs.CdBound.{GivesUserData, IsCorrectableSector, cd_sector_bytes}
use Rattle.dvd_commands.specs.Commands.{meaning}
use Rattle.dvd_commands.specs.Meaning.{GoesBy}
use Rattle.dvd_commands.specs.CdRead.{IsSectorRead, cdread_units, user_data}
use Rattle.dvd_commands.specs.Laws.{CorrectableSectorsAreKept}
use Rattle.dvd_words.specs.declared.settings.Settings.{Settings}
use Rattle.dvd_commands.proofs.BlockUnits.{part_there}
use Rattle.dvd_commands.proofs.cd_read.Sectors.{read_some}
use Rattle.dvd_commands.proofs.AnyEnd.{at_any_end, part-begun}
use Rattle.dvd_commands.proofs.Pieces.{start-same}
use Rattle.dvd_commands.proofs.Written.{length-written}

-- THE USER DATA of a sector that was made come after sixteen bytes.
data_of : (address : ℕ) (user rest : List ℕ) → length user ≡ 2048 → user_data (covered address user ++ rest) ≡ user
unfolding covered
data_of address user rest size = take_at user rest 2048 size

-- and are what the sector was made of
made_data : (address : ℕ) (user sector : List ℕ) → length user ≡ 2048 → IsSector address user sector → user_data sector ≡ user
made_data address user sector size made =
    let rest : List ℕ = cd_edc_of (covered address user) ++ (replicate 8 0 ++ drop 2076 sector) in
    ap user_data (made_whole address user sector made) ∙ data_of address user rest size

-- ONE SECTOR. Damage that can be corrected is repaired, and what was made has no cause.
pub correctable_given : (address k : ℕ) (user sector read : List ℕ) (steps : List Step) (kind : UnitKind) → length user ≡ 2048 → IsSector address user sector
    → length read ≡ 2352 → IsCorrectableHalf 0 sector read → IsCorrectableHalf 1 sector read → IsSectorRead address k read steps kind → (steps ≡ Write user ∷ []) × (kind ≡ Good)
correctable_given address k user sector read steps kind user_size made size low high does =
    let back : repaired read ≡ sector = given_back address user sector read made size low high in
    elim does [
      | inl given ↦ (given.writes ∙ ap (λ l. Write l ∷ []) (ap user_data back ∙ made_data address user sector user_size made), given.good)
      | inr refused ↦ absurd (no_cause (repaired read) address refused.cause (subst (λ s. IsRightSector s address) (sym back) (faultless address user sector user_size made)) refused.is_cause)
    ]

-- a sector that is whole in the input has its bytes
length-own : (k : ℕ) (bytes : List ℕ) → 2352 * (k + 1) ≤ length bytes → length (cd_sector_bytes bytes k) ≡ 2352
length-own k bytes there = length-take-le 2352 (drop (2352 * k) bytes) (omega (arith, there, length-drop (2352 * k) bytes))

-- for a sector whose damage can be corrected its user data are written, and nothing else
alone : (settings : Settings) (bytes user : List ℕ) (k : ℕ) → IsCorrectableSector settings bytes user k
    → (steps : List Step) (kind : UnitKind) → IsSectorRead (settings.address + k) k (cd_sector_bytes bytes k) steps kind
    → (steps ≡ Write user ∷ []) × (kind ≡ Good)
alone settings bytes user k b steps kind does =
    correctable_given (settings.address + k) k user b.sector (cd_sector_bytes bytes k) steps kind b.user_size b.is_sector (length-own k bytes b.whole) b.low b.high does

-- ALL SECTORS. Each writes 2,048 bytes.
length-repaired : (read : List ℕ) → length read ≡ 2352 → length (repaired read) ≡ 2352
unfolding repaired
length-repaired read size =
    omega (
      arith,
      length-append sync (drop 12 (with_q_words read (with_p_words read 86) 52)),
      length-drop 12 (with_q_words read (with_p_words read 86) 52),
      length-with_q_words read (with_p_words read 86) 52,
      length-with_p_words read 86,
    )

-- the user data of a repaired sector are 2,048 bytes
length-user : (read : List ℕ) → length read ≡ 2352 → length (user_data (repaired read)) ≡ 2048
length-user read size = length-take-le 2048 (drop 16 (repaired read)) (omega (arith, length-drop 16 (repaired read), length-repaired read size))

-- one write of some bytes writes as many
write-wide : (bytes : List ℕ) (steps : List Step) → steps ≡ Write bytes ∷ [] → length (written steps) ≡ length bytes
write-wide bytes steps is = ap (λ s. length (written s)) is ∙ ap length (append-nil bytes)

-- a sector writes 2,048 bytes, whether it is given or refused, and isn't the last
read-wide : (address k : ℕ) (read : List ℕ) (steps : List Step) (kind : UnitKind) → length read ≡ 2352 → IsSectorRead address k read steps kind
    → (length (written steps) ≡ 2048) × (kind ≢ Last)
read-wide address k read steps kind size does = elim does [
  | inl given ↦ (
    write-wide (user_data (repaired read)) steps given.writes ∙ length-user read size,
    λ last. let no : Good ≡ Last = sym given.good ∙ last in cc,
  )
  | inr refused ↦ (
    let zeros : List ℕ = replicate 2048 0 in
        ap (λ s. length (written s)) refused.reports ∙ ap length (append-nil zeros) ∙ length-replicate {A = ℕ} 2048 0,
    λ last. let no : Bad ≡ Last = sym refused.bad ∙ last in cc,
  )
]

module _ (address sectors : ℕ) where
  -- no sector is the last
  never_last : (k : ℕ) (before : List (List ℕ)) (own : List ℕ) (steps : List Step) → IsSectorRead (address + k) k own steps Last → ⊥
  never_last k before own steps does = elim does [
    | inl given ↦ (let no : Last ≡ Good = given.good in cc)
    | inr refused ↦ (let no : Last ≡ Bad = refused.bad in cc)
  ]

  -- nor is a unit of `cdread` the last, and it writes 2,048 bytes
  unit-wide : (count : ℕ) (before : List (List ℕ)) (own : List ℕ) (steps : List Step) (kind : UnitKind) → IsUnit (first count (cdread_units address sectors)) before own steps kind
      → (length (written steps) ≡ 2048) × (kind ≢ Last)
  unit-wide count before own steps kind unit = read-wide (address + length before) (length before) own steps kind ((sized_whole 2352 own).0 unit.whole) unit.does

  -- what the first k sectors write
  length-first : (k : ℕ) (bytes : List ℕ) (a : Outcome) → IsOutcome (first k (cdread_units address sectors)) bytes a → a.end ≡ Done
      → length a.out ≡ 2048 * k
  length-first k bytes a runs done =
      length-written (first k (cdread_units address sectors)) (λ j. 2048) (record {
        opens = refl;
        does = unit-wide k;
        closes = λ before steps none. none;
      }) bytes a runs done
      ∙ start-same 2048 k

-- in a run whose loop ended without a fault the user data of a sector that can be corrected are at its place
at_place : (settings : Settings) (bytes : List ℕ) (a : Outcome) → IsOutcome (cdread_units settings.address settings.sectors) bytes a
    → IsFaultless a.end
    → (user : List ℕ) (k : ℕ) → IsCorrectableSector settings bytes user k → take 2048 (drop (2048 * k) a.out) ≡ user
at_place settings bytes a runs none user k b =
    let units = cdread_units settings.address settings.sectors in
    let (steps, kind, t) = takes_sized units 2352 (λ j l. refl) (never_last settings.address settings.sectors) refl bytes a runs none k b.asked b.whole in
    let does = subst (λ j. IsSectorRead (settings.address + j) j (cd_sector_bytes bytes k) steps kind) t.number t.unit.does in
    let back = alone settings bytes user k b steps kind does in
    part_there (2048 * k) 2048 t.alone.out user a.out (length-first settings.address settings.sectors k bytes t.alone t.runs t.ends)
    b.user_size (subst (λ s. IsPrefixOf (t.alone.out ++ written s) a.out) back.0 t.out)

-- whatever bytes there are, something is done for each sector
cdread_total : (address sectors : ℕ) → AreTotal (cdread_units address sectors)
cdread_total address sectors = record {
  begins = begins_somehow (cdread_units address sectors) (λ k. 2352) (λ k l. refl);
  does = λ before own lt whole. read_some (address + length before) (length before) own;
  closes = λ before all. ([], refl);
}

-- the law: a loop of `cdread` gives back the user data of each sector whose damage can be corrected
pub kept_sectors : CorrectableSectorsAreKept
kept_sectors settings bytes loop is goes =
    let units = cdread_units settings.address settings.sectors in
    let (subject, has, runs) = subst (λ command. GoesBy (meaning command) settings bytes loop) is goes in
    let any = at_any_end (GivesUserData settings) units (cdread_total settings.address settings.sectors) (λ own a loops none. at_place settings own a loops none) bytes loop runs in
    record {
      given = any.given;
      begun = λ user k b. part-begun any 2048 (2048 * k) user (any.gives user k b);
      alone = alone settings bytes;
    }
