-- What is answered to a word of a code.
use Rattle.std.specs.Prelude.{ℕ, Bool, List, map, not, ◌==◌}
use Rattle.std.specs.declared.option.Option.{Option}
use Rattle.std.specs.declared.option.Option.TheVariants.{Some, None}
use Rattle.rs_decode.specs.Errors.{error_count}
use Rattle.coding.specs.Filling.{marked}
use Rattle.dvdecc_c.specs.declared.words.Correction.{Correction}
use Rattle.dvdecc_c.specs.declared.status.TheConstants.{OK, UNCORRECTABLE}

-- the places that are lost: a byte for each, of which every one but 0 marks
unfoldable pub lost_marks : List ℕ → List Bool
lost_marks lost = map (λ byte. not (byte == 0)) lost

-- the status by the codeword near a word, if there is one
abbrev pub word_status : Option (List ℕ) → ℕ
word_status None = UNCORRECTABLE
word_status (Some word) = OK

-- what is reported of the codeword near a word: nothing where there is none
abbrev pub with_correction : Option (List ℕ) → List ℕ → List Bool → Correction → Correction
with_correction None received marks before = before
with_correction (Some word) received marks before =
    record { errors = error_count received word marks; erasures = marked marks }
