-- What is answered to a word of a code of any length.
use Rattle.std.specs.Prelude.{ℕ, List, ◌&&◌, ◌==◌, nat_le, nat_lt, if◌then◌else◌, length}
use Rattle.coding.specs.Nearest.{near_of}
use Rattle.dvdecc_c.specs.Words.{lost_marks, word_status}
use Rattle.dvdecc_c.specs.declared.status.TheConstants.{OK, BAD_LENGTH}

-- the status by the lengths: there is a code of words of so many bytes with so many parity bytes
abbrev pub code_status : ℕ → ℕ → ℕ
code_status size parity =
    if nat_le 1 parity && nat_le parity 32 && nat_lt parity size && nat_le size 255 then OK else BAD_LENGTH

-- the status by the lengths and the codeword near the word
abbrev pub decoding_status : ℕ → List ℕ → List ℕ → ℕ
decoding_status parity word lost =
    if (code_status (length word) parity == OK) && (length lost == length word)
    then word_status (near_of (length word) parity word (lost_marks lost))
    else BAD_LENGTH
