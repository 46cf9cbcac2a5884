-- What is answered to each of many rows.
use Rattle.std.specs.Prelude.{ℕ, List, ◌&&◌, ◌==◌, if◌then◌else◌, unwrap_or}
use Rattle.coding.specs.Nearest.{near_of}
use Rattle.dvdecc_c.specs.Words.{lost_marks, with_correction, word_status}
use Rattle.dvdecc_c.specs.declared.lists.Answer.{Answer}
use Rattle.dvdecc_c.specs.declared.status.TheConstants.{OK, BAD_LENGTH}

-- the status by three lengths, which have to be one
abbrev pub lengths_status : ℕ → ℕ → ℕ → ℕ
lengths_status rows lost answers = if (lost == rows) && (answers == rows) then OK else BAD_LENGTH

-- the codeword near a row, or the row
abbrev pub row_decoded : List ℕ → List ℕ → List ℕ
row_decoded row lost = unwrap_or (near_of 182 10 row (lost_marks lost)) row

-- the answer to a row
abbrev pub answer_to : List ℕ → List ℕ → Answer
answer_to row lost = record {
  status = word_status (near_of 182 10 row (lost_marks lost));
  correction = with_correction (near_of 182 10 row (lost_marks lost)) row (lost_marks lost) (record { errors = 0; erasures = 0 });
}
