-- The proof of the law `near_codeword_is_found` in src/laws.rt.
use Rattle.rs_decode.proofs.NearSearch.{near_of-is_near, near_of-some}
use Rattle.rs_decode.proofs.laws.near_codeword_is_found.Goals as goal

pub returns : goal.returns
returns c n r received marks word short received_size marks_size =
    (near_of-is_near n r received word marks received_size marks_size, near_of-some n r received word marks short)
