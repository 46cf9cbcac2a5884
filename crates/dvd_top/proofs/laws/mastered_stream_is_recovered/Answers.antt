-- The proof of the law `mastered_stream_is_recovered` in src/laws.rt.
use Rattle.dvd_top.proofs.MasteredStream.{stream_recovered}
use Rattle.dvd_top.proofs.laws.mastered_stream_is_recovered.Goals as goal

pub returns : goal.returns
returns c = stream_recovered
