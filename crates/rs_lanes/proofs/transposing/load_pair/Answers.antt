-- The proof of `load_pair` in src/transposing.rt.
use Rattle.std.proofs.Common.{◌+◌, get_or, ◌++◌, ap, ◌∙◌, arith}
use Rattle.std.specs.Simd.Lanes.{chunk}
use Rattle.std.proofs.lemmas.List.FromFn.{get_or-map-range_with_len}
use Rattle.std.proofs.lemmas.List.{get_or_append_left, get_or-append-add}
use Rattle.std.proofs.lemmas.Simd.{length-chunk, get_or-chunk}
use Rattle.rs_lanes.proofs.transposing.load_pair.Goals as goal

pub returns-clause-one : goal.returns-clause-one
returns-clause-one c = λ n below.
    let one = chunk c.args.at 16 c.args.one.now in
    let other = chunk c.args.at 16 c.args.other.now in
    let size = length-chunk c.args.at 16 c.args.one.now c.requires.one in
    get_or-map-range_with_len (λ j. get_or (one ++ other) j 0) 0 32 n n 0 (omega arith) (omega arith)
    ∙ get_or_append_left one other 0 n (omega arith)
    ∙ get_or-chunk c.args.at 16 c.args.one.now n 0 below

pub returns-clause-other : goal.returns-clause-other
returns-clause-other c = λ n below.
    let one = chunk c.args.at 16 c.args.one.now in
    let other = chunk c.args.at 16 c.args.other.now in
    let size = length-chunk c.args.at 16 c.args.one.now c.requires.one in
    get_or-map-range_with_len (λ j. get_or (one ++ other) j 0) 0 32 (16 + n) (16 + n) 0 (omega arith) (omega arith)
    ∙ ap (λ m. get_or (one ++ other) m 0) (omega arith)
    ∙ get_or-append-add one other n 0
    ∙ get_or-chunk c.args.at 16 c.args.other.now n 0 below
