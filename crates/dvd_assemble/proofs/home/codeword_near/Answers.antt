-- The proof of `codeword_near` in src/home.rt.
use Rattle.std.proofs.Common.{rules, ◌≡◌, ◌∙◌, Bool, List, None, Some, sym, subst, arith}
use Rattle.coding.specs.Nearest.{near_of}
use Rattle.rs_decode.proofs.NearSearch.{near_of-some, none-near_of}
use Rattle.dvd_assemble.proofs.home.codeword_near.Goals as goal

pub returns-in_err-ok : goal.returns-in_err-ok
returns-in_err-ok c =
    c.from_residual.ensures
    ∙ sym (subst (λ (marks : List Bool). near_of 182 10 c.args.row.now marks ≡ None) c.unpack.ensures
    (none-near_of 182 10 c.args.row.now c.unpack.new.out c.told-row c.unpack.array_long (search rules)))

pub returns : goal.returns
returns c =
    sym (subst (λ (marks : List Bool). near_of 182 10 c.args.row.now marks ≡ Some c.decode.new.word) c.unpack.ensures
    (near_of-some 182 10 c.args.row.now c.decode.new.word c.unpack.new.out (omega arith) (search rules)))
