-- The proof of `folded` in src/checks.rt.
use Rattle.std.proofs.Common.{◌≡◌, ℕ, ◌+◌, ◌-◌, List, [], ◌++◌, length, take, refl, sym, ap, ◌∙◌, arith}
use Rattle.std.specs.Prelude.{replicate}
use Rattle.std.proofs.lemmas.List.{append_assoc, append-nil, take-replicate}
use Rattle.dvd_frame.specs.Inner.Registers.{divided_from}
use Rattle.dvd_frame.proofs.ChunkFolds.{zeros_divided}
use Rattle.dvd_frame.proofs.checks.folded.Goals as goal

pub returns : goal.returns
returns c =
    let prefix : List ℕ = c.args.prefix.now in
    let back : List ℕ = c.args.back.now in
    let start : ℕ = 32 - length prefix in
    let end : start + length prefix ≡ 32 = omega arith in
    let first : c.load.result ≡ replicate start 0 ++ prefix =
    c.load.ensures ∙ ap (λ (n : ℕ). take n c.put.new.out) (sym end) ∙ c.put.ensures ∙ ap (λ (l : List ℕ). l ++ prefix) (take-replicate start 32 0 (omega arith)) in
    c.with_bytes.ensures [] ∙ ap (divided_from 0) (append-nil c.fold-4.new.rest)
    ∙ c.fold-4.ensures.same 2 refl ∙ zeros_divided 4 c.fold-3.new.rest
    ∙ c.fold-3.ensures.same 3 refl ∙ zeros_divided 8 c.fold-2.new.rest
    ∙ c.fold-2.ensures.same 4 refl ∙ zeros_divided 16 c.fold.new.rest
    ∙ c.fold.ensures.same 5 refl
    ∙ ap (λ (l : List ℕ). divided_from 0 (l ++ back)) first ∙ ap (divided_from 0) (append_assoc (replicate start 0) prefix back) ∙ zeros_divided start (prefix ++ back)
