-- The proof of `after_zeros` in src/general.rt.
use Rattle.std.proofs.Common.{ℕ, ◌+◌, ◌-◌, ◌++◌, length, sym, ap, ◌∙◌, arith}
use Rattle.std.proofs.lemmas.List.{take_all, take-replicate, length-replicate}
use Rattle.dvdecc_c.proofs.general.after_zeros.Goals as goal

pub returns : goal.returns
returns c =
    let zeros_before : ℕ = 255 - length c.args.word.now in
    sym (take_all (zeros_before + length c.args.word.now) c.put.new.out (omega (arith, c.put.auto.out, length-replicate {A = ℕ} 255 0)))
    ∙ c.put.ensures
    ∙ ap (λ zeros. zeros ++ c.args.word.now) (take-replicate zeros_before 255 0 (omega arith))
