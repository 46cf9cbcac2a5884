-- The proof of `none` in src/patches.rt.
use Rattle.std.proofs.Common.{◌≡◌, ℕ, sym, ◌∙◌, arith}
use Rattle.std.proofs.lemmas.Simd.{get_or-replicate}
use Rattle.rs_decode.proofs.patches.Patches.none.Goals as goal

pub returns : goal.returns
returns c = λ n marks word below said.
    let one : ◌≡◌ {A = ℕ} 1 0 = sym (get_or-replicate {A = ℕ} 32 n 1 0 below) ∙ said in
    absurd (omega (arith, one))
