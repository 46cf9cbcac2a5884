-- The proof of `encode_after_zeros` in src/general.rt.
use Rattle.std.proofs.Common.{◌≡◌, ℕ, ◌+◌, ◌-◌, List, length, take, drop, subst, sym, refl, ◌∙◌, arith}
use Rattle.std.proofs.lemmas.List.{length-drop, take_all}
use Rattle.coding.specs.Words.{IsEncoded}
use Rattle.dvdecc_c.proofs.AfterZeros.{encoded-end, zeros_and}
use Rattle.dvdecc_c.proofs.general.encode_after_zeros.Goals as goal

pub returns : goal.returns
returns g c =
    let word = c.args.word.now in
    let n : ℕ = length word in
    let k : ℕ = 255 - n in
    let sum : 255 ≡ k + n = omega arith in
    let whole : IsEncoded (k + n) g.row.R (take (k + n - g.row.R) (zeros_and k word)) c.encode.new.word =
    subst (λ t. IsEncoded t g.row.R (take (t - g.row.R) (zeros_and k word)) c.encode.new.word) sum
    (subst (λ (before : List ℕ). IsEncoded 255 g.row.R (take (255 - g.row.R) before) c.encode.new.word) c.after_zeros-whole.ensures c.encode.ensures) in
    let end : c.copy_from_slice.new.self ≡ drop k c.encode.new.word =
    c.copy_from_slice.ensures.after ∙ take_all (255 - (255 - n)) (drop k c.encode.new.word) (omega (arith, length-drop k c.encode.new.word, c.encode.array_long)) in
    subst (λ (p : ℕ). IsEncoded n p (take (n - p) word) c.copy_from_slice.new.self) (sym c.requires.parity)
    (subst (IsEncoded n g.row.R (take (n - g.row.R) word)) (sym end) (encoded-end k n g.row.R word c.encode.new.word c.requires.message refl whole))
