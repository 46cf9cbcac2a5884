-- The proof of `with_bytes` in src/checks.rt.
use Rattle.std.proofs.Common.{List, ℕ, ◌/◌, ◌++◌, length, ap, sym, ◌∙◌}
use Rattle.std.specs.List.{concat}
use Rattle.std.specs.Simd.{first_chunks}
use Rattle.std.proofs.lemmas.List.{append_assoc}
use Rattle.rs_code.proofs.Chunks.{chunks_joined}
use Rattle.dvd_frame.specs.Inner.Registers.{divided_from}
use Rattle.dvd_frame.proofs.checks.with_bytes.Goals as goal

pub loop-byte-init : goal.loop-byte-init
loop-byte-init c = λ rest.
    let words : List (List ℕ) = c.as_chunks.result.0.now in
    let others : List ℕ = c.as_chunks.result.1.now in
    c.with_words-next.ensures (others ++ rest)
    ∙ ap (divided_from c.args.register) (sym (append_assoc (concat words) others rest))
    ∙ ap (λ (l : List (List ℕ)). divided_from c.args.register ((concat l ++ others) ++ rest)) c.as_chunks.ensures.front
    ∙ ap (λ (l : List ℕ). divided_from c.args.register ((concat (first_chunks 8 (length c.args.bytes.now / 8) c.args.bytes.now) ++ l) ++ rest)) c.as_chunks.ensures.back
    ∙ ap (λ (l : List ℕ). divided_from c.args.register (l ++ rest)) (chunks_joined 8 (length c.args.bytes.now / 8) c.args.bytes.now)
