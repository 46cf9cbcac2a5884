-- The proof of `with_bytes` in src/edc.rt.
use Rattle.std.proofs.Common.{List, ℕ, drop, length, ap, ap₂, sym, ◌+◌, ◌/◌, ◌++◌, ◌∙◌, arith}
use Rattle.std.specs.List.{concat}
use Rattle.rs_code.proofs.Chunks.{chunks_joined}
use Rattle.cd_sector.specs.Inner.Register.{after_reading}
use Rattle.cd_sector.proofs.Chunks.{chunks-next, chunks-end}
use Rattle.cd_sector.proofs.Division.{after_reading-append}
use Rattle.cd_sector.proofs.Steps.{after_reading-next, after_reading-end}
use Rattle.cd_sector.proofs.edc.with_bytes.Goals as goal

pub loop-chunk-preserved : goal.loop-chunk-preserved
loop-chunk-preserved c =
    let chunks : List (List ℕ) = c.as_chunks.result.0.now in
    ap (after_reading (concat (drop (c.loop-chunk.chunk-index + 1) chunks))) c.with_chunk-next.ensures
    ∙ chunks-next chunks c.loop-chunk.chunk-index c.loop-chunk.next (omega arith)
    ∙ c.loop-chunk.invariant

pub loop-byte-init : goal.loop-byte-init
loop-byte-init c =
    let bytes : List ℕ = c.args.bytes.now in
    let chunks : List (List ℕ) = c.as_chunks.result.0.now in
    let others : List ℕ = c.as_chunks.result.1.now in
    ap (after_reading others) (sym (chunks-end chunks c.loop-chunk.chunk-index c.loop-chunk.next (omega arith)) ∙ c.loop-chunk.invariant)
    ∙ after_reading-append (concat chunks) others c.args.register
    ∙ ap (λ (l : List ℕ). after_reading l c.args.register)
    (ap₂ (λ (prefix : List (List ℕ)) (back : List ℕ). concat prefix ++ back) c.as_chunks.ensures.front c.as_chunks.ensures.back ∙ chunks_joined 16 (length bytes / 16) bytes)

pub loop-byte-preserved : goal.loop-byte-preserved
loop-byte-preserved c =
    let others : List ℕ = c.as_chunks.result.1.now in
    ap (after_reading (drop (c.loop-byte.byte-index + 1) others)) c.with_byte-next.ensures
    ∙ after_reading-next others c.loop-byte.byte-index c.loop-byte.next (omega arith)
    ∙ c.loop-byte.invariant

pub returns : goal.returns
returns c =
    sym (after_reading-end c.as_chunks.result.1.now c.loop-byte.byte-index c.loop-byte.next (omega arith)) ∙ c.loop-byte.invariant
