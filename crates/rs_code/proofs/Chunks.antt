-- Lists cut into chunks of a size, and lists of a known size place by place. Crates above divide by chunks of other sizes.
use Rattle.std.proofs.Common.{◌≡◌, ℕ, zero, suc, ◌+◌, ◌*◌, List, ◌++◌, length, get_or, map, take, drop, sym, ap, ◌∙◌, append_assoc, zero-add, arith}
use Rattle.std.specs.List.{concat, range_with_len}
use Rattle.std.specs.Simd.{first_chunks}
use Rattle.std.proofs.lemmas.List.{drop-drop, take-append-drop, ext_get_or}
use Rattle.std.proofs.lemmas.List.FromFn.{get_or-map-range_with_len, length-map-range_with_len}

-- the whole chunks and the bytes after them, joined, are all the bytes
pub chunks_joined : (size count : ℕ) (bytes : List ℕ) → concat (first_chunks size count bytes) ++ drop (count * size) bytes ≡ bytes
chunks_joined size zero bytes =
    let none : zero * size ≡ 0 = omega arith in
    ap (λ (n : ℕ). drop n bytes) none
chunks_joined size (suc count) bytes =
    let more : suc count * size ≡ size + count * size = omega arith in
    ap (λ (n : ℕ). (take size bytes ++ concat (first_chunks size count (drop size bytes))) ++ drop n bytes) more
    ∙ append_assoc (take size bytes) (concat (first_chunks size count (drop size bytes))) (drop (size + count * size) bytes)
    ∙ ap (λ (l : List ℕ). take size bytes ++ (concat (first_chunks size count (drop size bytes)) ++ l)) (sym (drop-drop (count * size) size bytes))
    ∙ ap (λ (l : List ℕ). take size bytes ++ l) (chunks_joined size count (drop size bytes))
    ∙ take-append-drop size bytes

-- the bytes at all places of a list are the list
pub bytes_at_places : (size : ℕ) (bytes : List ℕ) → length bytes ≡ size → map (λ i. get_or bytes i 0) (range_with_len 0 size) ≡ bytes
bytes_at_places size bytes is =
    let places : ℕ → ℕ = λ i. get_or bytes i 0 in
    let long : length (map places (range_with_len 0 size)) ≡ size = length-map-range_with_len places 0 size in
    ext_get_or 0 (map places (range_with_len 0 size)) bytes (long ∙ sym is)
    (λ i below. get_or-map-range_with_len places 0 size i i 0 (omega arith) (zero-add i))
