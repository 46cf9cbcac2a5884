-- Two buffers that are filled one after the other.
use Rattle.std.proofs.Common.{◌≡◌, ◌∙◌, ℕ, ◌+◌, ◌≤◌, List, ◌++◌, length, take, ap, subst, sym, arith, length-append}
use Rattle.std.proofs.Math.Seq.{take-append-add}
use Rattle.std.proofs.lemmas.List.{take_all}
use Rattle.dvd_ports.specs.Bytes.{Bytes, Consumes}
use Rattle.dvd_ports.specs.Whole.{ConsumesFewer}
use Rattle.dvd_ports.proofs.KnownLemmas.{Consumes-then}

-- all of the first came, and then some of the second
pub both_taken : (old mid new : Bytes) (first last : List ℕ) (a n : ℕ) → a ≤ length first → length first ≤ a
    → Consumes old mid (take a first) → Consumes mid new (take n last) → Consumes old new (take (a + n) (first ++ last))
both_taken old mid new first last a n within all before now =
    let whole : a ≡ length first = omega (arith, within, all) in
    let joined : take (a + n) (first ++ last) ≡ take a first ++ take n last =
    ap (λ (k : ℕ). take (k + n) (first ++ last)) whole ∙ take-append-add first last n
    ∙ ap (λ (l : List ℕ). l ++ take n last) (sym (take_all a first (omega (arith, all)))) in
    subst (Consumes old new) (sym joined) (Consumes-then old mid new _ _ before now)

-- and then a read of the second failed
pub both_begun : (old mid new : Bytes) (first last : List ℕ) (a : ℕ) → a ≤ length first → length first ≤ a
    → Consumes old mid (take a first) → ConsumesFewer mid new (length last) → ConsumesFewer old new (length (first ++ last))
both_begun old mid new first last a within all before fewer =
    let came : List ℕ = take a first in
    let size : length came ≡ length first = ap length (take_all a first (omega (arith, all))) in record {
      taken = came ++ fewer.taken;
      loses = Consumes-then old mid new came fewer.taken before fewer.loses;
      fewer = omega (arith, fewer.fewer, length-append came fewer.taken, length-append first last, size);
    }
