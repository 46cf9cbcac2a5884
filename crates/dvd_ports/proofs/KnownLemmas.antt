-- How the bytes of an object grow and shrink over several calls.
use Rattle.std.proofs.Common.{◌≡◌, ◌≢◌, ℕ, ◌+◌, ◌-◌, ◌<◌, ◌≤◌, List, [], ◌∷◌, ◌++◌, length, take, drop, None, Some, Option, Result, Ok, Err, refl, sym, ap, ◌∙◌, subst, append_assoc, append-nil, arith, take-append-drop, length-drop, length-append}
use Rattle.std.proofs.Math.Seq.{take-add, take-append-add}
use Rattle.std.proofs.lemmas.List.{take_at, take_all, take-append-le, length-take, length-take-le, drop-drop}
use Rattle.std.specs.Io.KnownBytes.{Appends as GainsKnown, Consumes as LosesKnown, Keeps as KeepsKnown, WriteAppends as WriteGainsKnown}
use Rattle.dvd_ports.specs.Bytes.{Appends, Bytes, Consumes, Keeps}
use Rattle.dvd_ports.specs.Whole.{GainsPrefix, AppendsPrefix}

-- where nothing happens, no bytes are appended
pub Appends-none : (a : Bytes) → Appends a a []
Appends-none a = record { log = sym (append-nil a.moved) }

-- what one call appends, and then another, is appended by both together
pub Appends-then : (a b c : Bytes) (bs cs : List ℕ) → Appends a b bs → Appends b c cs → Appends a c (bs ++ cs)
Appends-then a b c bs cs p q = record { log = q.log ∙ ap (λ l. l ++ cs) p.log ∙ append_assoc a.moved bs cs }

-- a call that moves nothing changes nothing of what was appended before
pub Appends-kept : (a b c : Bytes) (bs : List ℕ) → Appends a b bs → Keeps b c → Appends a c bs
Appends-kept a b c bs p q = record { log = q.log ∙ p.log }

-- what is known to be left loses what one call consumes, and then another
loses-then : (a b c : Option (List ℕ)) (bs cs : List ℕ) → LosesKnown a b bs → LosesKnown b c cs → LosesKnown a c (bs ++ cs)
loses-then None b c bs cs p q = tt
loses-then (Some x) None c bs cs p q = absurd p
loses-then (Some x) (Some y) None bs cs p q = absurd q
loses-then (Some x) (Some y) (Some z) bs cs p q = p ∙ ap (λ l. bs ++ l) q ∙ sym (append_assoc bs cs z)

-- what one call consumes, and then another, is consumed by both together
pub Consumes-then : (a b c : Bytes) (bs cs : List ℕ) → Consumes a b bs → Consumes b c cs → Consumes a c (bs ++ cs)
Consumes-then a b c bs cs p q = record {
  log = q.log ∙ ap (λ l. l ++ cs) p.log ∙ append_assoc a.moved bs cs;
  loses = loses-then a.left b.left c.left bs cs p.loses q.loses;
}

-- where nothing happens, no bytes are consumed
pub Consumes-none : (a : Bytes) → Consumes a a []
Consumes-none a = record { log = sym (append-nil a.moved); loses = none a.left }
  where
    none : (left : Option (List ℕ)) → LosesKnown left left []
    none None = tt
    none (Some bytes) = refl

-- where bytes are left, what is left isn't empty
drop-more : (piece : List ℕ) (i : ℕ) → i < length piece → drop i piece ≢ []
drop-more piece i inside none = absurd (omega (arith, length-drop i piece, ap length none))

-- a write that failed leaves what was taken of the piece before, and the rest
pub write_begun : (old mid new : Bytes) (piece : List ℕ) (i : ℕ) → Appends old mid (take i piece) → Keeps mid new → i < length piece → AppendsPrefix old new piece
write_begun old mid new piece i before kept inside = record {
  taken = take i piece;
  rest = drop i piece;
  grows = Appends-kept old mid new (take i piece) before kept;
  whole = take-append-drop i piece;
  more = drop-more piece i inside;
}

-- a write takes the first of the bytes of the piece from the i-th on
pub writes_more : (old mid new : Bytes) (piece : List ℕ) (i n : ℕ)
    → Appends old mid (take i piece)
    → Appends mid new (take n (take (length piece - i) (drop i piece)))
    → Appends old new (take (i + n) piece)
writes_more old mid new piece i n before now =
    let whole : take (length piece - i) (drop i piece) ≡ drop i piece = take_all (length piece - i) (drop i piece) (omega (arith, length-drop i piece)) in
    let joined : take i piece ++ take n (take (length piece - i) (drop i piece)) ≡ take (i + n) piece =
    ap (λ l. take i piece ++ take n l) whole ∙ sym (take-add i n piece) in
    subst (Appends old new) joined (Appends-then old mid new _ _ before now)

-- a read puts the first bytes that are left at the i-th place of the buffer
pub reads_more : (old mid new : Bytes) (buf got rest : List ℕ) (i n : ℕ) → i ≤ length buf → n ≤ length got → Consumes old mid (take i buf) → Consumes mid new (take n got)
    → Consumes old new (take (i + n) (take i buf ++ (got ++ rest)))
reads_more old mid new buf got rest i n inside some before now =
    let size : length (take i buf) ≡ i = length-take-le i buf inside in
    let joined : take (i + n) (take i buf ++ (got ++ rest)) ≡ take i buf ++ take n got =
    ap (λ m. take (m + n) (take i buf ++ (got ++ rest))) (sym size) ∙ take-append-add (take i buf) (got ++ rest) n ∙ ap (λ l. take i buf ++ l) (take-append-le n got rest some) in
    subst (Consumes old new) (sym joined) (Consumes-then old mid new _ _ before now)

-- what it puts there is inside
pub reads_inside : (buf got rest : List ℕ) (i n : ℕ) → i ≤ length buf → n ≤ length got → i + n ≤ length (take i buf ++ (got ++ rest))
reads_inside buf got rest i n inside some =
    omega (arith, length-append (take i buf) (got ++ rest), length-append got rest, length-take-le i buf inside)

-- what a writer of std knows stays where nothing is appended
gains-kept : (a b c : Option (List ℕ)) (bs : List ℕ) → GainsKnown a b bs → KeepsKnown b c → GainsKnown a c bs
gains-kept None b c bs p q = tt
gains-kept (Some x) None c bs p q = absurd p
gains-kept (Some x) (Some y) None bs p q = absurd q
gains-kept (Some x) (Some y) (Some z) bs p q = q ∙ p

gains-none : (a : Option (List ℕ)) → GainsKnown a a []
gains-none None = tt
gains-none (Some x) = sym (append-nil x)

-- whether it failed or not, a write took a front of the piece
pub write_prefix : {E : Type 0} (old new : Option (List ℕ)) (result : Result ℕ E) (piece : List ℕ) → WriteGainsKnown old new result piece → GainsPrefix old new piece
write_prefix old new (Ok n) piece took = record { taken = take n piece; rest = drop n piece; grows = took; whole = take-append-drop n piece }
write_prefix old new (Err e) piece kept = record { taken = []; rest = piece; grows = gains-kept old old new [] (gains-none old) kept; whole = refl }

-- what was taken stays where nothing more was
pub prefix_kept : (old mid new : Option (List ℕ)) (piece : List ℕ) → GainsPrefix old mid piece → KeepsKnown mid new → GainsPrefix old new piece
prefix_kept old mid new piece prefix kept = record { taken = prefix.taken; rest = prefix.rest; grows = gains-kept old mid new prefix.taken prefix.grows kept; whole = prefix.whole }

-- the bytes of a source over a list, of which it has given the first `at`
abbrev pub given : List ℕ → ℕ → Bytes
given bytes at = record { moved = take at bytes; left = Some (drop at bytes) }

-- a read of a source over a list, `at` bytes of which it has given, gives those that follow, and none only at the end
pub gives_next : (bytes old new : List ℕ) (at n : ℕ)
    → n ≤ length bytes - at
    → (n ≡ 0 → 0 < length new → length bytes ≤ at)
    → new ≡ take n (drop at bytes) ++ drop n old
    → Consumes (given bytes at) (given bytes (at + n)) (take n new) × (n ≡ 0 → 0 < length new → drop (at + n) bytes ≡ [])
gives_next bytes old new at n has none fills =
    let size : length (take n (drop at bytes)) ≡ n = length-take n (drop at bytes) ∙ omega (arith, length-drop at bytes) in
    let piece : take n new ≡ take n (drop at bytes) = ap (take n) fills ∙ take_at (take n (drop at bytes)) (drop n old) n size in (
      record {
        log = take-add at n bytes ∙ ap (λ l. take at bytes ++ l) (sym piece);
        loses = sym (take-append-drop n (drop at bytes)) ∙ ap (λ l. l ++ drop n (drop at bytes)) (sym piece)
            ∙ ap (λ l. take n new ++ l) (drop-drop n at bytes);
      },
      λ zero room. empty (drop (at + n) bytes) (omega (arith, none zero room, length-drop (at + n) bytes)),
    )
  where
    empty : (xs : List ℕ) → length xs ≡ 0 → xs ≡ []
    empty [] e = refl
    empty (x ∷ xs) e = absurd (omega arith)
