-- The blocks of a unit, read one after the other.
use Rattle.std.proofs.Common.{◌≡◌, ◌≢◌, ◌∙◌, inl, inr, ◌+◌, ◌<◌, ℕ, zero, suc, nat_lt, if◌then◌else◌, List, [], ◌++◌, length, slice_index, slice_index_or, slice_set, refl, ap, sym, subst, arith, add-one}
use Rattle.std.proofs.lemmas.Bool.{cases_lt, le-ltb, lt-ltb}
use Rattle.std.proofs.lemmas.List.{get_or-set_other, get_or-set_same, length-set}
use Rattle.dvd_ports.specs.Seen.{Seen}
use Rattle.cap_interleave.specs.Blocks.{CaptureBytes, block_written}
use Rattle.cap_interleave.specs.Inner.{AreReadTo, BreaksBlock, BuffersState, GivesBlock, HasFailedAt, IsReadInto, filled_blocks}

-- what came of each of the first n captures, this of the next, and nothing of those after it
abbrev pub put_at : ℕ → List ℕ → CaptureBytes → CaptureBytes
put_at n own owns c = if nat_lt c n then owns c else (if nat_lt n c then [] else own)

put_below : (n : ℕ) (own : List ℕ) (owns : CaptureBytes) (c : ℕ) → c < n → put_at n own owns c ≡ owns c
put_below n own owns c below = rw (lt-ltb c n below) refl

put_here : (n : ℕ) (own : List ℕ) (owns : CaptureBytes) → put_at n own owns n ≡ own
put_here n own owns = rw (le-ltb n n (omega arith)) refl

put_above : (n : ℕ) (own : List ℕ) (owns : CaptureBytes) (c : ℕ) → n < c → put_at n own owns c ≡ []
put_above n own owns c above = rw (le-ltb c n (omega arith), lt-ltb n c above) refl

-- the blocks of the first captures
blocks_same : (fill : _) (a b : CaptureBytes) (n : ℕ) → ((c : ℕ) → c < n → a c ≡ b c) → filled_blocks fill a n ≡ filled_blocks fill b n
unfolding filled_blocks
blocks_same fill a b zero same = refl
blocks_same fill a b (suc n) same =
    ap (λ l. l ++ block_written fill (a n)) (blocks_same fill a b n (λ c below. same c (omega arith))) ∙ ap (λ o. filled_blocks fill b n ++ block_written fill o) (same n (omega arith))

blocks_none : (fill : _) (owns : CaptureBytes) → filled_blocks fill owns 0 ≡ []
unfolding filled_blocks
blocks_none fill owns = refl

blocks_more : (fill : _) (owns : CaptureBytes) (n : ℕ) → filled_blocks fill owns (n + 1) ≡ filled_blocks fill owns n ++ block_written fill (owns n)
unfolding filled_blocks
blocks_more fill owns n = rw (add-one n) refl

-- none was read
pub none_read : {S : Type 0} (seen : S → Seen) (b : BuffersState) (olds : List S) → AreReadTo seen 0 b (record b { unit = [] }) olds olds
none_read seen b olds = record {
  owns = λ c. [];
  gives = λ c d before. absurd (omega (arith, before));
  none = λ c after. refl;
  others = λ c d after. refl;
  size = refl;
  fill = refl;
  held = λ c before. absurd (omega (arith, before));
  others_held = λ c after. refl;
  count = refl;
  captures = refl;
  unit = sym (blocks_none b.fill (λ c. []));
  room = omega arith;
}

module _ {S : Type 0} (seen : S → Seen) (n : ℕ) (b b1 : BuffersState) (olds mids : List S) (x : S) (r : AreReadTo seen n b b1 olds mids) (inside : n < length olds) where
  -- a capture other than the next one is as it was
  stays : (c : ℕ) (d : S) → c ≢ n → slice_index_or (slice_set mids n x) c d ≡ slice_index_or mids c d
  stays c d not = get_or-set_other mids n c x d not

  here : (d : S) → slice_index_or (slice_set mids n x) n d ≡ x
  here d = get_or-set_same mids n x d (omega (arith, inside, r.captures))

  -- the next one is read
  pub one_read : (b2 : BuffersState) (before : S) → ((d : S) → slice_index_or mids n d ≡ before) → n < length b.held → IsReadInto n b1 b2 (seen before) (seen x)
      → AreReadTo seen (n + 1) b b2 olds (slice_set mids n x)
  one_read b2 before was counted into =
      let owns = put_at n into.own r.owns in
      let held2 : b2.held ≡ slice_set b1.held n (length into.own) = ap (λ (b : BuffersState). b.held) into.becomes in
      let unit2 : b2.unit ≡ b1.unit ++ block_written b1.fill into.own = ap (λ (b : BuffersState). b.unit) into.becomes in
      record {
        owns = owns;
        gives = λ c d below. elim (cases_lt c n) [
          | inl earlier ↦
              subst (λ o. GivesBlock b.size (slice_index b.held c) o (seen (slice_index_or olds c d)) (seen (slice_index_or (slice_set mids n x) c d))) (sym (put_below n into.own r.owns c earlier))
              (subst (λ s. GivesBlock b.size (slice_index b.held c) (r.owns c) (seen (slice_index_or olds c d)) (seen s)) (sym (stays c d (λ is. absurd (omega (arith, is, earlier))))) (r.gives c d earlier))
          | inr later ↦
              let is : n ≡ c = omega (arith, later, below) in
              subst (λ m. GivesBlock b.size (slice_index b.held m) (owns m) (seen (slice_index_or olds m d)) (seen (slice_index_or (slice_set mids n x) m d))) is
              (subst (λ o. GivesBlock b.size (slice_index b.held n) o (seen (slice_index_or olds n d)) (seen (slice_index_or (slice_set mids n x) n d))) (sym (put_here n into.own r.owns))
              (subst (λ s. GivesBlock b.size (slice_index b.held n) into.own (seen (slice_index_or olds n d)) (seen s)) (sym (here d))
              (subst (λ s. GivesBlock b.size (slice_index b.held n) into.own (seen s) (seen x)) (sym (was d) ∙ r.others n d (omega arith))
              (subst (λ h. GivesBlock b.size h into.own (seen before) (seen x)) (r.others_held n (omega arith))
              (subst (λ s. GivesBlock s (slice_index b1.held n) into.own (seen before) (seen x)) r.size into.gives)))))
        ];
        none = λ c after. put_above n into.own r.owns c (omega (arith, after));
        others = λ c d after. stays c d (λ is. absurd (omega (arith, is, after))) ∙ r.others c d (omega (arith, after));
        size = ap (λ (b : BuffersState). b.size) into.becomes ∙ r.size;
        fill = ap (λ (b : BuffersState). b.fill) into.becomes ∙ r.fill;
        held = λ c below. elim (cases_lt c n) [
          | inl earlier ↦
              ap (λ l. slice_index l c) held2 ∙ get_or-set_other b1.held n c (length into.own) 0 (λ is. absurd (omega (arith, is, earlier))) ∙ r.held c earlier
              ∙ ap length (sym (put_below n into.own r.owns c earlier))
          | inr later ↦
              let is : n ≡ c = omega (arith, later, below) in
              subst (λ m. slice_index b2.held m ≡ length (owns m)) is
              (ap (λ l. slice_index l n) held2 ∙ get_or-set_same b1.held n (length into.own) 0 (omega (arith, counted, r.count)) ∙ ap length (sym (put_here n into.own r.owns)))
        ];
        others_held = λ c after. ap (λ l. slice_index l c) held2 ∙ get_or-set_other b1.held n c (length into.own) 0 (λ is. absurd (omega (arith, is, after))) ∙ r.others_held c (omega (arith, after));
        count = ap length held2 ∙ length-set b1.held n (length into.own) ∙ r.count;
        captures = length-set mids n x ∙ r.captures;
        unit =
            unit2 ∙ ap (λ l. l ++ block_written b1.fill into.own) (r.unit ∙ blocks_same b.fill r.owns owns n (λ c below. sym (put_below n into.own r.owns c below)))
            ∙ ap (λ f. filled_blocks b.fill owns n ++ block_written f into.own) r.fill ∙ ap (λ o. filled_blocks b.fill owns n ++ block_written b.fill o) (sym (put_here n into.own r.owns))
            ∙ sym (blocks_more b.fill owns n);
        room = omega (arith, into.room, r.room);
      }

  -- a read of it failed
  pub one_broken : (before : S) (own : List ℕ) → ((d : S) → slice_index_or mids n d ≡ before) → BreaksBlock b1.size (slice_index b1.held n) own (seen before) (seen x)
      → HasFailedAt seen n b olds (slice_set mids n x)
  one_broken before own was breaks =
      let owns = put_at n own r.owns in
      record {
        capture = inside;
        owns = owns;
        gives = λ c d earlier.
            subst (λ o. GivesBlock b.size (slice_index b.held c) o (seen (slice_index_or olds c d)) (seen (slice_index_or (slice_set mids n x) c d))) (sym (put_below n own r.owns c earlier))
            (subst (λ s. GivesBlock b.size (slice_index b.held c) (r.owns c) (seen (slice_index_or olds c d)) (seen s)) (sym (stays c d (λ is. absurd (omega (arith, is, earlier))))) (r.gives c d earlier));
        breaks = λ d.
            subst (λ o. BreaksBlock b.size (slice_index b.held n) o (seen (slice_index_or olds n d)) (seen (slice_index_or (slice_set mids n x) n d))) (sym (put_here n own r.owns))
            (subst (λ s. BreaksBlock b.size (slice_index b.held n) own (seen (slice_index_or olds n d)) (seen s)) (sym (here d))
            (subst (λ s. BreaksBlock b.size (slice_index b.held n) own (seen s) (seen x)) (sym (was d) ∙ r.others n d (omega arith))
            (subst (λ h. BreaksBlock b.size h own (seen before) (seen x)) (r.others_held n (omega arith))
            (subst (λ s. BreaksBlock s (slice_index b1.held n) own (seen before) (seen x)) r.size breaks))));
        none = λ c after. put_above n own r.owns c after;
        others = λ c d after. stays c d (λ is. absurd (omega (arith, is, after))) ∙ r.others c d (omega (arith, after));
      }
