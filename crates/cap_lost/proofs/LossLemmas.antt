-- Which sectors are lost, line by line.
use Rattle.std.proofs.Common.{◌≡◌, ◌∙◌, ◌⊎◌, ◌↔◌, inl, inr, ℕ, suc, ◌+◌, ◌-◌, ◌≤◌, ◌<◌, ◌==◌, Bool, true, false, nat_lt, is_some, if◌then◌else◌, List, [], ◌∷◌, ◌++◌, length, slice_get, slice_set, Option, None, Some, Result, Ok, Err, refl, ap, sym, subst, arith}
use Rattle.std.specs.Prelude.{IfSome}
use Rattle.std.proofs.lemmas.Bool.{cases_lt, eqb-false, eqb-true, ltb-false}
use Rattle.cap_map.specs.Fields.{lines_of}
use Rattle.dvd_layout.specs.Place.{total_sectors}
use Rattle.dvd_layout.specs.declared.layout.Layout.{Layout}
use Rattle.dvd_layout.specs.declared.layout.Zones.{Zones}
use Rattle.cap_lost.specs.Laws.{AreApart, IsLost, IsInExtent, LossesAreInOrder, LostAreThoseOfRefusedBlocks, OneRefusesBlockOf, RefusesBlockOf}
use Rattle.cap_lost.specs.Map.{last_end}
use Rattle.cap_lost.specs.Report.{Losses, Sayings, after_line, at_end, is_count, is_end, last_of, line_read, line_said, lines_read, nothing_said, with_end, with_extent, with_result, with_said}
use Rattle.cap_lost.specs.declared.draft.Said.{Said}
use Rattle.cap_lost.specs.declared.draft.Said.TheVariants.{Refused, GivenBack, Ended}
use Rattle.cap_lost.specs.declared.extent.Extent.{Extent}
use Rattle.cap_lost.specs.declared.fault.ReportCause.{ReportCause}
use Rattle.cap_lost.specs.declared.fault.ReportCause.TheVariants as causes
use Rattle.cap_lost.proofs.SaidLemmas.{Same, not_refused, of_image, ok_is}

-- one place fewer than two or more
one_less : (n : ℕ) → suc (suc n) - 1 ≡ suc (suc n - 1)
one_less n = omega arith

-- an extent more leaves the first of two or more as it is
first_stays : (x y extent : Extent) (es : List Extent) → with_extent (x ∷ y ∷ es) extent ≡ x ∷ with_extent (y ∷ es) extent
first_stays x y extent es =
    ap (λ last. if is_end last extent.from then with_end (x ∷ y ∷ es) last extent.to else (x ∷ y ∷ es) ++ extent ∷ []) (ap (slice_get (x ∷ y ∷ es)) (one_less (length es)))
    ∙ by_last (last_of (y ∷ es))
  where
    by_same : (b : Bool) (last : Extent)
        → (if b then with_end (x ∷ y ∷ es) (Some last) extent.to else (x ∷ y ∷ es) ++ extent ∷ []) ≡ x ∷ (if b then with_end (y ∷ es) (Some last) extent.to else (y ∷ es) ++ extent ∷ [])
    by_same true last = ap (λ n. slice_set (x ∷ y ∷ es) n (record { from = last.from; to = extent.to })) (one_less (length es))
    by_same false last = refl

    by_last : (last : Option Extent)
        → (if is_end last extent.from then with_end (x ∷ y ∷ es) last extent.to else (x ∷ y ∷ es) ++ extent ∷ [])
        ≡ x ∷ (if is_end last extent.from then with_end (y ∷ es) last extent.to else (y ∷ es) ++ extent ∷ [])
    by_last None = refl
    by_last (Some last) = by_same (last.to == extent.from) last

-- one extent, and one more
by_one : (P : List Extent → Type 0) (x extent : Extent) → ((x.to == extent.from) ≡ true → P ((record { from = x.from; to = extent.to }) ∷ []))
    → ((x.to == extent.from) ≡ false → P (x ∷ extent ∷ [])) → P (with_extent (x ∷ []) extent)
by_one P x extent joined apart = go (x.to == extent.from) refl
  where
    go : (b : Bool) → (x.to == extent.from) ≡ b → P (if b then (record { from = x.from; to = extent.to }) ∷ [] else x ∷ extent ∷ [])
    go true is = joined is
    go false is = apart is

-- extents end at the end of the one more
end_more : (extent : Extent) (at : ℕ) (es : List Extent) → last_end at (with_extent es extent) ≡ extent.to
end_more extent at [] = refl
end_more extent at (x ∷ []) = by_one (λ l. last_end at l ≡ extent.to) x extent (λ is. refl) (λ is. refl)
end_more extent at (x ∷ y ∷ es) = ap (last_end at) (first_stays x y extent es) ∙ end_more extent x.to (y ∷ es)

module _ (extent : Extent) (some : extent.from < extent.to) where
  -- they stay apart
  apart_more : (at : ℕ) (es : List Extent) → AreApart at es → last_end at es ≤ extent.from → AreApart at (with_extent es extent)
  apart_more at [] apart before = (before, some, tt)
  apart_more at (x ∷ []) apart before =
      by_one (AreApart at) x extent
      (λ is. (apart.0, omega (arith, apart.1, before, some), tt))
      (λ is. (apart.0, apart.1, (omega (arith, before, eqb-false x.to extent.from is), some, tt)))
  apart_more at (x ∷ y ∷ es) apart before =
      subst (AreApart at) (sym (first_stays x y extent es)) (apart.0, apart.1, apart_more (x.to + 1) (y ∷ es) apart.2 before)

  module _ (sector : ℕ) where
    -- and their sectors are those of them all
    lost_more : (at : ℕ) (es : List Extent) → AreApart at es → last_end at es ≤ extent.from → IsLost (with_extent es extent) sector ↔ (IsLost es sector ⊎ IsInExtent extent sector)
    lost_more at [] apart before = (swapped, back)
      where
        swapped : IsInExtent extent sector ⊎ ⊥ → ⊥ ⊎ IsInExtent extent sector
        swapped (inl is) = inr is
        swapped (inr is) = absurd is

        back : ⊥ ⊎ IsInExtent extent sector → IsInExtent extent sector ⊎ ⊥
        back (inl is) = absurd is
        back (inr is) = inl is
    lost_more at (x ∷ []) apart before = by_one (λ l. IsLost l sector ↔ (IsLost (x ∷ []) sector ⊎ IsInExtent extent sector)) x extent joined kept
      where
        joined : (x.to == extent.from) ≡ true → IsLost ((record { from = x.from; to = extent.to }) ∷ []) sector ↔ (IsLost (x ∷ []) sector ⊎ IsInExtent extent sector)
        joined is = (one, other)
          where
            meet : x.to ≡ extent.from
            meet = eqb-true x.to extent.from is

            one : IsLost ((record { from = x.from; to = extent.to }) ∷ []) sector → IsLost (x ∷ []) sector ⊎ IsInExtent extent sector
            one (inl within) = elim (cases_lt sector x.to) [
              | inl below ↦ inl (inl (within.0, below))
              | inr above ↦ inr (omega (arith, meet, above), within.1)
            ]
            one (inr none) = absurd none

            other : IsLost (x ∷ []) sector ⊎ IsInExtent extent sector → IsLost ((record { from = x.from; to = extent.to }) ∷ []) sector
            other (inl (inl within)) = inl (within.0, omega (arith, within.1, meet, some))
            other (inl (inr none)) = absurd none
            other (inr within) = inl (omega (arith, within.0, meet, apart.1), within.1)

        kept : (x.to == extent.from) ≡ false → IsLost (x ∷ extent ∷ []) sector ↔ (IsLost (x ∷ []) sector ⊎ IsInExtent extent sector)
        kept is = (one, other)
          where
            one : IsLost (x ∷ extent ∷ []) sector → IsLost (x ∷ []) sector ⊎ IsInExtent extent sector
            one (inl within) = inl (inl within)
            one (inr (inl within)) = inr within
            one (inr (inr none)) = absurd none

            other : IsLost (x ∷ []) sector ⊎ IsInExtent extent sector → IsLost (x ∷ extent ∷ []) sector
            other (inl (inl within)) = inl within
            other (inl (inr none)) = absurd none
            other (inr within) = inr (inl within)
    lost_more at (x ∷ y ∷ es) apart before =
        let rest = lost_more (x.to + 1) (y ∷ es) apart.2 before in
        subst (λ l. IsLost l sector ↔ (IsLost (x ∷ y ∷ es) sector ⊎ IsInExtent extent sector)) (sym (first_stays x y extent es)) (one rest.0, other rest.1)
      where
        past : IsLost (y ∷ es) sector ⊎ IsInExtent extent sector → IsLost (x ∷ y ∷ es) sector ⊎ IsInExtent extent sector
        past (inl lost) = inl (inr lost)
        past (inr is) = inr is

        one : (IsLost (with_extent (y ∷ es) extent) sector → IsLost (y ∷ es) sector ⊎ IsInExtent extent sector)
            → IsLost (x ∷ with_extent (y ∷ es) extent) sector → IsLost (x ∷ y ∷ es) sector ⊎ IsInExtent extent sector
        one rest (inl within) = inl (inl within)
        one rest (inr lost) = past (rest lost)

        other : (IsLost (y ∷ es) sector ⊎ IsInExtent extent sector → IsLost (with_extent (y ∷ es) extent) sector)
            → IsLost (x ∷ y ∷ es) sector ⊎ IsInExtent extent sector → IsLost (x ∷ with_extent (y ∷ es) extent) sector
        other rest (inl (inl within)) = inl within
        other rest (inl (inr lost)) = inr (rest (inl lost))
        other rest (inr is) = inr (rest (inr is))

-- What was said is in order, and within the image.
pub record AreInOrder (layout : Layout) (said : Sayings) : Type 0 where
  pub apart : AreApart 0 said.extents
  pub before : last_end 0 said.extents ≤ said.next
  pub written : IfSome said.written (λ written. (last_end 0 said.extents ≤ written) × (written ≤ total_sectors layout))

module _ (layout : Layout) (zones : Zones) (sector : ℕ) where
  -- a line more is in order, and its sectors are those lost by it
  record Adds (said next : Sayings) (line : List ℕ) : Type 0 where
    in_order : AreInOrder layout next
    lost : IsLost next.extents sector ↔ (IsLost said.extents sector ⊎ RefusesBlockOf layout zones sector line)

  module _ (said : Sayings) (line : List ℕ) (sound : AreInOrder layout said) (goes_on : is_some said.written ≡ false) where
    -- no refused block is named
    none_lost : (other : Said) → line_said layout zones line ≡ Ok other → ((extent : Extent) → Same {A = Said} {E = ReportCause} (Ok other) (Ok (Refused extent)) → ⊥)
        → IsLost said.extents sector ↔ (IsLost said.extents sector ⊎ RefusesBlockOf layout zones sector line)
    none_lost other is differs = (inl, back)
      where
        back : IsLost said.extents sector ⊎ RefusesBlockOf layout zones sector line → IsLost said.extents sector
        back (inl lost) = lost
        back (inr refuses) = absurd (differs refuses.0 (sym is ∙ refuses.1))

    still_open : (extents : List Extent) → IfSome said.written (λ written. (last_end 0 extents ≤ written) × (written ≤ total_sectors layout))
    still_open extents = go said.written goes_on
      where
        go : (written : Option ℕ) → is_some written ≡ false → IfSome written (λ written. (last_end 0 extents ≤ written) × (written ≤ total_sectors layout))
        go None is = tt
        go (Some written) is = absurd cc

    by_refused : (extent : Extent) (next : Sayings) → line_said layout zones line ≡ Ok (Refused extent) → with_said said (Refused extent) ≡ Ok next → Adds said next line
    by_refused extent next is more =
        let now : Sayings = record { extents = with_extent said.extents extent; next = extent.to; refused = said.refused + 1; written = said.written } in
        let taken = not_refused (nat_lt extent.from said.next) causes.Order (Ok now) next more in
        let some : extent.from < extent.to = of_image layout zones (Refused extent) line is in
        let without_prefix : last_end 0 said.extents ≤ extent.from = omega (arith, sound.before, ltb-false extent.from said.next taken.0) in
        let lost = lost_more extent some sector 0 said.extents sound.apart without_prefix in
        subst (λ n. Adds said n line) (ok_is now next taken.1) (record {
          in_order = record { apart = apart_more extent some 0 said.extents sound.apart without_prefix; before = omega (arith, end_more extent 0 said.extents); written = still_open (with_extent said.extents extent) };
          lost = (λ l. named (lost.0 l), λ l. lost.1 (unnamed l));
        })
      where
        named : IsLost said.extents sector ⊎ IsInExtent extent sector → IsLost said.extents sector ⊎ RefusesBlockOf layout zones sector line
        named (inl lost) = inl lost
        named (inr within) = inr (extent, is, within)

        unnamed : IsLost said.extents sector ⊎ RefusesBlockOf layout zones sector line → IsLost said.extents sector ⊎ IsInExtent extent sector
        unnamed (inl lost) = inl lost
        unnamed (inr refuses) =
            let same : Refused refuses.0 ≡ Refused extent = ok_is (Refused refuses.0) (Refused extent) (sym refuses.1 ∙ is) in
            let own : refuses.0 ≡ extent = cc in
            inr (subst (λ e. IsInExtent e sector) own refuses.2)

    by_given_back : (extent : Extent) (next : Sayings) → line_said layout zones line ≡ Ok (GivenBack extent) → with_said said (GivenBack extent) ≡ Ok next → Adds said next line
    by_given_back extent next is more =
        let now : Sayings = record said { next = extent.to } in
        let taken = not_refused (nat_lt extent.from said.next) causes.Order (Ok now) next more in
        let some : extent.from < extent.to = of_image layout zones (GivenBack extent) line is in
        subst (λ n. Adds said n line) (ok_is now next taken.1) (record {
          in_order = record { apart = sound.apart; before = omega (arith, sound.before, ltb-false extent.from said.next taken.0, some); written = still_open said.extents };
          lost = none_lost (GivenBack extent) is (λ e same. cc);
        })

    by_ended : (count : Option ℕ) (written : ℕ) (next : Sayings) → line_said layout zones line ≡ Ok (Ended count written) → with_said said (Ended count written) ≡ Ok next → Adds said next line
    by_ended count written next is more = by_count (is_count said.refused count) more
      where
        now : Sayings
        now = record said { written = Some written }

        by_count : (b : Bool) → (if b then (if nat_lt written said.next then Err causes.Order else Ok now) else Err causes.Count) ≡ Ok next → Adds said next line
        by_count true more =
            let taken = not_refused (nat_lt written said.next) causes.Order (Ok now) next more in
            subst (λ n. Adds said n line) (ok_is now next taken.1) (record {
              in_order = record { apart = sound.apart; before = sound.before; written = (omega (arith, sound.before, ltb-false written said.next taken.0), of_image layout zones (Ended count written) line is) };
              lost = none_lost (Ended count written) is (λ e same. cc);
            })
        by_count false more = absurd cc

    by_said : (answer : Result Said ReportCause) (next : Sayings) → line_said layout zones line ≡ answer → with_result said answer ≡ Ok next → Adds said next line
    by_said (Err cause) next is more = absurd cc
    by_said (Ok (Refused extent)) next is more = by_refused extent next is more
    by_said (Ok (GivenBack extent)) next is more = by_given_back extent next is more
    by_said (Ok (Ended count written)) next is more = by_ended count written next is more

  -- a line more
  adds : (said next : Sayings) (line : List ℕ) → AreInOrder layout said → line_read layout zones said line ≡ Ok next → Adds said next line
  adds said next line sound is =
      let answer : Result Sayings ReportCause = with_result said (line_said layout zones line) in
      let short = not_refused (nat_lt 128 (length line)) causes.Line (if is_some said.written then Err causes.AfterEnd else answer) next is in
      let on = not_refused (is_some said.written) causes.AfterEnd answer next short.1 in
      by_said said line sound on.0 (line_said layout zones line) next refl on.1

  -- what all lines say
  record SaysOf (said : Sayings) (losses : Losses) (lines : List (List ℕ)) : Type 0 where
    apart : AreApart 0 losses.extents
    before : last_end 0 losses.extents ≤ losses.written
    written : losses.written ≤ total_sectors layout
    lost : IsLost losses.extents sector ↔ (IsLost said.extents sector ⊎ OneRefusesBlockOf layout zones sector lines)

  by_end : (number : ℕ) (extents : List Extent) (written : Option ℕ) (losses : Losses) (said : Sayings) → said.extents ≡ extents → AreApart 0 extents
      → IfSome written (λ written. (last_end 0 extents ≤ written) × (written ≤ total_sectors layout)) → at_end number extents written ≡ Ok losses → SaysOf said losses []
  by_end number extents None losses said same apart fits is = absurd cc
  by_end number extents (Some written) losses said same apart fits is =
      let now : Losses = record { extents = extents; written = written } in
      subst (λ l. SaysOf said l []) (ok_is now losses is) (record {
        apart = apart;
        before = fits.0;
        written = fits.1;
        lost = (λ l. inl (subst (λ e. IsLost e sector) (sym same) l), back);
      })
    where
      back : IsLost said.extents sector ⊎ ⊥ → IsLost extents sector
      back (inl lost) = subst (λ e. IsLost e sector) same lost
      back (inr none) = absurd none

  -- the lines after the first, read on from what it said
  abbrev SaysOn : Losses → List (List ℕ) → ℕ → Type 0
  SaysOn losses lines number = (next : Sayings) → AreInOrder layout next → lines_read layout zones next number lines ≡ Ok losses → SaysOf next losses lines

  by_read : (said : Sayings) (number : ℕ) (losses : Losses) (line : List ℕ) (lines : List (List ℕ)) (read : Result Sayings ReportCause) → AreInOrder layout said
      → line_read layout zones said line ≡ read → SaysOn losses lines (number + 1)
      → after_line number read (λ next. lines_read layout zones next (number + 1) lines) ≡ Ok losses → SaysOf said losses (line ∷ lines)
  by_read said number losses line lines (Err cause) sound took on is = absurd cc
  by_read said number losses line lines (Ok next) sound took on is =
      let one = adds said next line sound took in
      let rest = on next one.in_order is in
      record {
        apart = rest.apart;
        before = rest.before;
        written = rest.written;
        lost = (λ l. split one (rest.lost.0 l), λ l. rest.lost.1 (joined one l));
      }
    where
      first : IsLost said.extents sector ⊎ RefusesBlockOf layout zones sector line → IsLost said.extents sector ⊎ OneRefusesBlockOf layout zones sector (line ∷ lines)
      first (inl before) = inl before
      first (inr refuses) = inr (inl refuses)

      split : Adds said next line → IsLost next.extents sector ⊎ OneRefusesBlockOf layout zones sector lines → IsLost said.extents sector ⊎ OneRefusesBlockOf layout zones sector (line ∷ lines)
      split one (inl lost) = first (one.lost.0 lost)
      split one (inr refuses) = inr (inr refuses)

      joined : Adds said next line → IsLost said.extents sector ⊎ OneRefusesBlockOf layout zones sector (line ∷ lines) → IsLost next.extents sector ⊎ OneRefusesBlockOf layout zones sector lines
      joined one (inl lost) = inl (one.lost.1 (inl lost))
      joined one (inr (inl refuses)) = inl (one.lost.1 (inr refuses))
      joined one (inr (inr refuses)) = inr refuses

  says_of : (lines : List (List ℕ)) (said : Sayings) (number : ℕ) (losses : Losses) → AreInOrder layout said → lines_read layout zones said number lines ≡ Ok losses → SaysOf said losses lines
  says_of [] said number losses sound is = by_end number said.extents said.written losses said refl sound.apart sound.written is
  says_of (line ∷ lines) said number losses sound is =
      by_read said number losses line lines (line_read layout zones said line) sound refl (λ next sound is. says_of lines next (number + 1) losses sound is) is

none_said : (layout : Layout) → AreInOrder layout nothing_said
none_said layout = record { apart = tt; before = omega arith; written = tt }

pub lost_of_refused : LostAreThoseOfRefusedBlocks
lost_of_refused layout zones text losses sector is =
    let all = says_of layout zones sector (lines_of text) nothing_said 1 losses (none_said layout) is in
    (λ lost. named (all.lost.0 lost), λ refuses. all.lost.1 (inr refuses))
  where
    named : ⊥ ⊎ OneRefusesBlockOf layout zones sector (lines_of text) → OneRefusesBlockOf layout zones sector (lines_of text)
    named (inl none) = absurd none
    named (inr refuses) = refuses

pub in_order : LossesAreInOrder
in_order layout zones text losses is =
    let all = says_of layout zones 0 (lines_of text) nothing_said 1 losses (none_said layout) is in
    (all.apart, all.before, all.written)
