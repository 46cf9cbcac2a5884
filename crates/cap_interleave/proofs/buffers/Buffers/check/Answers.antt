-- The proof of `check` in src/buffers.rt.
use Rattle.std.proofs.Common.{◌≡◌, ◌∙◌, ◌==◌, ◌<◌, ◌≤◌, ap, sym, subst, arith, false, true, refl, nat_lt, position, Some, None, length, slice_index, is_some}
use Rattle.std.specs.List.{list_all}
use Rattle.std.proofs.lemmas.List.{get_or_default}
use Rattle.cap_interleave.specs.Inner.{BuffersState}
use Rattle.cap_interleave.proofs.HeldLemmas.{all_whole, first_short, some_came}
use Rattle.cap_interleave.proofs.buffers.Buffers.check.Goals as goal

pub returns-then-is_some : goal.returns-then-is_some
returns-then-is_some c =
    let held : c.self.inside.held.items ≡ c.args.self.now.held = ap (λ (b : BuffersState). b.held) c.self.view_is in
    let fill : is_some c.self.inside.lost ≡ c.args.self.now.fill = ap (λ (b : BuffersState). b.fill) c.self.view_is in
    let some : list_all (λ h. h == 0) c.args.self.now.held ≡ false =
    ap (list_all (λ h. h == 0)) (sym held ∙ sym c.deref.ensures.value) ∙ sym c.are_empty.ensures ∙ c.if-are_empty.false in
    (some_came c.args.self.now.held some, λ none. let no : false ≡ true = sym none ∙ sym fill ∙ sym c.is_some.ensures ∙ c.if-is_some.true in absurd cc)

pub overflow_cast-result-in-Some : goal.overflow_cast-result-in-Some
overflow_cast-result-in-Some c =
    let short = first_short c.len.result c.deref-2.result.now c.in-Some.capture (sym c.first_short.ensures ∙ c.in-Some.is) in
    let same : slice_index c.deref-2.result.now c.in-Some.capture ≡ slice_index c.self.inside.held.items c.in-Some.capture = ap (λ l. slice_index l c.in-Some.capture) c.deref-2.ensures.value in
    let inside : c.in-Some.capture < length c.self.inside.held.items = subst (λ l. c.in-Some.capture < length l) c.deref-2.ensures.value short.0 in
    let here : c.index.result.now ≡ slice_index c.self.inside.held.items c.in-Some.capture =
    c.index.ensures ∙ get_or_default c.self.inside.held.items c.in-Some.capture c.index.result.now 0 inside in
    omega (arith, here, same, short.1, c.len.ensures, c.self.invariant)

pub returns-in-None : goal.returns-in-None
returns-in-None c =
    let held : c.self.inside.held.items ≡ c.args.self.now.held = ap (λ (b : BuffersState). b.held) c.self.view_is in
    let size : c.len.result ≡ c.args.self.now.size = c.len.ensures ∙ ap (λ (b : BuffersState). b.size) c.self.view_is in
    let some : list_all (λ h. h == 0) c.args.self.now.held ≡ false =
    ap (list_all (λ h. h == 0)) (sym held ∙ sym c.deref.ensures.value) ∙ sym c.are_empty.ensures ∙ c.if-are_empty.false in
    let none : position (λ h. nat_lt h c.len.result) c.deref-2.result.now ≡ None = sym c.first_short.ensures ∙ c.in-None.is in (
      some_came c.args.self.now.held some,
      λ not_filled. subst (λ s. (b : _) → b < length c.args.self.now.held → s ≤ slice_index c.args.self.now.held b) size
          (subst (λ l. (b : _) → b < length l → c.len.result ≤ slice_index l b) (c.deref-2.ensures.value ∙ held) (all_whole c.len.result c.deref-2.result.now none)),
    )

pub returns-in-Some : goal.returns-in-Some
returns-in-Some c =
    let held : c.self.inside.held.items ≡ c.args.self.now.held = ap (λ (b : BuffersState). b.held) c.self.view_is in
    let size : c.len.result ≡ c.args.self.now.size = c.len.ensures ∙ ap (λ (b : BuffersState). b.size) c.self.view_is in
    let fill : is_some c.self.inside.lost ≡ c.args.self.now.fill = ap (λ (b : BuffersState). b.fill) c.self.view_is in
    let some : list_all (λ h. h == 0) c.args.self.now.held ≡ false =
    ap (list_all (λ h. h == 0)) (sym held ∙ sym c.deref.ensures.value) ∙ sym c.are_empty.ensures ∙ c.if-are_empty.false in
    let is : position (λ h. nat_lt h c.len.result) c.deref-2.result.now ≡ Some c.in-Some.capture = sym c.first_short.ensures ∙ c.in-Some.is in
    let short = first_short c.len.result c.deref-2.result.now c.in-Some.capture is in
    let same : slice_index c.deref-2.result.now c.in-Some.capture ≡ slice_index c.args.self.now.held c.in-Some.capture = ap (λ l. slice_index l c.in-Some.capture) (c.deref-2.ensures.value ∙ held) in
    let inside : c.in-Some.capture < length c.args.self.now.held = subst (λ l. c.in-Some.capture < length l) (c.deref-2.ensures.value ∙ held) short.0 in
    let here : c.index.result.now ≡ slice_index c.args.self.now.held c.in-Some.capture =
    c.index.ensures ∙ get_or_default c.self.inside.held.items c.in-Some.capture c.index.result.now 0 (subst (λ l. c.in-Some.capture < length l) (sym held) inside) ∙ ap (λ l. slice_index l c.in-Some.capture) held in (
      refl,
      sym fill ∙ sym c.is_some.ensures ∙ c.if-is_some.false,
      some_came c.args.self.now.held some,
      inside,
      λ b before. subst (λ s. s ≤ slice_index c.args.self.now.held b) size (subst (λ l. c.len.result ≤ slice_index l b) (c.deref-2.ensures.value ∙ held) (short.2 b before)),
      sym here,
      omega (arith, here, same, short.1, size),
    )
