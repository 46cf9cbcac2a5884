-- A run over known bytes is one of units that may have no others.
use Rattle.std.proofs.Common.{◌≡◌, ◌∙◌, inl, inr, ℕ, zero, suc, ◌+◌, List, [], ◌∷◌, ◌++◌, length, length-append, take, drop, ap, sym, append_assoc, add-one, refl, arith}
use Rattle.dvd_capture.proofs.Fetching.{part-append, part-after}
use Rattle.dvd_loop.specs.Machine.{Continues, ContinuesAfter, IsOutcome, Outcome, Units, bad_of, sized}
use Rattle.dvd_loop.specs.declared.ends.UnitKind.{UnitKind}
use Rattle.dvd_loop.specs.declared.ends.UnitKind.TheVariants.{Good, Bad, Last}
use Rattle.dvd_loop.proofs.Over.{start, start-suc, start-zero}
use Rattle.dvd_loop.proofs.Sizes.{unit_size}
use Rattle.dvd_loop.proofs.StepLemmas.{does_as, taken_then}

-- what follows from a thing that holds after a unit holds there too
goes_on_as : (kind : UnitKind) (A B : Outcome → Type 0) → ((after : Outcome) → A after → B after) → (after : Outcome) → ContinuesAfter kind A after
    → ContinuesAfter kind B after
goes_on_as Good A B to after goes = to after goes
goes_on_as Bad A B to after goes = to after goes
goes_on_as Last A B to after goes = goes

-- the bytes after those of the units before
pub own_is : (all prefix own left : List ℕ) (a n : ℕ) → all ≡ (prefix ++ own) ++ left → length prefix ≡ a → length own ≡ n → own ≡ take n (drop a all)
own_is all prefix own left a n is at size =
    sym (part-after prefix own a n at size)
    ∙ sym (part-append (prefix ++ own) left a n (omega (arith, length-append prefix own)))
    ∙ ap (λ l. take n (drop a l)) (sym is)

module _ (units : Units) (size : ℕ → ℕ) (begins : (k : ℕ) (bytes : List ℕ) → units.begins k bytes ≡ sized (size k) bytes) (all : List ℕ) where
  -- the units, whose bytes are those at their places
  abbrev pub only_these : Units
  only_these = record units { does = λ k before own steps kind. units.does k before own steps kind × (own ≡ take (size k) (drop (start size k) all)) }

  -- a run after some of the units, over what is left of the bytes, is one of units that may have no others
  goes_only : (n : ℕ) (before : List (List ℕ)) (bad : ℕ) (prefix left : List ℕ) (a : Outcome) → all ≡ prefix ++ left
      → length prefix ≡ start size (length before)
      → Continues units n before bad left a → Continues only_these n before bad left a
  unfolding Continues
  goes_only zero before bad prefix left a is at goes = goes
  goes_only (suc n) before bad prefix left a is at (inl w) = inl (record { own = w.own; left = w.left; prefix = w.prefix; ends = w.ends; takes = w.takes })
  goes_only (suc n) before bad prefix left a is at (inr t) =
      let own_size = unit_size units size begins (length before) t.own t.unit.whole in
      let parts : all ≡ (prefix ++ t.own) ++ t.left = is ∙ ap (λ l. prefix ++ l) t.prefix ∙ sym (append_assoc prefix t.own t.left) in
      let one = length-append before (t.own ∷ []) in
      let further : length (prefix ++ t.own) ≡ start size (length (before ++ t.own ∷ [])) =
      length-append prefix t.own ∙ omega (arith, at, own_size, start-suc size (length before)) ∙ ap (start size) (sym (one ∙ add-one (length before))) in
      let A : Outcome → Type 0 = Continues units n (before ++ t.own ∷ []) (bad + bad_of t.kind) t.left in
      let B : Outcome → Type 0 = Continues only_these n (before ++ t.own ∷ []) (bad + bad_of t.kind) t.left in
      inr (taken_then only_these before _ left t.own t.left t.steps t.kind a t.after t.prefix
      (record { whole = t.unit.whole; does = (t.unit.does, own_is all prefix t.own t.left (start size (length before)) (size (length before)) parts at own_size) })
      (does_as t.steps (ContinuesAfter t.kind A) (ContinuesAfter t.kind B)
      (goes_on_as t.kind A B (λ after goes. goes_only n (before ++ t.own ∷ []) (bad + bad_of t.kind) (prefix ++ t.own) t.left after parts further goes)) t.after t.does) t.takes)

  -- and so is a whole run
  pub runs_only : (a : Outcome) → IsOutcome units all a → IsOutcome only_these all a
  runs_only a runs =
      does_as units.opens (Continues units units.count [] 0 all) (Continues only_these units.count [] 0 all)
      (λ after goes. goes_only units.count [] 0 [] all after refl (sym (start-zero size)) goes) a runs
