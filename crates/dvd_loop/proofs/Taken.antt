-- What a run that ends as Done has read: the bytes of all units.
use Rattle.std.proofs.Common.{◌≡◌, inl, inr, ℕ, zero, suc, ◌+◌, List, [], ◌∷◌, ◌++◌, length, length-append, refl, ap, sym, subst, ◌∙◌, add-one, arith}
use Rattle.dvd_loop.specs.Laws.{IsFaultless, IsNever}
use Rattle.dvd_loop.specs.Machine.{Performs, EndsAfterLast, Continues, IsOutcome, Outcome, Units, bad_of, sized}
use Rattle.dvd_loop.specs.UnitCommand.{reported, written}
use Rattle.dvd_loop.specs.declared.ends.AfterLast.{AfterLast}
use Rattle.dvd_loop.specs.declared.ends.AfterLast.TheVariants as after_last
use Rattle.dvd_loop.specs.declared.ends.LoopEnd.TheVariants.{Done, Long, NoControl, ReadFault, Short}
use Rattle.dvd_loop.specs.declared.ends.UnitKind.TheVariants.{Last}
use Rattle.dvd_loop.proofs.Faultless.{all_done}
use Rattle.dvd_loop.proofs.Over.{start, start-suc, start-zero}
use Rattle.dvd_loop.proofs.Sizes.{goes_one}
use Rattle.dvd_loop.proofs.StepLemmas.{onto}

-- So many bytes are taken, and all of them where one more is asked for after the last unit.
record TakesAll (rule : AfterLast) (count : ℕ) (bytes : List ℕ) (a : Outcome) : Type 0 where
  number : length a.taken ≡ count
  all : rule ≡ after_last.EndOfInput → a.taken ≡ bytes

-- an outcome equal to one that ends as done ends so too
end_is : (a b : Outcome) → a ≡ b → a.end ≡ Done → b.end ≡ Done
end_is a b is done = subst (λ (o : Outcome). o.end ≡ Done) is done

-- what takes nothing has taken the bytes of no units, and all there is where one byte more is asked for
none_taken : (rule : AfterLast) (bytes : List ℕ) (a x : Outcome) → a ≡ x → x.taken ≡ [] → (rule ≡ after_last.EndOfInput → x.taken ≡ bytes)
    → TakesAll rule 0 bytes a
none_taken rule bytes a x is none all = subst (TakesAll rule 0 bytes) (sym is) (record { number = ap length none; all = all })

-- a run that is done takes nothing after the last unit, and none is left where one byte more is asked for
behind_takes : (rule : AfterLast) (bad : ℕ) (bytes : List ℕ) (a : Outcome) → EndsAfterLast rule bad bytes a → a.end ≡ Done → TakesAll rule 0 bytes a
behind_takes after_last.Done bad bytes a is done = none_taken after_last.Done bytes a _ is refl (λ no. absurd cc)
behind_takes after_last.NoControl bad bytes a is done = absurd (let no : NoControl ≡ Done = end_is a _ is done in cc)
behind_takes after_last.EndOfInput bad [] a ends done = elim ends [
  | inl is ↦ none_taken after_last.EndOfInput [] a _ is refl (λ asks. refl)
  | inr is ↦ absurd (let no : ReadFault ≡ Done = end_is a _ is done in cc)
]
behind_takes after_last.EndOfInput bad (byte ∷ left) a ends done = elim ends [
  | inl is ↦ absurd (let no : Long ≡ Done = end_is a _ is done in cc)
  | inr is ↦ absurd (let no : ReadFault ≡ Done = end_is a _ is done in cc)
]

-- a unit before it adds its own bytes to both
takes_more : (rule : AfterLast) (own left w t : List ℕ) (count : ℕ) (after : Outcome) → TakesAll rule count left after
    → TakesAll rule (length own + count) (own ++ left) (onto own w t after)
takes_more rule own left w t count after takes = record {
  number = length-append own after.taken ∙ ap (λ n. length own + n) takes.number;
  all = λ asks. ap (λ l. own ++ l) (takes.all asks);
}

module _ (units : Units) (size : ℕ → ℕ) (begins : (k : ℕ) (bytes : List ℕ) → units.begins k bytes ≡ sized (size k) bytes) (never : IsNever units Last) where
  -- the units to come take their bytes
  record TakesRest (before : ℕ) (bytes : List ℕ) (a : Outcome) : Type 0 where
    count : ℕ
    further : start size before + count ≡ start size units.count
    takes : TakesAll units.after_last count bytes a

  -- an outcome that equals another takes the same rest
  rest_as : (before : ℕ) (bytes : List ℕ) (a x : Outcome) → a ≡ x → TakesRest before bytes x → TakesRest before bytes a
  rest_as before bytes a x is rest = subst (TakesRest before bytes) (sym is) rest

  -- with n units to come, a run that ends as done takes the bytes of these
  goes_take : (n : ℕ) (before : List (List ℕ)) (bad : ℕ) (bytes : List ℕ) (a : Outcome) → length before + n ≡ units.count
      → Continues units n before bad bytes a → IsFaultless a.end → a.end ≡ Done → TakesRest (length before) bytes a
  unfolding Continues
  goes_take zero before bad bytes a all (steps, closes, does) none done =
      let after_last = all_done steps (EndsAfterLast units.after_last bad bytes) a does none in
      let here : length before ≡ units.count = omega arith in
      let takes = behind_takes units.after_last bad bytes after_last.after after_last.holds (end_is a _ after_last.is done) in
      rest_as (length before) bytes a _ after_last.is (record {
        count = 0;
        further = omega (arith, ap (start size) here);
        takes = record { number = takes.number; all = takes.all };
      })
  goes_take (suc n) before bad bytes a all goes none done = elim (goes_one units size begins n before (λ own steps unit. never (length before) before own steps unit.does) bad bytes a goes none) [
    | inl short ↦ absurd (let no : Short (length before) (length bytes) ≡ Done = end_is a _ short.is done in cc)
    | inr t ↦
        let one : length (before ++ t.own ∷ []) ≡ length before + 1 = length-append before (t.own ∷ []) in
        let later : start size (length (before ++ t.own ∷ [])) ≡ start size (length before) + length t.own =
        ap (start size) (one ∙ add-one (length before)) ∙ start-suc size (length before) ∙ ap (λ m. start size (length before) + m) (sym t.size_is) in
        let rest = goes_take n (before ++ t.own ∷ []) (bad + bad_of t.kind) t.left t.after (omega arith) t.goes t.faultless (end_is a _ t.is done) in
        rest_as (length before) bytes a _ t.is (record {
          count = length t.own + rest.count;
          further = omega (arith, later, rest.further);
          takes = subst (λ l. TakesAll units.after_last (length t.own + rest.count) l (onto t.own (written t.steps) (reported t.steps) t.after)) (sym t.prefix)
              (takes_more units.after_last t.own t.left (written t.steps) (reported t.steps) rest.count t.after rest.takes);
        })
  ]

  -- from the first unit on, a run that ends as done takes the bytes of all
  takes_rest : (bytes : List ℕ) (a : Outcome) → units.opens ≡ [] → IsOutcome units bytes a → a.end ≡ Done → TakesRest 0 bytes a
  takes_rest bytes a opens runs done =
      goes_take units.count [] 0 bytes a (omega arith) (subst (λ l. Performs l (Continues units units.count [] 0 bytes) a) opens runs) (subst IsFaultless (sym done) tt) done

  -- A run that ends as done has taken the bytes of all units.
  pub taken_number : (bytes : List ℕ) (a : Outcome) → units.opens ≡ [] → IsOutcome units bytes a → a.end ≡ Done
      → length a.taken ≡ start size units.count
  taken_number bytes a opens runs done =
      let rest = takes_rest bytes a opens runs done in
      omega (arith, rest.takes.number, rest.further, start-zero size)

  -- They are the whole input, where one byte more is asked for after them.
  pub taken_all : (bytes : List ℕ) (a : Outcome) → units.opens ≡ [] → units.after_last ≡ after_last.EndOfInput → IsOutcome units bytes a → a.end ≡ Done
      → a.taken ≡ bytes
  taken_all bytes a opens asks runs done = (takes_rest bytes a opens runs done).takes.all asks
