-- A run whose units report nothing is the same with any report, which stays as it is.
use Rattle.std.proofs.Common.{◌≡◌, ◌∙◌, inl, inr, ℕ, zero, suc, ◌+◌, Bool, true, false, List, [], ◌∷◌, ◌++◌, length, ap, refl, subst, sym, arith}
use Rattle.dvd_ports.specs.Bytes.{Appends}
use Rattle.dvd_ports.proofs.StopLemmas.{unmoved}
use Rattle.dvd_ports.specs.Seen.{Seen}
use Rattle.dvd_ports.proofs.KnownLemmas.{Appends-none}
use Rattle.dvd_loop.specs.Machine.{Performs, EndsAfterLast, Continues, ContinuesAfter, IsOutcome, Outcome, Step, Units, bad_of, plain_units}
use Rattle.dvd_loop.specs.Machine.Step.{Write, Report}
use Rattle.dvd_loop.specs.Streams.{Counts, HasEnded, is_report_fault, streams, untroubled}
use Rattle.dvd_loop.specs.declared.ends.AfterLast.{AfterLast}
use Rattle.dvd_loop.specs.declared.ends.AfterLast.TheVariants as after_last
use Rattle.dvd_loop.specs.declared.ends.LoopEnd.{LoopEnd}
use Rattle.dvd_loop.specs.declared.ends.UnitKind.{UnitKind}
use Rattle.dvd_loop.specs.declared.ends.UnitKind.TheVariants.{Good, Bad, Last}

-- all of these steps write
abbrev pub AreWrites : List Step → Type 0
AreWrites [] = Unit {0}
AreWrites (Write bytes ∷ steps) = AreWrites steps
AreWrites (Report line ∷ steps) = ⊥

-- no step of these units reports a line
pub record AreSilent (units : Units) : Type 0 where
  pub opens : AreWrites units.opens
  pub does : (k : ℕ) (before : List (List ℕ)) (own : List ℕ) (steps : List Step) (kind : UnitKind) → units.does k before own steps kind → AreWrites steps
  pub closes : (before : List (List ℕ)) (steps : List Step) → units.closes before steps → AreWrites steps

-- a write alone
pub one_write : (steps : List Step) (bytes : List ℕ) → steps ≡ Write bytes ∷ [] → AreWrites steps
one_write steps bytes is = subst AreWrites (sym is) tt

-- units that nothing closes, and of which the opening and each have only writes
pub unclosed_silent : (units : Units) → AreWrites units.opens
    → ((k : ℕ) (before : List (List ℕ)) (own : List ℕ) (steps : List Step) (kind : UnitKind) → units.does k before own steps kind → AreWrites steps)
    → ((before : List (List ℕ)) (steps : List Step) → units.closes before steps → steps ≡ []) → AreSilent units
unclosed_silent units opens write none = record {
  opens = opens;
  does = write;
  closes = λ before steps closes. subst AreWrites (sym (none before steps closes)) tt;
}

-- likewise where nothing opens them
pub plain_silent : (count : ℕ) (size : ℕ → ℕ) (does : ℕ → List ℕ → List Step → UnitKind → Type 0)
    → ((k : ℕ) (own : List ℕ) (steps : List Step) (kind : UnitKind) → does k own steps kind → AreWrites steps) → AreSilent (plain_units count size does)
plain_silent count size does write = unclosed_silent (plain_units count size does) tt (λ k before own. write k own) (λ before steps is. is)

-- these outcomes have no lines
abbrev HaveNoLines : (Outcome → Type 0) → Type 0
HaveNoLines A = (a : Outcome) → A a → a.lines ≡ []

-- nor has an outcome that is one of them
no_lines : (a b : Outcome) → a ≡ b → b.lines ≡ [] → a.lines ≡ []
no_lines a b is none = ap (λ (o : Outcome). o.lines) is ∙ none

-- after steps that write, and where one of them fails
steps_silent : (steps : List Step) → AreWrites steps → (A : Outcome → Type 0) → HaveNoLines A → HaveNoLines (Performs steps A)
steps_silent [] are A none a does = none a does
steps_silent (Write bytes ∷ steps) are A none a does = elim does [
  | inl (prefix, left, whole, some, fails) ↦ no_lines a _ fails refl
  | inr (after, goes, is) ↦ no_lines a _ is (steps_silent steps are A none after goes)
]
steps_silent (Report line ∷ steps) are A none a does = absurd are

-- after the last unit
behind_silent : (rule : AfterLast) (bad : ℕ) (left : List ℕ) → HaveNoLines (EndsAfterLast rule bad left)
behind_silent after_last.Done bad left a is = no_lines a _ is refl
behind_silent after_last.NoControl bad left a is = no_lines a _ is refl
behind_silent after_last.EndOfInput bad [] a ends = elim ends [
  | inl is ↦ no_lines a _ is refl
  | inr is ↦ no_lines a _ is refl
]
behind_silent after_last.EndOfInput bad (byte ∷ left) a ends = elim ends [
  | inl is ↦ no_lines a _ is refl
  | inr is ↦ no_lines a _ is refl
]

-- after a unit
kind_silent : (kind : UnitKind) (A : Outcome → Type 0) → HaveNoLines A → HaveNoLines (ContinuesAfter kind A)
kind_silent Good A none a goes = none a goes
kind_silent Bad A none a goes = none a goes
kind_silent Last A none a is = no_lines a _ is refl

-- a stream that never stops hasn't failed, and so one that nobody touched hasn't
none_failed : (fails : Bool) (before moved : List ℕ) (s : Seen) → Counts fails (untroubled before) (untroubled moved) → Counts fails s s
none_failed false before moved s on = unmoved s
none_failed true before moved s failed = absurd (omega (arith, failed.faults))

module _ (units : Units) (are : AreSilent units) where
  -- from a unit on
  goes_silent : (n : ℕ) (before : List (List ℕ)) (bad : ℕ) (bytes : List ℕ) → HaveNoLines (Continues units n before bad bytes)
  unfolding Continues
  goes_silent zero before bad bytes a (steps, closes, does) =
      steps_silent steps (are.closes before steps closes) (EndsAfterLast units.after_last bad bytes) (behind_silent units.after_last bad bytes) a does
  goes_silent (suc n) before bad bytes a goes = elim goes [
    | inl w ↦ no_lines a _ w.takes refl
    | inr t ↦
        let Next = Continues units n (before ++ t.own ∷ []) (bad + bad_of t.kind) t.left in
        no_lines a _ t.takes (steps_silent t.steps (are.does (length before) before t.own t.steps t.kind t.unit.does) (ContinuesAfter t.kind Next)
        (kind_silent t.kind Next (goes_silent n (before ++ t.own ∷ []) (bad + bad_of t.kind) t.left)) t.after t.does)
  ]

  -- a run without a report is one beside any
  pub beside : {before moved : List ℕ} (source new_source output new_output report : Seen) (end : LoopEnd)
      → HasEnded (IsOutcome units) (streams source output (untroubled before)) (streams new_source new_output (untroubled moved)) end
      → HasEnded (IsOutcome units) (streams source output report) (streams new_source new_output report) end
  beside {before = before} {moved = moved} source new_source output new_output report end ended =
      let comes = ended.comes in
      let none = steps_silent units.opens are.opens (Continues units units.count [] 0 comes.bytes) (goes_silent units.count [] 0 comes.bytes) comes.outcome comes.holds in
      record {
        comes = record {
          bytes = comes.bytes;
          known = comes.known;
          outcome = comes.outcome;
          holds = comes.holds;
          ends = comes.ends;
          moved = record {
            reads = comes.moved.reads;
            writes = comes.moved.writes;
            reports = subst (Appends report.bytes report.bytes) (sym none) (Appends-none report.bytes);
          };
        };
        causes = record {
          source = ended.causes.source;
          output = ended.causes.output;
          report = none_failed (is_report_fault end) before moved report ended.causes.report;
        };
      }
