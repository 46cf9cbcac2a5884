-- What an output has however its loop ended, where every loop that no fault ended gives it.
use Rattle.std.proofs.Common.{◌≡◌, ℕ, List, drop, subst, take}
use Rattle.dvd_loop.specs.Laws.{AreTotal, IsFaultless, IsPrefixOf}
use Rattle.dvd_loop.specs.Machine.{IsOutcome, Outcome, Units}
use Rattle.dvd_loop.proofs.Faults.{ends_there, leave_prefixes}
use Rattle.dvd_commands.specs.Bound.{GivesWhatCame}
use Rattle.dvd_commands.proofs.Pieces.{prefix-part}

-- It is so where no fault ended the loop, and of the bytes that came before a failed read; else the output is the front
-- of one that it is so of.
pub record AtAnyEnd (Gives : List ℕ → List ℕ → Type 0) (bytes : List ℕ) (a : Outcome) : Type 0 where
  pub given : GivesWhatCame Gives bytes a
  pub whole : List ℕ
  pub gives : Gives bytes whole
  pub prefix : IsPrefixOf a.out whole

-- every loop has it, where each that no fault ended gives it
pub at_any_end : (Gives : List ℕ → List ℕ → Type 0) (units : Units) → AreTotal units
    → ((bytes : List ℕ) (b : Outcome) → IsOutcome units bytes b → IsFaultless b.end → Gives bytes b.out)
    → (bytes : List ℕ) (a : Outcome) → IsOutcome units bytes a → AtAnyEnd Gives bytes a
at_any_end Gives units total law bytes a runs =
    let (b, so, none, out, lines) = leave_prefixes units total bytes a runs in
    record {
      given = record {
        at_place = law bytes a runs;
        received = λ failed.
            let (c, loops, faultless, taken, written, known) = ends_there units bytes a runs failed in
            subst (Gives a.taken) written (law a.taken c loops faultless);
      };
      whole = b.out;
      gives = law bytes b so none;
      prefix = out;
    }

-- a part of such an output is the front of that part of the whole
pub part-begun : {Gives : List ℕ → List ℕ → Type 0} {bytes : List ℕ} {a : Outcome} (any : AtAnyEnd Gives bytes a) (n p : ℕ) (part : List ℕ)
    → take n (drop p any.whole) ≡ part → IsPrefixOf (take n (drop p a.out)) part
part-begun {a = a} any n p part is = subst (IsPrefixOf (take n (drop p a.out))) is (prefix-part n p a.out any.whole any.prefix)
