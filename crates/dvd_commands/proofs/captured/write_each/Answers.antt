-- The proof of `write_each` in src/captured.rt.
use Rattle.std.proofs.Common.{◌≡◌, ◌∙◌, ◌++◌, List, ℕ, [], sym, ap, subst, append_assoc, append-nil, rules}
use Rattle.std.proofs.lemmas.List.{nil_from_length}
use Rattle.dvd_ports.specs.Bytes.{Appends}
use Rattle.std.specs.Slice.Iter.{chunks_rest}
use Rattle.dvd_capture.proofs.ListedWritten.{prefix-after}
use Rattle.dvd_ports.specs.Whole.{AppendsPrefix}
use Rattle.dvd_ports.proofs.KnownLemmas.{Appends-none, Appends-then}
use Rattle.dvd_ports.proofs.StopLemmas.{fails_after, goes_on, unmoved}
use Rattle.dvd_commands.proofs.SeveralWrites.{writes_failed}
use Rattle.dvd_commands.proofs.captured.write_each.Goals as goal

pub loop-sector-init : goal.loop-sector-init
loop-sector-init g c = (search rules, tt, search rules, unmoved _, ([], Appends-none _, search rules))

pub loop-sector-preserved : goal.loop-sector-preserved
loop-sector-preserved g c =
    let steps = c.in-Some.ensures.steps in
    let (done, before, whole) = c.loop-sector.invariant.4 in
    let sector = c.in-Some.sector.now in (
      search rules,
      tt,
      steps.0 ∙ c.loop-sector.invariant.2,
      goes_on _ _ _ c.loop-sector.invariant.3 c.in_ok-write_whole.ensures.cause.steady,
      (
        done ++ sector,
        Appends-then _ _ _ done sector before c.in_ok-write_whole.ensures.written,
        append_assoc done sector (chunks_rest c.next.new.self) ∙ ap (λ (l : List ℕ). done ++ l) (sym steps.1.0) ∙ whole,
      ),
    )

pub returns-in_err-write_whole : goal.returns-in_err-write_whole
returns-in_err-write_whole g c =
    let (done, before, whole) = c.loop-sector.invariant.4 in
    let split : done ++ (c.in-Some.sector.now ++ chunks_rest c.next.new.self) ≡ c.args.sectors.now = ap (λ (l : List ℕ). done ++ l) (sym c.in-Some.ensures.steps.1.0) ∙ whole in
    writes_failed c.from_residual.result _ _ _ c.from_residual.ensures.0
    (subst (AppendsPrefix _ _) split (prefix-after _ _ _ done c.in-Some.sector.now (chunks_rest c.next.new.self) before c.in_err-write_whole.ensures.begun))
    (fails_after _ _ _ c.loop-sector.invariant.3 c.in_err-write_whole.ensures.cause.failed)

pub returns : goal.returns
returns g c =
    let (done, before, whole) = c.loop-sector.invariant.4 in
    let none = nil_from_length (chunks_rest c.loop-sector.sector-iterator) c.in-None.ensures.steps.1.0 in
    let is : done ≡ c.args.sectors.now = sym (append-nil done) ∙ ap (λ (l : List ℕ). done ++ l) (sym none) ∙ whole in
    record {
      written = subst (Appends _ _) is before;
      begun = tt;
      cause = record { failed = tt; steady = c.loop-sector.invariant.3 };
    }
