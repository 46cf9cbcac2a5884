-- The proof of `repair_q_words` in src/repairing.rt.
use Rattle.std.proofs.Common.{ℕ, ◌+◌, ◌-◌, ◌≡◌, ◌≤◌, List, Bool, length, sym, ap, ap₂, subst, ◌∙◌, arith}
use Rattle.cd_sector.specs.Repair.{with_word, near_word}
use Rattle.cd_sector.specs.Words.{IsRight}
use Rattle.cd_sector.proofs.Places.{word_size-q}
use Rattle.cd_sector.proofs.NearWords.{q_words-next, q_words-none}
use Rattle.cd_sector.proofs.RightWords.{kept_q}
use Rattle.cd_sector.proofs.repairing.repair_q_words.Goals.{then-faults-word-ne0, else-faults-word-ne0}
use Rattle.cd_sector.proofs.repairing.repair_q_words.Goals as goal

pub loop-word-init : goal.loop-word-init
loop-word-init c = record { size = omega arith; words = λ read _. q_words-none read c.args.sector.now }

pub repair_word-requires : goal.repair_word-requires
repair_word-requires c = (omega arith, (omega arith, (omega arith, sym (word_size-q c.loop-word.word (omega (arith, c.loop-word.auto))))))

pub loop-word-preserved : goal.loop-word-preserved
loop-word-preserved c =
    let word : ℕ = c.loop-word.word in
    let above : 86 ≤ word = omega (arith, c.loop-word.auto) in
    let old : List ℕ = c.args.sector.now in
    elim c.if-faults-word-ne0.branch [
      | then-faults-word-ne0 w ↦ record {
        size = ap length w.sector-is ∙ w.repair_word.ensures.size;
        words = λ read lost_are.
            w.sector-is
            ∙ w.repair_word.ensures.word
            ∙ ap₂ (λ (l : List ℕ) (marks : List Bool). with_word l word (near_word l word marks)) (c.loop-word.invariant.words read lost_are) (w.marks.ensures read lost_are)
            ∙ q_words-next read old word above;
      }
      | else-faults-word-ne0 w ↦
          let n : ℕ = word - 86 in
          let here : 86 + n ≡ word = omega arith in
          let right : IsRight old word = subst (IsRight old) here ((c.q_faults-faults.ensures.right n (omega arith)).0 (omega (arith, w.if-faults-word-ne0.false))) in
          record {
            size = ap length w.sector-is ∙ c.loop-word.invariant.size;
            words = λ read lost_are.
                w.sector-is ∙ c.loop-word.invariant.words read lost_are ∙ kept_q read old word (omega arith) above (omega arith) right;
          }
    ]
