-- The proof of `repair_p_words` in src/repairing.rt.
use Rattle.std.proofs.Common.{◌≡◌, ℕ, List, Bool, refl, length, get_or, set, false, sym, ap, ◌∙◌, arith, below_more}
use Rattle.std.specs.Prelude.{replicate}
use Rattle.std.specs.Option.{is_none}
use Rattle.std.proofs.lemmas.List.{length-set, get_or-set_same, get_or-set_other}
use Rattle.cd_sector.specs.Repair.{with_word, near_word, is_lost}
use Rattle.cd_sector.specs.Words.{IsRight}
use Rattle.cd_sector.proofs.Places.{word_size-p}
use Rattle.cd_sector.proofs.NearWords.{p_words-next, p_words-none, lost_then, no_mark}
use Rattle.cd_sector.proofs.RightWords.{kept_p, found_p}
use Rattle.cd_sector.proofs.repairing.repair_p_words.Goals.{then-faults-word-ne0, else-faults-word-ne0}
use Rattle.cd_sector.proofs.repairing.repair_p_words.Goals as goal

pub loop-word-init : goal.loop-word-init
loop-word-init c = record { size = omega arith; words = p_words-none c.args.sector.now; lost_size = refl; said = λ word below. absurd (omega arith); rest = λ word _. no_mark 86 word }

pub repair_word-requires : goal.repair_word-requires
repair_word-requires c = (omega arith, (omega arith, (omega arith, sym (word_size-p c.loop-word.word (omega arith)))))

pub loop-word-preserved : goal.loop-word-preserved
loop-word-preserved c =
    let n : ℕ = c.loop-word.word in
    let read : List ℕ = c.args.sector.now in
    let was : List Bool = c.loop-word.lost in
    let before = c.loop-word.invariant in
    elim c.if-faults-word-ne0.branch [
      | then-faults-word-ne0 w ↦
          let lost : Bool = w.repair_word.result in
          let is : lost ≡ is_lost read n =
          w.repair_word.ensures.lost ∙ ap (λ (l : List ℕ). is_none (near_word l n (replicate 26 false))) before.words ∙ lost_then read n (omega arith) in
          record {
            size = ap length w.sector-is ∙ w.repair_word.ensures.size;
            words = w.sector-is ∙ w.repair_word.ensures.word ∙ ap (λ (l : List ℕ). with_word l n (near_word l n (replicate 26 false))) before.words ∙ p_words-next read n;
            lost_size = ap length w.lost-is ∙ length-set was n lost ∙ before.lost_size;
            rest = λ word above.
                ap (λ (l : List Bool). get_or l word false) w.lost-is ∙ get_or-set_other was n word lost false (omega arith) ∙ before.rest word (omega arith);
            said = λ word below.
                ap (λ (l : List Bool). get_or l word false) w.lost-is
                ∙ below_more (λ (word : ℕ). get_or (set was n lost) word false ≡ is_lost read word) n
                (λ v under. get_or-set_other was n v lost false (omega arith) ∙ before.said v under)
                (get_or-set_same was n lost false (omega (arith, before.lost_size)) ∙ is) word below;
          }
      | else-faults-word-ne0 w ↦
          let right : IsRight read n = (c.p_faults-faults.ensures.right n (omega arith)).0 (omega (arith, w.if-faults-word-ne0.false)) in
          record {
            size = ap length w.sector-is ∙ before.size;
            words = w.sector-is ∙ before.words ∙ kept_p read n (omega arith) (omega arith) right;
            lost_size = ap length w.lost-is ∙ before.lost_size;
            rest = λ word above. ap (λ (l : List Bool). get_or l word false) w.lost-is ∙ before.rest word (omega arith);
            said = λ word below.
                ap (λ (l : List Bool). get_or l word false) w.lost-is
                ∙ below_more (λ (v : ℕ). get_or was v false ≡ is_lost read v) n before.said
                (before.rest n (omega arith) ∙ sym (found_p read n (omega arith) right)) word below;
          }
    ]
