-- The proof of `fill_from` in src/erasures.rt. The corrections are the only ones with which the word may be a codeword.
-- So one that agrees at the unmarked places is the filled word.
use Rattle.std.proofs.Common.{◌≡◌, ◌≢◌, ◌≤◌, length, All, rules, arith, ap, sym, subst, ◌∙◌}
use Rattle.std.proofs.lemmas.List.Elements.{All-from_get_or}
use Rattle.coding.specs.Words.{IsByte, IsCodeword}
use Rattle.rs_code.proofs.Syndromes.{length-syndromes_of}
use Rattle.rs_decode.specs.Patches.{patched}
use Rattle.rs_decode.specs.Inner.Sums.{AreOnly}
use Rattle.coding.specs.Filling.{AgreeUnmarked, marked}
use Rattle.rs_decode.proofs.Fillings.{points-few, value-filled, AgreeUnmarked-patched, no_filling}
use Rattle.rs_decode.proofs.Marks.{patched-twice, point-nonzero}
use Rattle.rs_decode.proofs.erasures.fill_from.Goals as goal
use Rattle.rs_decode.proofs.erasures.fill_from.Goals.{After-len, After-deref, After-patch}

-- as many places are marked as there are points
marked_count : (g : _) (c : After-len g) → c.len.result ≡ marked c.args.erasures.now.marks
marked_count g c = c.len.ensures.value ∙ points-few c.args.erasures.now.marks c.args.erasures.now.points.items c.args.erasures.now.gathered

-- there are as many syndromes as the code has parity bytes
syndromes-count : (g : _) (c : After-deref g) → length c.deref.result.now ≡ g.row.R
syndromes-count g c = ap length (c.deref.ensures.0 ∙ c.requires) ∙ length-syndromes_of g.row.R c.args.word.now

pub corrections-corrections-requires : goal.corrections-corrections-requires
corrections-corrections-requires g c =
    let count = syndromes-count g c in
    let enough : length c.args.erasures.now.points.items ≤ length c.deref.result.now = omega (arith, c.len.ensures.value, c.if-len.false) in
    let room : length c.deref.result.now ≤ 32 = omega (arith, c.args.code.now.bounds) in
    (search rules, (omega (arith, c.args.code.now.bounds), (enough, room)))

-- the bytes are added at the marked places, since the points are theirs
patched_word : (g : _) (c : After-patch g) → c.patch.new.word ≡ patched c.args.word.now c.args.erasures.now.marks c.deref-3.result.now
patched_word g c = c.patch.ensures.patched c.args.erasures.now.marks (c.args.erasures.now.size ∙ sym c.told-word) (c.deref-2.ensures.0 ∙ c.args.erasures.now.gathered)

pub completes-requires : goal.completes-requires
completes-requires g c =
    let marks = c.args.erasures.now.marks in
    let points_are = c.deref-5.ensures.0 ∙ c.args.erasures.now.gathered in
    let same = c.deref-6.ensures.0 ∙ sym c.deref-3.ensures.0 in
    let fits : length c.deref-6.result.now ≡ length c.deref-5.result.now = ap length c.deref-6.ensures.0 ∙ c.corrections-corrections.ensures.size ∙ ap length (sym c.deref-5.ensures.0) in
    let syndromes_are = c.deref-4.ensures.0 ∙ c.requires in
    let nonzero = All-from_get_or (λ point. point ≢ 0) c.deref-5.result.now 0 (λ i. point-nonzero marks c.deref-5.result.now i points_are) in
    let long = ap length syndromes_are ∙ length-syndromes_of g.row.R c.args.word.now in
    let filled_is = patched_word g (goal.at.completes-requires g c).After-patch ∙ ap (patched c.args.word.now marks) (sym same) in
    let values =
    value-filled g.row.R c.args.word.now c.patch.new.word c.deref-4.result.now c.deref-6.result.now c.deref-5.result.now marks (c.told-word ∙ sym c.args.erasures.now.size) fits points_are syndromes_are filled_is in
    (search rules, (search rules, (c.patch.ensures.bytes, (nonzero, (fits, (long, values))))))

-- what was added is added again
pub returns-then-not-completes-clause-same : goal.returns-then-not-completes-clause-same
returns-then-not-completes-clause-same g c =
    let word = c.args.word.now in
    let marks = c.args.erasures.now.marks in
    let bytes = c.deref-3.result.now in
    let alike : length marks ≡ length c.patch.new.word = c.args.erasures.now.size ∙ omega (arith, c.patch.auto.word) in
    let again = c.patch-then-not-completes.ensures.patched marks alike (c.deref-then-not-completes.ensures.0 ∙ c.args.erasures.now.gathered) in
    let same = c.deref-then-not-completes-2.ensures.0 ∙ sym c.deref-3.ensures.0 in
    again ∙ ap (patched c.patch.new.word marks) same
    ∙ ap (λ w. patched w marks bytes) (patched_word g (goal.at.returns-then-not-completes-clause-same g c).After-patch) ∙ patched-twice word marks bytes

pub returns-then-not-completes-clause-err : goal.returns-then-not-completes-clause-err
returns-then-not-completes-clause-err g c =
    let erasures = c.args.erasures.now in
    let word = c.args.word.now in
    let written = patched_word g (goal.at.returns-then-not-completes-clause-err g c).After-patch in
    let only : AreOnly erasures.points.items c.deref.result.now c.deref-3.result.now =
    subst (AreOnly erasures.points.items c.deref.result.now) (sym c.deref-3.ensures.0) c.corrections-corrections.ensures in
    let bytes = subst (All IsByte) (returns-then-not-completes-clause-same g c) c.patch-then-not-completes.ensures.bytes in
    no_filling g.row.N g.row.R word c.deref.result.now erasures.points.items c.deref-3.result.now erasures.marks c.told-word erasures.size bytes erasures.gathered (c.deref.ensures.0 ∙ c.requires) only
    (λ codeword. absurd (cc (c.completes.ensures.1 (subst (IsCodeword g.row.N g.row.R) (sym written) codeword))))

pub returns-clause-ok : goal.returns-clause-ok
returns-clause-ok g c =
    let erasures = c.args.erasures.now in
    record {
      codeword = c.completes.ensures.0 c.if-not-completes.false;
      agrees =
          subst (AgreeUnmarked erasures.marks c.args.word.now) (sym (patched_word g (goal.at.returns-clause-ok g c).After-patch))
          (AgreeUnmarked-patched c.args.word.now erasures.marks c.deref-3.result.now (c.told-word ∙ sym erasures.size));
      within = omega (arith, c.if-len.false, marked_count g (goal.at.returns-clause-ok g c).After-len);
    }

-- more places are marked than the code has parity bytes
pub returns-then-len-clause-err : goal.returns-then-len-clause-err
returns-then-len-clause-err g c = λ word filling.
    absurd (omega (arith, filling.within, marked_count g (goal.at.returns-then-len-clause-err g c).After-len, c.if-len.true))
