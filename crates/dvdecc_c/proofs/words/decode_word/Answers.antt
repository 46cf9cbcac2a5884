-- The proof of `decode_word` in src/words.rt.
use Rattle.std.proofs.Common.{◌≡◌, ℕ, ◌≤◌, Bool, List, ◌==◌, not, length, subst, ◌∙◌, refl}
use Rattle.std.proofs.lemmas.List.{length-map}
use Rattle.std.specs.Prelude.{Some, None}
use Rattle.coding.specs.Filling.{marked}
use Rattle.coding.specs.Nearest.{near_of}
use Rattle.coding.specs.Words.{IsNear}
use Rattle.rs_decode.specs.Errors.{HasNoneNear, error_count}
use Rattle.rs_decode.proofs.NearSearch.{near_of-some, none-near_of}
use Rattle.dvdecc_c.specs.Words.{lost_marks}
use Rattle.dvdecc_c.proofs.words.decode_word.Goals as goal

-- the codeword that was found is the one that the search finds
near-found : (n r : ℕ) (old new lost : List ℕ) (marks : List Bool) → n ≤ 255 → marks ≡ lost_marks lost → IsNear n r old marks new
    → near_of n r old (lost_marks lost) ≡ Some new
near-found n r old new lost marks short is near =
    near_of-some n r old new (lost_marks lost) short (subst (λ (some_marks : List Bool). IsNear n r old some_marks new) is near)

-- and where none was, the search finds none
near-none : (n r : ℕ) (old lost : List ℕ) (marks : List Bool) → length old ≡ n → length lost ≡ n → marks ≡ lost_marks lost
    → HasNoneNear n r old marks → near_of n r old (lost_marks lost) ≡ None
unfolding lost_marks
near-none n r old lost marks old_size lost_size is none =
    none-near_of n r old (lost_marks lost) old_size (length-map lost (λ (byte : ℕ). not (byte == 0)) ∙ lost_size)
    (subst (HasNoneNear n r old) is none)

pub returns-in-Ok-clause-status : goal.returns-in-Ok-clause-status
returns-in-Ok-clause-status g c =
    rw (near-found g.row.N g.row.R c.args.word.now c.decode.new.word c.args.lost.now _ c.requires.short c.marks_of-marks.ensures c.in-Ok.ensures.near) refl

pub returns-in-Ok-clause-word : goal.returns-in-Ok-clause-word
returns-in-Ok-clause-word g c =
    rw (near-found g.row.N g.row.R c.args.word.now c.decode.new.word c.args.lost.now _ c.requires.short c.marks_of-marks.ensures c.in-Ok.ensures.near) refl

pub returns-in-Ok-clause-correction : goal.returns-in-Ok-clause-correction
returns-in-Ok-clause-correction g c =
    let marks = c.marks_of-marks.ensures in
    let errors : c.from-correction.result ≡ error_count c.args.word.now c.decode.new.word (lost_marks c.args.lost.now) =
    c.from-correction.ensures
    ∙ subst (λ (some_marks : List Bool). c.in-Ok.fix.errors ≡ error_count c.args.word.now c.decode.new.word some_marks) marks c.in-Ok.ensures.errors in
    let erased : c.from-correction-in-Ok.result ≡ marked (lost_marks c.args.lost.now) =
    c.from-correction-in-Ok.ensures ∙ subst (λ (some_marks : List Bool). c.in-Ok.fix.erased ≡ marked some_marks) marks c.in-Ok.ensures.erased in
    rw (near-found g.row.N g.row.R c.args.word.now c.decode.new.word c.args.lost.now _ c.requires.short marks c.in-Ok.ensures.near, errors, erased) refl

pub returns-in-Err-clause-status : goal.returns-in-Err-clause-status
returns-in-Err-clause-status g c =
    rw (near-none g.row.N g.row.R c.args.word.now c.args.lost.now _ c.told-word c.told-lost c.marks_of-marks.ensures c.in-Err.ensures.beyond) refl

pub returns-in-Err-clause-word : goal.returns-in-Err-clause-word
returns-in-Err-clause-word g c =
    rw (near-none g.row.N g.row.R c.args.word.now c.args.lost.now _ c.told-word c.told-lost c.marks_of-marks.ensures c.in-Err.ensures.beyond)
    c.in-Err.ensures.same

pub returns-in-Err-clause-correction : goal.returns-in-Err-clause-correction
returns-in-Err-clause-correction g c =
    rw (near-none g.row.N g.row.R c.args.word.now c.args.lost.now _ c.told-word c.told-lost c.marks_of-marks.ensures c.in-Err.ensures.beyond) refl
