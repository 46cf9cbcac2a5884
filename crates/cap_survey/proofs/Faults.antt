-- A line that breaks a rule, and one that is too long: whatever follows, this is what comes of the text.
use Rattle.std.proofs.Common.{◌≡◌, ◌≢◌, ◌∙◌, ℕ, ◌<◌, ◌++◌, List, [], ◌∷◌, length, Result, Err, ap, sym, append-nil, refl, true, ltb, lt-ltb, arith, length-append}
use Rattle.cap_survey.specs.Survey.{Begun, Ended, Pieces, SurveyRead, after_line, fault_of_next, line_read, pieces_of, pieces_read, reading_on, with_byte}
use Rattle.cap_survey.specs.declared.fault.SurveyCause.{SurveyCause}
use Rattle.cap_survey.specs.declared.fault.SurveyCause.TheVariants.{Form}
use Rattle.cap_survey.specs.declared.fault.Fault.{Fault}

long_piece : (read : SurveyRead) (piece : List ℕ) (others : List (List ℕ)) → 255 < length piece → pieces_read read piece others ≡ Err (fault_of_next read Form)
long_piece read piece [] long = let is : ltb 255 (length piece) ≡ true = lt-ltb 255 (length piece) long in rw is refl
long_piece read piece (next ∷ others) long = let is : ltb 255 (length piece) ≡ true = lt-ltb 255 (length piece) long in rw is refl

with_other : (c : ℕ) (pieces : Pieces) → c ≢ 10 → with_byte c pieces ≡ record { first = c ∷ pieces.first; others = pieces.others }
with_other c pieces other = grind arith

pub too_long : (begun : Begun) (c : ℕ) (more : List ℕ) → length begun.line ≡ 255 → c ≢ 10 → reading_on begun (c ∷ more) ≡ Err (fault_of_next begun.read Form)
too_long begun c more full other =
    ap (λ (p : Pieces). pieces_read begun.read (begun.line ++ p.first) p.others) (with_other c (pieces_of more) other)
    ∙ long_piece begun.read (begun.line ++ c ∷ (pieces_of more).first) (pieces_of more).others (omega (arith, full, length-append begun.line (c ∷ (pieces_of more).first)))

pub breaks : (read : SurveyRead) (line said : List ℕ) (cause : SurveyCause) (rest : SurveyRead → Result Ended Fault) → said ≡ line → line_read read said ≡ Err cause
    → after_line read (line_read read (line ++ [])) rest ≡ Err (fault_of_next read cause)
breaks read line said cause rest same is =
    ap (λ l. after_line read (line_read read l) rest) (append-nil line ∙ sym same) ∙ ap (λ r. after_line read r rest) is
