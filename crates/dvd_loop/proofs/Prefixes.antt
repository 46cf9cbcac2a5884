-- Two prefixes of the same bytes.
use Rattle.std.proofs.Common.{◌≡◌, ℕ, List, ◌++◌, length, take, ap, sym, ◌∙◌}
use Rattle.std.proofs.lemmas.List.{append_cancel_left}
use Rattle.std.proofs.Math.Seq.{take-append_seam}

-- fronts of one length are the same
pub same_prefix : (own other left rest : List ℕ) → own ++ left ≡ other ++ rest → length own ≡ length other → own ≡ other
same_prefix own other left rest is same =
    sym (take-append_seam own left) ∙ ap (λ n. take n (own ++ left)) same ∙ ap (take (length other)) is ∙ take-append_seam other rest

-- and so is what is left after them
pub same_left : (own other left rest : List ℕ) → own ++ left ≡ other ++ rest → own ≡ other → left ≡ rest
same_left own other left rest is same = append_cancel_left own left rest (is ∙ ap (λ l. l ++ rest) (sym same))
