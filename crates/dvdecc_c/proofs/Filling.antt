-- What each iteration of a loop shows that fills a list in order.
use Rattle.std.proofs.Common.{ℕ, ◌+◌, ◌<◌, List, length, get_or, set, ⊎_elim, subst, sym, arith}
use Rattle.std.proofs.lemmas.List.{get_or-set_other, get_or-set_same}
use Rattle.std.proofs.lemmas.Bool.{cases_eq}

-- what holds of each element before place k, and of the new one there, holds of one element more
pub filled-one_more : {A : Type 0} (P : ℕ → A → Type 0) (list : List A) (k : ℕ) (new other : A) → k < length list
    → ((j : ℕ) → j < k → P j (get_or list j other)) → P k new → (j : ℕ) → j < k + 1 → P j (get_or (set list k new) j other)
filled-one_more P list k new other inside before here j within =
    ⊎_elim
    (λ is. subst (λ n. P n (get_or (set list k new) n other)) (sym is) (subst (P k) (sym (get_or-set_same list k new other inside)) here))
    (λ differs. subst (P j) (sym (get_or-set_other list k j new other differs)) (before j (omega (arith, within, differs))))
    (cases_eq j k)
