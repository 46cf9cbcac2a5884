-- Sums of products brought to one form: `simp ring` multiplies out, sorts, and cancels what comes twice.
use Rattle.std.proofs.Common.{◌≡◌, ℕ, sym, ◌∙◌, ap}
use Rattle.coding.specs.Field.{plus, product}
use Rattle.gf_field.proofs.FieldLaws.{plus-comm, plus-assoc, plus-zero, zero-plus, plus-self, plus-again, product-comm, product-assoc, product-plus, plus-product, product-zero, zero-product}

-- the first two of three summands change places
pub plus-left_comm : (a b c : ℕ) → plus a (plus b c) ≡ plus b (plus a c)
plus-left_comm a b c = sym (plus-assoc a b c) ∙ ap (λ s. plus s c) (plus-comm a b) ∙ plus-assoc b a c

-- the first two of three factors change places
pub product-left_comm : (a b c : ℕ) → product a (product b c) ≡ product b (product a c)
product-left_comm a b c = sym (product-assoc a b c) ∙ ap (λ s. product s c) (product-comm a b) ∙ product-assoc b a c

-- the rules that bring a sum of products to one form
pub ruleset ring = (product-plus, plus-product, product-assoc, plus-assoc, product-zero, zero-product, plus-zero, zero-plus, plus-self, plus-again, product-comm, product-left_comm, plus-comm, plus-left_comm)
