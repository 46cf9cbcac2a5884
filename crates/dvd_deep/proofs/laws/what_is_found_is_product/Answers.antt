-- The proof of the law `what_is_found_is_product` in src/laws.rt.
use Rattle.dvd_deep.proofs.Products.{found_is_product}
use Rattle.dvd_deep.proofs.laws.what_is_found_is_product.Goals as goal

pub returns : goal.returns
returns c = found_is_product
