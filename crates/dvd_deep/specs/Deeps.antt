-- What the contracts see of a search.
use Rattle.std.specs.Prelude.{ℕ, Bool, List}
use Rattle.dvd_deep.specs.declared.deep.Deep.{Deep}

-- the rows of the block that it holds
abbrev pub rows_of_deep : Deep → List (List ℕ)
rows_of_deep deep = deep.rows.value

-- whether the last search found this block
abbrev pub has_found : Deep → Bool
has_found deep = deep.has_found
