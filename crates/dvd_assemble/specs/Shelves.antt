-- What the contracts see of a shelf.
use Rattle.std.specs.Prelude.{List, map}
use Rattle.dvd_merge.specs.Join.{Table}
use Rattle.dvd_merge.specs.Merges.{table_of}
use Rattle.dvd_assemble.specs.declared.shelf.Shelf.{Shelf}

-- what is known of each block
abbrev pub tables_of : Shelf → List Table
tables_of shelf = map table_of shelf.blocks.items
