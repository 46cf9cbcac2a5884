-- What the contracts see of a merge.
use Rattle.dvd_merge.specs.Join.{Table}
use Rattle.dvd_merge.specs.Planes.{table_of_planes}
use Rattle.dvd_merge.specs.declared.merge.Merge.{Merge}

-- what is known of each place of the block: 208 rows of 182 places
abbrev pub table_of : Merge → Table
table_of merge = table_of_planes merge.values.items merge.codes.items
