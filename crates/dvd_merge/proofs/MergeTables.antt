-- The table of a merge.
use Rattle.std.proofs.Common.{◌≡◌, length, sym, ◌∙◌}
use Rattle.dvd_merge.specs.Merges.{table_of}
use Rattle.dvd_merge.specs.declared.merge.Merge.{Merge}
use Rattle.dvd_merge.proofs.Tables.{length-table}

module _ (merge : Merge) where
  -- there are 208 rows of values
  pub values-height : length merge.values.items ≡ 208
  values-height = sym merge.values.ok.0 ∙ merge.values_size

  -- and 208 rows of codes
  pub codes-height : length merge.codes.items ≡ 208
  codes-height = sym merge.codes.ok.0 ∙ merge.codes_size

  -- so the table has 208 rows
  pub height : length (table_of merge) ≡ 208
  height = length-table merge.values.items merge.codes.items 208 values-height codes-height
