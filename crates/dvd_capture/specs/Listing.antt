-- Ours: what writing a captured block in the listed form has done.
use Rattle.std.specs.Prelude.{ℕ, Bool, List}
use Rattle.dvd_ports.specs.Bytes.{Appends, Bytes}
use Rattle.dvd_ports.specs.Whole.{AppendsPrefix}
use Rattle.dvd_capture.specs.Captured.{IsUnitOf}

-- the unit of these rows and marks was written
pub record AppendsUnit (old new : Bytes) (rows : List (List ℕ)) (marks : List (List Bool)) : Type 0 where
  pub unit : List ℕ
  pub is_unit : IsUnitOf rows marks unit
  pub grows : Appends old new unit

-- a part of the unit of these rows and marks was written
pub record AppendsPart (old new : Bytes) (rows : List (List ℕ)) (marks : List (List Bool)) : Type 0 where
  pub unit : List ℕ
  pub is_unit : IsUnitOf rows marks unit
  pub part : AppendsPrefix old new unit
