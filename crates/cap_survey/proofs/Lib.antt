-- Why the contracts hold: lines that break a rule.
pub mod Faults
