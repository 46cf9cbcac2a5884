-- Why the contracts hold: texts one after the other.
pub mod Texts
