-- Why the contracts hold.
pub mod AfterZeros
pub mod Filling
pub mod SectorsRead
pub mod WholeCapture
