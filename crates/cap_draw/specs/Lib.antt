-- What the contracts are about: the picture of a survey, and a run that draws it.
pub mod Axes
pub mod Bars
pub mod Columns
pub mod Drawn
pub mod Picture
pub mod Plot
pub mod Words
