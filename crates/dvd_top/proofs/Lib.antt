-- Why the contracts hold: lemmas on runs, and on what the commands have in common there.
pub mod BoundKept
pub mod ConvertedRead
pub mod Determined
pub mod InputEnds
pub mod MasteredStream
pub mod OnlyThese
pub mod OpenedRuns
pub mod OverTaken
pub mod PromisesKept
pub mod RefusedReport
pub mod RunEnds
pub mod RunLemmas
pub mod SomethingDone
pub mod WorkersAlike
