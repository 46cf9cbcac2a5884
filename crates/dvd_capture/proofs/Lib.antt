-- Why the contracts hold: lemmas on captured ECC blocks, the forms in which they are stored, and what two passes
-- determine of them.
pub mod Bound
pub mod ClearMarks
pub mod Columns
pub mod Mapped
pub mod MarkCounts
pub mod MarkLists
pub mod FlatRows
pub mod WorkParts
pub mod FetchedCounts
pub mod Fetching
pub mod MarkedPlaces
pub mod ReadParts
pub mod RecordedFrames
pub mod RecordedRows
pub mod Headers
pub mod ListedFields
pub mod ListedPieces
pub mod ListedTaken
pub mod ListedUnit
pub mod ListedWritten
pub mod MarkPlaces
pub mod OneSpelling
pub mod PackedMarks
pub mod RunStarts
pub mod SpreadMarks
pub mod Undamaged
