-- Why the opening of a listed capture is right: its header, and what comes after it.
pub mod HeaderTaken
pub mod Headers
pub mod OneHeader
