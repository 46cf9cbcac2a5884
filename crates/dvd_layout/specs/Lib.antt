-- What the contracts speak of: the layout of a disk, its zones, and the plan of its blocks.
pub mod Content
pub mod Inner
pub mod Laws
pub mod Lengths
pub mod Place
pub mod Plan
