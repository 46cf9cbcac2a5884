-- What the contracts speak of: sectors drawn from a seed, and damage within the bound of two-pass decoding.
pub mod Generator
pub mod Damage
pub mod Laws
pub mod Inner
