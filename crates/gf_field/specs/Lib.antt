-- What the laws of the field say of one byte.
pub mod Laws
