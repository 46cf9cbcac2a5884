-- Why the contracts hold: lemmas on places of look-ups, on rows to which bytes are added, and on bytes that are
-- compared.
pub mod AddedBytes
pub mod EqualPrefixes
pub mod MaskedPlaces
