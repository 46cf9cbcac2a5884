-- Why the contracts hold: lemmas on the words of a command line, and the settings that they ask for.
pub mod Numerals
pub mod Parsed
