pub mod Escaping
pub mod Fronts
pub mod LineEnds
pub mod Numerals
pub mod Offsets
pub mod Splits
mod EscapedLength
