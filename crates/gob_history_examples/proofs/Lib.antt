pub mod HalfLine
pub mod Unsynced
