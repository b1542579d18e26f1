pub mod Mixed
pub mod SideBySide
pub mod Turns
