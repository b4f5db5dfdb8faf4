pub mod Lines
pub mod ListLines
pub mod Commas
pub mod Examples
