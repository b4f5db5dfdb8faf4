pub mod Layout
pub mod ListText
pub mod Text
