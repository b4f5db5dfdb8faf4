pub mod Names
pub mod Ends
pub mod Slots
pub mod Numbering
