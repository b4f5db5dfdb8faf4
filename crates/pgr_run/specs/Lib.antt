pub mod Status
pub mod Causes
pub mod Messages
pub mod Promise
