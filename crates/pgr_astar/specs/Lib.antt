pub mod Points
pub mod Estimate
pub mod Breaking
pub mod Checking
pub mod Pointing
