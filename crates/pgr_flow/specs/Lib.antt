pub mod Flow
pub mod Cut
pub mod Network
pub mod Residual
pub mod Incidence
pub mod Levels
pub mod Descent
pub mod Sending
