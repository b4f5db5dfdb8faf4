pub mod Routes
pub mod Enumeration
pub mod Classes
pub mod FromStart
pub mod Sound
pub mod FirstRoutes
