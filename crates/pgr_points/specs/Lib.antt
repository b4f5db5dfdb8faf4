pub mod Sight
pub mod Fractions
pub mod Stops
pub mod Pointed
pub mod Collapsed
pub mod Senses
pub mod Places
