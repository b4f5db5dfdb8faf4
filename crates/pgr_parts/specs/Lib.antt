pub mod Classes
pub mod Trails
pub mod Spreading
pub mod Standings
pub mod Grouping
