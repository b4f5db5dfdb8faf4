pub mod FromRoot
pub mod Within
pub mod Equicost
pub mod Closest
pub mod LabelRows
