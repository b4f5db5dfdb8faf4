pub mod StepLemmas
pub mod TightWalks
pub mod LeastWalk
pub mod Examples
