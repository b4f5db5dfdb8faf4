pub mod Lists
pub mod Runs
pub mod Fronts
pub mod Pieces
pub mod FilesByName
pub mod FailingCalls
pub mod Examples
