pub mod Pieces
pub mod PromiseLemmas
pub mod Examples
