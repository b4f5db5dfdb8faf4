pub mod Slots
pub mod Rising
pub mod EndLemmas
pub mod Turning
pub mod Order
pub mod Walks
pub mod Graphs
mod Marks
