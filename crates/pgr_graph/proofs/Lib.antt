pub mod RowLinks
mod RowSlots
pub mod TableLinks
pub mod TableFits
pub mod Examples
mod OneCost
mod ArcLists
mod ArcOrder
mod NetworkArcs
mod Restricting
