pub mod Spans
pub use Rattle.pgr_spans.specs.Linked
pub use Rattle.pgr_spans.specs.Block
pub use Rattle.pgr_spans.specs.ArticulationPoint
pub use Rattle.pgr_spans.specs.Bridge
pub use Rattle.pgr_spans.specs.Lists
