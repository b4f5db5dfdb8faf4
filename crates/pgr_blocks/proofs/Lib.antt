pub mod TableSpans
pub mod Examples
