mod ClosestLemmas
mod LabelRowLemmas
mod WithinRows
