pub mod SweepEnds
pub mod TraceEnds
