pub mod TraceExamples
mod StrongExamples
pub mod Traces
pub mod Drawing
pub mod SideBySide
pub mod Inputs
pub mod StrongRuns
pub mod SameWires
pub mod RunWires
pub mod Woven
pub mod Alike
pub mod Showing
pub mod Computing
pub mod Beginnings
pub mod Taking
