pub mod Naming
mod StepExamples
