mod Bits
mod Places
mod Sizes
mod StepExamples
mod Streaming
mod Tagging
mod Taking
