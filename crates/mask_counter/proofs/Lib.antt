mod Batches
mod Counted
mod Evaluations
mod Lanes
mod Turned
