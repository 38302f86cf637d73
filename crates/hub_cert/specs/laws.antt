pub mod Classed
pub mod Goal
pub mod Matched
pub mod Stage
