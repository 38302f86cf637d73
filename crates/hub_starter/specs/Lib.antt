pub mod Opened
pub mod InOrder
pub mod Waves
pub mod Waved
pub mod examples
