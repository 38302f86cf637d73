pub mod NestedRoots
pub mod Pairs
pub mod Sweeps
