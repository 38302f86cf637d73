pub mod Tried
pub mod Walking
