pub mod Fronts
pub mod laws
