pub mod Values
pub mod History
