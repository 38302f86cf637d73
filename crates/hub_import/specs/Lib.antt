pub mod Imported
pub mod Text
