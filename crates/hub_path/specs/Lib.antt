pub mod Path
pub mod Reading
pub mod Shared
pub mod Sides
pub mod forms
pub mod laws
pub mod examples
