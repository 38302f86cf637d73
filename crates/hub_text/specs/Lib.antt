pub mod Blanks
pub mod Devices
pub mod Exact
pub mod Fails
pub mod Lines
pub mod Takes
pub mod laws
pub mod examples
