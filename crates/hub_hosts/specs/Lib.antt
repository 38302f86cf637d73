pub mod Drives
pub mod Folding
pub mod Profiles
pub mod Remotes
pub mod Table
pub mod Words
pub mod examples
