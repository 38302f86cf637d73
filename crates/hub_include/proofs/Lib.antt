pub mod Following
pub mod Words
