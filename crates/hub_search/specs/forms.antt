pub mod After
pub mod Entries
pub mod Seen
pub mod Steps
pub mod Tables
