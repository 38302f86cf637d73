pub mod Covering
pub mod LineText
pub mod Places
pub mod Saying
