pub mod Mending
pub mod Planning
pub mod Alone
pub mod InUnison
