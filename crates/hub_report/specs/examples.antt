pub mod Graph
pub mod Jobs
pub mod Report
pub mod Plan
pub mod InUnison
pub mod Alone
