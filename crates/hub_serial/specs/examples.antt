pub mod Schedules
pub mod Starts
pub mod Clashes
pub mod Jobs
pub mod Ends
pub mod Records
