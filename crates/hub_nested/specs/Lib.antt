pub mod Lifted
pub mod Placed
pub mod Said
pub mod Through
pub mod Meeting
pub mod examples
