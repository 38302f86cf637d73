pub mod KeptOut
pub mod Found
pub mod Seen
pub mod Folded
pub mod examples
