pub mod Bundle
pub mod Files
pub mod Input
pub mod Sections
pub mod examples
