pub mod Asking
pub mod Bundle
pub mod Files
pub mod Includes
pub mod Targets
pub mod Words
pub mod examples
