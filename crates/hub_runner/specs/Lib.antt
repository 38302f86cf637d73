pub mod Order
pub mod Part
pub mod Settling
pub mod Working
pub mod forms
pub mod examples
