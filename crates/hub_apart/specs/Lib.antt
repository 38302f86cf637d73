pub mod Apart
pub mod ApartLines
pub mod NestedLines
pub mod Ordered
pub mod UnisonLines
pub mod UnsafeParts
pub mod WithoutLines
pub mod examples
