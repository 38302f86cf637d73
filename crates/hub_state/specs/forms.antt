pub mod Adding
pub mod Near
