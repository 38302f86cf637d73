pub mod Coded
pub mod Book
pub mod Desk
pub mod examples
