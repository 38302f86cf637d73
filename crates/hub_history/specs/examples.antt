pub mod Book
pub mod Desk
