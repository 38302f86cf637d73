pub mod Cautious
pub mod Lines
pub mod Pattern
pub mod Piece
pub mod Reading
pub mod Rules
pub mod Shared
pub mod Spare
