pub mod BlankCuts
pub mod LineCuts
pub mod Written
