pub mod Choice
pub mod Exact
pub mod OneStep
pub mod Scalars
