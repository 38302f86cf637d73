pub mod Table
pub mod Places
pub mod Kinds
pub mod Spellings
pub mod Counted
pub mod Findings
pub mod laws
pub mod examples
