pub mod AsNumbers
pub mod Cutting
pub mod LineLists
pub mod Numbers
pub mod Reasons
pub mod Rivals
pub mod Unverified
