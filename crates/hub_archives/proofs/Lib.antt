pub mod Below
pub mod FoldedNames
pub mod Keeping
pub mod KeepingFolded
pub mod Members
pub mod Sections
