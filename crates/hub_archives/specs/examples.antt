pub mod FoldedFolders
pub mod Folders
