pub mod Apart
pub mod Between
pub mod General
pub mod Mention
pub mod Prefix
pub mod Walk
