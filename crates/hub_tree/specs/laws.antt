-- What holds of replicas and archives: the order of their paths, what is at a path and below it,
-- and what Sets leave.
pub mod Coded
pub mod Ascending
pub mod Beneath
pub mod Between
pub mod Children
pub mod Contented
pub mod MarkMaps
pub mod Order
pub mod Replacing
pub mod Runs
