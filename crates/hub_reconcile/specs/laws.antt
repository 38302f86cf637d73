-- What holds of the items and the plan for two replicas: their Sets go through and leave the
-- defined synchronization, a plan has few changes, and its Looks tell what it needs.
pub mod Archived
pub mod Ascend
pub mod Below
pub mod Changes
pub mod Counts
pub mod Each
pub mod Looked
pub mod Looks
pub mod Needed
pub mod Over
pub mod Steps
pub mod Synced
pub mod Views
