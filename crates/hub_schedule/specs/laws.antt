-- What holds of lists, of roots without a replica, and of what an outcome leaves as it was.
pub mod Lists
pub mod Missing
pub mod Unchanged
