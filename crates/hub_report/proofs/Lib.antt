pub mod Grown
pub mod InOrder
pub mod NamesOfPaths
