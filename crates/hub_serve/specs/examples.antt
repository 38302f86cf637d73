pub mod Serves
