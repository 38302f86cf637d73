pub mod WordsFacts
