pub mod Again
pub mod Alone
pub mod Below
pub mod Same
pub mod SpelledNames
pub mod Walk
pub mod Words
