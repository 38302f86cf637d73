pub mod Words
pub use Rattle.clap.specs.Words as ClapWords
pub mod examples
