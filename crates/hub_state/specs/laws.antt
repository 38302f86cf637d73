pub mod RootTexts
