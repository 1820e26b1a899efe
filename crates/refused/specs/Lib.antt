pub mod WordList
