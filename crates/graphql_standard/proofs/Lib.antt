mod Places
mod Stack
mod Effects
mod SameExpressions
mod Alike
mod TerminalLists
mod Uniform
mod Following
mod Rows
mod Stacks
mod Documents
mod Spellings
mod ExpectedSets
mod Running
mod Included
mod Written
mod SameLanguage
mod AsWritten
mod ApartTerminals
mod Tokens
mod Checking
pub mod FirstErrors
pub mod PlacesTogether
pub mod NextDefinitions
pub mod AllErrors
pub mod lexical
unfoldable pub use lexical.*
