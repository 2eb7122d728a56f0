pub mod Symbols
pub mod ParseTrees
pub mod Tables
pub mod Grammar
pub mod Places
pub mod Terminals
pub mod Document
pub mod Recognizing
pub mod Checking
pub mod AllErrors
pub mod theory
pub mod steps
pub mod examples
pub mod lexical
unfoldable pub use lexical.*
unfoldable pub use steps.*
unfoldable pub use examples.*
