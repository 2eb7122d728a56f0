pub mod StandardExamples
pub mod LexicalExamples
unfoldable pub use LexicalExamples.*
