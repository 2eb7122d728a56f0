pub mod QueryExamples
unfoldable pub use QueryExamples.*
