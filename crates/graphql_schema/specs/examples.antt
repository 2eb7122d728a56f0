pub mod SchemaExamples
unfoldable pub use SchemaExamples.*
