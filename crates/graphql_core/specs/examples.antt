pub mod LexicalExamples
pub mod StringExamples
pub mod MeaningExamples
pub mod LayoutExamples
unfoldable pub use LexicalExamples.*
unfoldable pub use StringExamples.*
unfoldable pub use MeaningExamples.*
unfoldable pub use LayoutExamples.*
