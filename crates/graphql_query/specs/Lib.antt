pub mod Document
pub mod Earlier
pub mod examples
pub mod Grammar
pub mod WellFormed
pub mod Layout
pub mod Meanings
pub mod Printable
pub mod Tree
pub mod TreeDepth
pub mod FirstDefinition
pub mod Minifying
pub mod steps
unfoldable pub use Document.*
unfoldable pub use Earlier.*
unfoldable pub use examples.*
unfoldable pub use Grammar.*
unfoldable pub use WellFormed.*
unfoldable pub use Layout.*
unfoldable pub use Meanings.*
unfoldable pub use Printable.*
unfoldable pub use Tree.*
unfoldable pub use TreeDepth.*
unfoldable pub use FirstDefinition.*
unfoldable pub use Minifying.*
unfoldable pub use steps.*
pub use Document.{IsDocument, IsDocumentOf, ParsesBackTo, queries}
pub use Layout.{IsTooWide, layout}
pub use Printable.{IsPrintable}
pub use Tree.{DefinitionTree, DocumentTree, definitions_view, document_view, erase}
pub use FirstDefinition.{IsFirstDefinition, one_definition}
pub use Minifying.{IsMinifyErrorOf}
