pub mod AppendedText
pub mod Escapes
pub mod StringValues
pub mod FloatLiterals
pub mod LeafValues
pub mod BlockBytes
pub mod BlockLines
pub mod BlockShapes
pub mod OuterLines
pub mod QuotedText
pub mod TextLines
pub mod Decimals
unfoldable pub use AppendedText.*
unfoldable pub use Escapes.*
unfoldable pub use StringValues.*
unfoldable pub use FloatLiterals.*
unfoldable pub use LeafValues.*
unfoldable pub use BlockBytes.*
unfoldable pub use BlockLines.*
unfoldable pub use BlockShapes.*
unfoldable pub use OuterLines.*
unfoldable pub use QuotedText.*
unfoldable pub use TextLines.*
unfoldable pub use Decimals.*
