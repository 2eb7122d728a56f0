pub mod BadTexts
pub mod Lexical
pub mod Items
pub mod Elements
pub mod StreamCalls
unfoldable pub use BadTexts.*
unfoldable pub use Lexical.*
unfoldable pub use Items.*
unfoldable pub use Elements.*
unfoldable pub use StreamCalls.*
