pub mod Strings
pub mod BlockStrings
pub mod Literals
unfoldable pub use Strings.*
unfoldable pub use BlockStrings.*
unfoldable pub use Literals.*
