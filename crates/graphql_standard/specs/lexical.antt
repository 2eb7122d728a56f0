pub mod Numbers
pub mod Strings
pub mod Elements
unfoldable pub use Numbers.*
unfoldable pub use Strings.*
unfoldable pub use Elements.*
