pub mod Walked
pub mod Calls
pub mod Counted
pub mod Definitions
unfoldable pub use Walked.*
unfoldable pub use Calls.*
unfoldable pub use Counted.*
unfoldable pub use Definitions.*
