pub mod Causes
pub mod Source
pub mod ParseFailures
pub mod Minified
unfoldable pub use Causes.*
unfoldable pub use Source.*
unfoldable pub use ParseFailures.*
unfoldable pub use Minified.*
