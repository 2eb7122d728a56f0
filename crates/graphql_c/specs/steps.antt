pub mod Errors
unfoldable pub use Errors.*
