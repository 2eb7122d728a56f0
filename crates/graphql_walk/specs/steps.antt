pub mod Counted
unfoldable pub use Counted.*
