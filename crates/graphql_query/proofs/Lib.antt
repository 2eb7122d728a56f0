pub mod readers
pub mod layouts
pub mod documents
unfoldable pub use readers.*
unfoldable pub use layouts.*
unfoldable pub use documents.*
