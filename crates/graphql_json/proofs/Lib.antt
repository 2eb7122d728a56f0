pub mod Texts
pub mod Selected
pub mod Types
unfoldable pub use Texts.*
unfoldable pub use Selected.*
