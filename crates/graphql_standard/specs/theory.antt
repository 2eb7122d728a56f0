pub mod Stack
pub mod Effects
unfoldable pub use Stack.*
unfoldable pub use Effects.*
