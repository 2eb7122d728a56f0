pub mod Brackets
pub mod FactoredRules
pub mod Sets
pub mod Operations
pub mod Readers
unfoldable pub use Brackets.*
unfoldable pub use FactoredRules.*
unfoldable pub use Sets.*
unfoldable pub use Operations.*
unfoldable pub use Readers.*
