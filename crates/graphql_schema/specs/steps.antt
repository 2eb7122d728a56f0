pub mod Brackets
pub mod FactoredRules
pub mod RootsRead
pub mod Body
pub mod TypeBodies
pub mod Readers
pub mod Rejections
pub mod Keywords
unfoldable pub use Brackets.*
unfoldable pub use FactoredRules.*
unfoldable pub use RootsRead.*
unfoldable pub use Body.*
unfoldable pub use TypeBodies.*
unfoldable pub use Readers.*
unfoldable pub use Rejections.*
unfoldable pub use Keywords.*
