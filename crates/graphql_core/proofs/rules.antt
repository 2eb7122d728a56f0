pub mod FactoredSides
pub mod FactoredRules
pub mod Unchanged
pub mod Extending
pub mod GrownTrees
unfoldable pub use FactoredSides.*
unfoldable pub use FactoredRules.*
unfoldable pub use Unchanged.*
unfoldable pub use Extending.*
unfoldable pub use GrownTrees.*
