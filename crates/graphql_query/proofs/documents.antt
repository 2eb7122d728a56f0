pub mod MeaningsAlike
pub mod EarlierTrees
pub mod Earlier
pub mod FirstDefinition
pub mod Consuming
pub mod OtherRest
pub mod OtherDefinitions
pub mod Minified
unfoldable pub use MeaningsAlike.*
unfoldable pub use EarlierTrees.*
unfoldable pub use Earlier.*
unfoldable pub use FirstDefinition.*
unfoldable pub use Consuming.*
unfoldable pub use OtherRest.*
unfoldable pub use OtherDefinitions.*
unfoldable pub use Minified.*
