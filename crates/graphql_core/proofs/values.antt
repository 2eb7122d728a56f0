pub mod Clones
pub mod ObjectMembers
pub mod Ordered
pub mod Views
pub mod TreesAlike
pub mod NestingDepth
pub mod BracketCapacity
pub mod OwnTexts
pub mod Leaves
pub mod Printable
pub mod MeaningsAlike
unfoldable pub use Clones.*
unfoldable pub use ObjectMembers.*
unfoldable pub use Ordered.*
unfoldable pub use Views.*
unfoldable pub use TreesAlike.*
unfoldable pub use NestingDepth.*
unfoldable pub use BracketCapacity.*
unfoldable pub use OwnTexts.*
unfoldable pub use Leaves.*
unfoldable pub use Printable.*
unfoldable pub use MeaningsAlike.*
