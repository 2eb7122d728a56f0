pub mod Depths
pub mod LayoutTexts
pub mod NestedSets
pub mod NoPositions
pub mod SetsDecide
pub mod WayBack
unfoldable pub use Depths.*
unfoldable pub use LayoutTexts.*
unfoldable pub use NestedSets.*
unfoldable pub use NoPositions.*
unfoldable pub use SetsDecide.*
unfoldable pub use WayBack.*
