pub mod Earlier
pub mod examples
pub mod Grammar
pub mod Language
pub mod WellFormed
pub mod Layout
pub mod Locations
pub mod Meanings
pub mod Printable
pub mod RejectedNodes
pub mod Roots
pub mod Tree
pub mod TreeDepth
pub mod Views
pub mod steps
unfoldable pub use Earlier.*
unfoldable pub use examples.*
unfoldable pub use Grammar.*
unfoldable pub use Language.*
unfoldable pub use WellFormed.*
unfoldable pub use Layout.*
unfoldable pub use Locations.*
unfoldable pub use Meanings.*
unfoldable pub use Printable.*
unfoldable pub use RejectedNodes.*
unfoldable pub use Roots.*
unfoldable pub use Tree.*
unfoldable pub use TreeDepth.*
unfoldable pub use Views.*
unfoldable pub use steps.*
pub use Language.{schemas}
pub use Layout.{IsTooWide, layout}
pub use Printable.{IsPrintable}
pub use Tree.{erase}
pub use Views.{document_view}
