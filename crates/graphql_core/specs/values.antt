pub mod Values
pub mod TreeDepth
pub mod WellFormed
pub mod Leaves
pub mod Grammar
pub mod Parts
pub mod Meanings
pub mod Printable
pub mod ValueViews
unfoldable pub use Values.*
unfoldable pub use TreeDepth.*
unfoldable pub use WellFormed.*
unfoldable pub use Leaves.*
unfoldable pub use Grammar.*
unfoldable pub use Parts.*
unfoldable pub use Meanings.*
unfoldable pub use Printable.*
unfoldable pub use ValueViews.*
