pub mod Appending
pub mod Enclosed
pub mod Seen
pub mod Narrow
pub mod Margins
pub mod Places
pub mod Counting
pub mod TextDepths
pub mod Depths
pub mod FewLevels
pub mod NoPositions
pub mod Joining
pub mod BlockForm
pub mod BlockValues
unfoldable pub use Appending.*
unfoldable pub use Enclosed.*
unfoldable pub use Seen.*
unfoldable pub use Narrow.*
unfoldable pub use Margins.*
unfoldable pub use Places.*
unfoldable pub use Counting.*
unfoldable pub use TextDepths.*
unfoldable pub use Depths.*
unfoldable pub use FewLevels.*
unfoldable pub use NoPositions.*
unfoldable pub use Joining.*
unfoldable pub use BlockForm.*
unfoldable pub use BlockValues.*
