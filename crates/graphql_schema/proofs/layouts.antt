pub mod Depths
pub mod FewLevels
pub mod NoPositions
pub mod PrintedTexts
pub mod PartsBack
pub mod WayBack
unfoldable pub use Depths.*
unfoldable pub use FewLevels.*
unfoldable pub use NoPositions.*
unfoldable pub use PrintedTexts.*
unfoldable pub use PartsBack.*
unfoldable pub use WayBack.*
