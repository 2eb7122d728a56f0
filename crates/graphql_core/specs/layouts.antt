pub mod Style
pub mod TextParts
pub mod Lines
pub mod ValueLayout
pub mod Displayed
pub mod Depths
unfoldable pub use Style.*
unfoldable pub use TextParts.*
unfoldable pub use Lines.*
unfoldable pub use ValueLayout.*
unfoldable pub use Displayed.*
unfoldable pub use Depths.*
