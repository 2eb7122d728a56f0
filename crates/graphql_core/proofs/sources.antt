pub mod AfterTokens
pub mod CursorItems
pub mod TokenPlaces
pub mod ItemPlaces
pub mod KeptTokens
pub mod SpanItems
pub mod Contents
pub mod MinifiedContents
pub mod Minifying
unfoldable pub use AfterTokens.*
unfoldable pub use CursorItems.*
unfoldable pub use TokenPlaces.*
unfoldable pub use ItemPlaces.*
unfoldable pub use KeptTokens.*
unfoldable pub use SpanItems.*
unfoldable pub use Contents.*
unfoldable pub use MinifiedContents.*
unfoldable pub use Minifying.*
