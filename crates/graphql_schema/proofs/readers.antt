pub mod Readable
pub mod Lifted
pub mod Lists
pub mod Keywords
pub mod LocationWords
pub mod Adding
pub mod Types
pub mod Definitions
pub mod Elements
pub mod Directives
pub mod RootNames
pub mod Printable
unfoldable pub use Readable.*
unfoldable pub use Lifted.*
unfoldable pub use Lists.*
unfoldable pub use Keywords.*
unfoldable pub use LocationWords.*
unfoldable pub use Adding.*
unfoldable pub use Types.*
unfoldable pub use Definitions.*
unfoldable pub use Elements.*
unfoldable pub use Directives.*
unfoldable pub use RootNames.*
unfoldable pub use Printable.*
