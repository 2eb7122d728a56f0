pub mod Runs
pub mod Numbers
pub mod PlainNumbers
pub mod Strings
pub mod FrontFits
pub mod FrontIsPiece
pub mod FirstBytes
pub mod Spaces
pub mod OneTokenization
pub mod Elements
pub mod CharacterClasses
pub mod Lanes
pub mod Characters
pub mod Positions
pub mod Near
pub mod Tokens
pub mod Ending
unfoldable pub use Runs.*
unfoldable pub use Numbers.*
unfoldable pub use PlainNumbers.*
unfoldable pub use Strings.*
unfoldable pub use FrontFits.*
unfoldable pub use FrontIsPiece.*
unfoldable pub use FirstBytes.*
unfoldable pub use Spaces.*
unfoldable pub use OneTokenization.*
unfoldable pub use Elements.*
unfoldable pub use CharacterClasses.*
unfoldable pub use Lanes.*
unfoldable pub use Characters.*
unfoldable pub use Positions.*
unfoldable pub use Near.*
unfoldable pub use Tokens.*
unfoldable pub use Ending.*
