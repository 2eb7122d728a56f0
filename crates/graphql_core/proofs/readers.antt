pub mod ReaderSteps
pub mod Reading
pub mod TakenOff
pub mod Steps
pub mod Alternatives
pub mod Optional
pub mod Lists
pub mod Matches
pub mod LeafSteps
pub mod PlainAlternatives
pub mod ValueAlternatives
unfoldable pub use ReaderSteps.*
unfoldable pub use Reading.*
unfoldable pub use TakenOff.*
unfoldable pub use Steps.*
unfoldable pub use Alternatives.*
unfoldable pub use Optional.*
unfoldable pub use Lists.*
unfoldable pub use Matches.*
unfoldable pub use LeafSteps.*
unfoldable pub use PlainAlternatives.*
unfoldable pub use ValueAlternatives.*
