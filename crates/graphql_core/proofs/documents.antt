pub mod Readable
pub mod Whole
pub mod Faults
pub mod FaultsAlike
pub mod Parsing
pub mod ParseFailures
pub mod Rejecting
pub mod Outputs
pub mod RoundTrip
pub mod Computed
pub mod Growing
pub mod Lifted
unfoldable pub use Readable.*
unfoldable pub use Whole.*
unfoldable pub use Faults.*
unfoldable pub use FaultsAlike.*
unfoldable pub use Parsing.*
unfoldable pub use ParseFailures.*
unfoldable pub use Rejecting.*
unfoldable pub use Outputs.*
unfoldable pub use RoundTrip.*
unfoldable pub use Computed.*
unfoldable pub use Growing.*
unfoldable pub use Lifted.*
