pub mod Faulted
pub mod OneIndex
pub mod FaultedFor
unfoldable pub use Faulted.*
unfoldable pub use OneIndex.*
unfoldable pub use FaultedFor.*
