pub mod Languages
pub mod Document
pub mod Faults
pub mod Parsing
pub mod Outputs
pub mod ByGrammar
unfoldable pub use Languages.*
unfoldable pub use Document.*
unfoldable pub use Faults.*
unfoldable pub use Parsing.*
unfoldable pub use Outputs.*
unfoldable pub use ByGrammar.*
