pub mod Tokens
pub mod Trees
pub mod NextPlaces
pub mod Texts
pub mod GrammarFaults
unfoldable pub use Tokens.*
unfoldable pub use Trees.*
unfoldable pub use NextPlaces.*
unfoldable pub use Texts.*
unfoldable pub use GrammarFaults.*
