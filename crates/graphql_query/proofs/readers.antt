pub mod Readable
pub mod Lifted
pub mod VariableAlternatives
pub mod SelectionAlternatives
pub mod DefinitionAlternatives
pub mod EqualParts
pub mod Views
pub mod Printable
unfoldable pub use Readable.*
unfoldable pub use Lifted.*
unfoldable pub use VariableAlternatives.*
unfoldable pub use SelectionAlternatives.*
unfoldable pub use DefinitionAlternatives.*
unfoldable pub use EqualParts.*
unfoldable pub use Views.*
unfoldable pub use Printable.*
