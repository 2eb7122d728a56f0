pub mod Groups
pub mod Meanings
pub mod Fitting
pub mod Following
pub mod Stacks
pub mod Numbers
pub mod Escapes
pub mod Spellings
pub mod Brackets
pub mod Lines
pub mod Checking
pub mod Parts
unfoldable pub use Numbers.*
unfoldable pub use Escapes.*
unfoldable pub use Spellings.*
