pub mod Classes
pub mod Items
pub mod ReaderOutcomes
pub mod Sound
pub mod Complete
pub mod Deterministic
pub mod Total
pub mod FirstFault
pub mod Exact
pub mod WholeTexts
pub mod Unseen
pub mod Leading
pub mod OneClass
pub mod Tight
pub mod Stopping
unfoldable pub use Classes.*
unfoldable pub use Items.*
unfoldable pub use ReaderOutcomes.*
unfoldable pub use Sound.*
unfoldable pub use Complete.*
unfoldable pub use Deterministic.*
unfoldable pub use Total.*
unfoldable pub use FirstFault.*
unfoldable pub use Exact.*
unfoldable pub use WholeTexts.*
unfoldable pub use Unseen.*
unfoldable pub use Leading.*
unfoldable pub use OneClass.*
unfoldable pub use Tight.*
unfoldable pub use Stopping.*
